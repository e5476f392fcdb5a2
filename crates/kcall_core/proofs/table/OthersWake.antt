-- Changes of the table that wake some of the others, one after another.
use Rattle.kcall_core.proofs.Prelude.{ℕ, ℤ, ◌<◌, ◌||◌, ◌∙◌, ◌≡◌, ap, arith, Bool, changed_at, Channel, channel_of, cond, each_changed, ended, false, family_wakes, get_or-set_other, get_or-set_same}
use Rattle.kcall_core.proofs.Prelude.{given, length, length-map, Live_state, nat_eq, None, Option, option_map, place_at, Process, refl, same_channel, Slots, Some, state_channel, state_status}
use Rattle.kcall_core.proofs.Prelude.{state_woken, status_of, sym, true, turn, unless_woken, without, woken, Zombie_state}
use Rattle.kcall_core.proofs.table.Woken.{place-each}
use Rattle.kcall_core.proofs.processes.Departs.{seat, seat_woken, OthersWake}
use Rattle.proc_table.specs.declared.channel.Channel.TheVariants as on
use Rattle.proc_table.specs.declared.process.State as table
pub use Rattle.kcall_core.specs.Closings.{parent_woken}

-- ---- one process

abbrev nobody : Channel → Bool
nobody channel = false

left-alone : (o : Option Channel) → unless_woken nobody o ≡ o
left-alone None = refl
left-alone (Some channel) = refl

-- what wakes by one set of channels and then by another wakes by both
woken-twice : (a b : Channel → Bool) (o : Option Channel) → unless_woken b (unless_woken a o) ≡ unless_woken (λ c. a c || b c) o
woken-twice a b None = refl
woken-twice a b (Some c) = by (a c)
  where
    by : (x : Bool) → unless_woken b (cond x None (Some c)) ≡ cond (x || b c) None (Some c)
    by true = refl
    by false = refl

woken-on : (channel : Channel) (p : Process) → channel_of (woken channel p) ≡ unless_woken (λ c. same_channel c channel) (channel_of p)
woken-on channel p = by p.state
  where
    left : (o : Option Channel) → without channel o ≡ unless_woken (λ c. same_channel c channel) o
    left None = refl
    left (Some c) = refl

    by : (s : table.State) → state_channel (state_woken channel s) ≡ unless_woken (λ c. same_channel c channel) (state_channel s)
    by (Live_state life) = left life.channel
    by (Zombie_state status) = refl

-- ---- all others

module _ {slot : ℕ} where
  -- each process changes, but not its pid
  pub others-mapped : (wakes : Channel → Bool) (f : Process → Process) (t u : Slots) → ((p : Process) → (f p).pid ≡ p.pid) → ((p : Process) → channel_of (f p) ≡ unless_woken wakes (channel_of p))
      → ((j : ℕ) → place_at u j ≡ option_map f (place_at t j)) → OthersWake slot wakes t u
  others-mapped wakes f t u pids channels places j other = ap (option_map seat) (places j) ∙ by (place_at t j)
    where
      by : (o : Option Process) → option_map seat (option_map f o) ≡ option_map (seat_woken wakes) o
      by None = refl
      by (Some p) = λ i. Some (pids p i, channels p i)

  -- one change after another
  pub others-join : (a b : Channel → Bool) (t u v : Slots) → OthersWake slot a t u → OthersWake slot b u v → OthersWake slot (λ c. a c || b c) t v
  others-join a b t u v first then_on j other = then_on j other ∙ again (place_at u j) ∙ ap (option_map further) (first j other) ∙ both (place_at t j)
    where
      further : ℕ × Option Channel → ℕ × Option Channel
      further e = (e.0, unless_woken b e.1)

      again : (o : Option Process) → option_map (seat_woken b) o ≡ option_map (λ (e : ℕ × Option Channel). (e.0, unless_woken b e.1)) (option_map seat o)
      again None = refl
      again (Some p) = refl

      both : (o : Option Process) → option_map (λ (e : ℕ × Option Channel). (e.0, unless_woken b e.1)) (option_map (seat_woken a) o) ≡ option_map (seat_woken (λ c. a c || b c)) o
      both None = refl
      both (Some p) = ap (λ (x : Option Channel). Some (p.pid, x)) (woken-twice a b (channel_of p))

  -- the same channels
  pub others-alike : (a b : Channel → Bool) (t u : Slots) → ((c : Channel) → a c ≡ b c) → OthersWake slot a t u → OthersWake slot b t u
  others-alike a b t u same wake j other = wake j other ∙ by (place_at t j)
    where
      alike : (o : Option Channel) → unless_woken a o ≡ unless_woken b o
      alike None = refl
      alike (Some c) = ap (λ (x : Bool). cond x None (Some c)) (same c)

      by : (o : Option Process) → option_map (seat_woken a) o ≡ option_map (seat_woken b) o
      by None = refl
      by (Some p) = ap (λ (x : Option Channel). Some (p.pid, x)) (alike (channel_of p))

-- ---- the changes of an end

-- its children go to pid 1, it is a zombie, and its parent and pid 1 wake
abbrev pub end_in : ℕ → ℕ → Option ℕ → ℤ → Slots → Slots
end_in slot pid parent status t = each_changed (woken (on.Children 1)) (parent_woken parent (changed_at slot (ended status) (each_changed (given pid 1) t)))

module _ (slot pid : ℕ) (parent : Option ℕ) (status : ℤ) where
  others-given : (t : Slots) → OthersWake slot nobody t (each_changed (given pid 1) t)
  others-given t = others-mapped nobody (given pid 1) t (each_changed (given pid 1) t) (λ p. refl) (λ p. sym (left-alone (channel_of p))) (place-each (given pid 1) t)

  others-ended : (t : Slots) → OthersWake slot nobody t (changed_at slot (ended status) t)
  others-ended t j other = ap (option_map seat) (get_or-set_other t.places slot j (option_map (ended status) (place_at t slot)) None other) ∙ by (place_at t j)
    where
      by : (o : Option Process) → option_map seat o ≡ option_map (seat_woken nobody) o
      by None = refl
      by (Some p) = ap (λ (x : Option Channel). Some (p.pid, x)) (sym (left-alone (channel_of p)))

  others-woken : (channel : Channel) (t : Slots) → OthersWake slot (λ c. same_channel c channel) t (each_changed (woken channel) t)
  others-woken channel t = others-mapped (λ c. same_channel c channel) (woken channel) t (each_changed (woken channel) t) (λ p. refl) (woken-on channel) (place-each (woken channel) t)

  abbrev parent_wakes : Option ℕ → Channel → Bool
  parent_wakes None c = false
  parent_wakes (Some q) c = same_channel c (on.Children q)

  others-parent : (o : Option ℕ) (t : Slots) → OthersWake slot (parent_wakes o) t (parent_woken o t)
  others-parent None t j other = by (place_at t j)
    where
      by : (o : Option Process) → option_map seat o ≡ option_map (seat_woken nobody) o
      by None = refl
      by (Some p) = ap (λ (x : Option Channel). Some (p.pid, x)) (sym (left-alone (channel_of p)))
  others-parent (Some q) t j other = others-woken (on.Children q) t j other

  -- together the channels of the family
  family : (o : Option ℕ) (c : Channel) → (((false || false) || parent_wakes o c) || same_channel c (on.Children 1)) ≡ family_wakes o c
  family None (on.Children q) = refl
  family (Some k) (on.Children q) = ap (λ (b : Bool). b || nat_eq q 1) (turn q k)
  family None (on.Bytes i) = refl
  family None (on.Room i) = refl
  family None on.Clock = refl
  family None on.Keys = refl
  family None on.Sending = refl
  family (Some k) (on.Bytes i) = refl
  family (Some k) (on.Room i) = refl
  family (Some k) on.Clock = refl
  family (Some k) on.Keys = refl
  family (Some k) on.Sending = refl

  -- the parent and pid 1 wake
  pub others-end : (t : Slots) → OthersWake slot (family_wakes parent) t (end_in slot pid parent status t)
  others-end t =
      let adopted : Slots = each_changed (given pid 1) t in
      let zombie : Slots = changed_at slot (ended status) adopted in
      let roused : Slots = parent_woken parent zombie in
      let two = others-join nobody nobody t adopted zombie (others-given t) (others-ended adopted) in
      let three = others-join (λ c. false || false) (parent_wakes parent) t zombie roused two (others-parent parent zombie) in
      let four = others-join (λ c. (false || false) || parent_wakes parent c) (λ c. same_channel c (on.Children 1)) t roused
      (end_in slot pid parent status t) three (others-woken (on.Children 1) roused) in
      others-alike (λ c. ((false || false) || parent_wakes parent c) || same_channel c (on.Children 1)) (family_wakes parent) t (end_in slot pid parent status t) (family parent) four

  -- ---- its own slot

  woken-zombie : (channel : Channel) (p : Process) → status_of p ≡ Some status → status_of (woken channel p) ≡ Some status
  woken-zombie channel p e = by p.state e
    where
      by : (s : table.State) → state_status s ≡ Some status → state_status (state_woken channel s) ≡ Some status
      by (Live_state life) f = f
      by (Zombie_state other) f = f

  -- a zombie of this status and pid is in the slot
  abbrev IsEnded : ℕ → Slots → Type 0
  IsEnded n t = (p : Process) × (place_at t slot ≡ Some p) × (p.pid ≡ n) × (status_of p ≡ Some status)

  ended-woken : (n : ℕ) (channel : Channel) (t : Slots) → IsEnded n t → IsEnded n (each_changed (woken channel) t)
  ended-woken n channel t (p, at, same, over) = (woken channel p, place-each (woken channel) t slot ∙ ap (option_map (woken channel)) at, same, woken-zombie channel p over)

  ended-parent : (n : ℕ) (o : Option ℕ) (t : Slots) → IsEnded n t → IsEnded n (parent_woken o t)
  ended-parent n None t e = e
  ended-parent n (Some q) t e = ended-woken n (on.Children q) t e

  pub own-end : (t : Slots) (p : Process) → slot < length t.places → place_at t slot ≡ Some p → IsEnded p.pid (end_in slot pid parent status t)
  own-end t p lt at =
      let adopted : Slots = each_changed (given pid 1) t in
      let here : place_at adopted slot ≡ Some (given pid 1 p) = place-each (given pid 1) t slot ∙ ap (option_map (given pid 1)) at in
      let zombie : Slots = changed_at slot (ended status) adopted in
      let over : place_at zombie slot ≡ Some (ended status (given pid 1 p)) =
      get_or-set_same adopted.places slot (option_map (ended status) (place_at adopted slot)) None
      (omega (arith, lt, length-map t.places (option_map (given pid 1)))) ∙ ap (option_map (ended status)) here in
      ended-woken p.pid (on.Children 1) (parent_woken parent zombie) (ended-parent p.pid parent zombie (ended status (given pid 1 p), over, refl, refl))
