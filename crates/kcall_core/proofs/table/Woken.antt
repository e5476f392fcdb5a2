-- Sleepers wake.
use Rattle.kcall_core.proofs.Prelude.{[], ℕ, ◌||◌, ◌∙◌, ◌∷◌, ◌≡◌, ap, arith, Bool, by_pid, cases_lt, Channel, channel_of, cond, each_changed, entry_at, false, fun_ext, get, get_or_past, Hart, Held}
use Rattle.kcall_core.proofs.Prelude.{inl, inr, IsSound, Kernel, length, length-map, List, Live_state, map, None, NPROC, Option, option_map, option_map_id, place_at, place_is_live, Process}
use Rattle.kcall_core.proofs.Prelude.{process_of, refl, Registers, same_channel, Slots, Some, state_channel, state_of, state_status, state_woken, state_woken_by, status_of, sym, true, unless_woken}
use Rattle.kcall_core.proofs.Prelude.{without, woken, woken_by, Zombie_state}
use Rattle.std.proofs.lemmas.List.{get_or-map}
use Rattle.kcall_core.proofs.table.Adopted.{changed-state, changed-sound}
use Rattle.proc_table.specs.declared.process.State as table

-- ---- one process

-- those on one channel wake
pub woken-is : (wakes : Channel → Bool) (on : Channel) → ((c : Channel) → wakes c ≡ same_channel c on) → (p : Process) → woken on p ≡ woken_by wakes p
woken-is wakes on is p = ap (λ s. record p { state = s }) (by p.state)
  where
    left : (o : Option Channel) → without on o ≡ unless_woken wakes o
    left None = refl
    left (Some c) = ap (λ b. cond b None (Some c)) (sym (is c))

    by : (s : table.State) → state_woken on s ≡ state_woken_by wakes s
    by (Live_state life) = ap (λ o. Live_state (record life { channel = o })) (left life.channel)
    by (Zombie_state status) = refl

-- nobody wakes
pub woken-none : (wakes : Channel → Bool) → ((c : Channel) → wakes c ≡ false) → (p : Process) → woken_by wakes p ≡ p
woken-none wakes none p = ap (λ s. record p { state = s }) (by p.state)
  where
    left : (o : Option Channel) → unless_woken wakes o ≡ o
    left None = refl
    left (Some c) = ap (λ b. cond b None (Some c)) (none c)

    by : (s : table.State) → state_woken_by wakes s ≡ s
    by (Live_state life) = ap (λ o. Live_state (record life { channel = o })) (left life.channel)
    by (Zombie_state status) = refl

-- those on some channels wake, and then those on others
pub woken-twice : (first then_on both : Channel → Bool) → ((c : Channel) → (first c || then_on c) ≡ both c) → (p : Process) → woken_by then_on (woken_by first p) ≡ woken_by both p
woken-twice first then_on both is p = ap (λ s. record p { state = s }) (by p.state)
  where
    one : (c : Channel) (b : Bool) → unless_woken then_on (cond b None (Some c)) ≡ cond (b || then_on c) None (Some c)
    one c true = refl
    one c false = refl

    left : (o : Option Channel) → unless_woken then_on (unless_woken first o) ≡ unless_woken both o
    left None = refl
    left (Some c) = one c (first c) ∙ ap (λ b. cond b None (Some c)) (is c)

    by : (s : table.State) → state_woken_by then_on (state_woken_by first s) ≡ state_woken_by both s
    by (Live_state life) = ap (λ o. Live_state (record life { channel = o })) (left life.channel)
    by (Zombie_state status) = refl

-- who sleeps on one of them sleeps no more
pub woken-channel : (wakes : Channel → Bool) (p : Process) → channel_of (woken_by wakes p) ≡ unless_woken wakes (channel_of p)
woken-channel wakes p = by p.state
  where
    by : (s : table.State) → state_channel (state_woken_by wakes s) ≡ unless_woken wakes (state_channel s)
    by (Live_state life) = refl
    by (Zombie_state status) = refl

pub woken_by-status : (wakes : Channel → Bool) (p : Process) → status_of (woken_by wakes p) ≡ status_of p
woken_by-status wakes p = by p.state
  where
    by : (s : table.State) → state_status (state_woken_by wakes s) ≡ state_status s
    by (Live_state life) = refl
    by (Zombie_state status) = refl

pub woken_by-means : (wakes : Channel → Bool) (x : Process) (files : List (Option ℕ)) (held : Held) (regs : Registers) → process_of (woken_by wakes x) files held regs ≡ process_of x files held regs
woken_by-means wakes x files held regs = by x.state
  where
    by : (s : table.State) → process_of (record x { state = state_woken_by wakes s }) files held regs ≡ process_of (record x { state = s }) files held regs
    by (Live_state life) = refl
    by (Zombie_state status) = refl

-- ---- the table

pub place-each : (f : Process → Process) (t : Slots) (j : ℕ) → place_at (each_changed f t) j ≡ option_map f (place_at t j)
place-each f t j = elim (cases_lt j (length t.places)) [
  | inl lt ↦ get_or-map (option_map f) t.places j None None lt
  | inr ge ↦ get_or_past (map (option_map f) t.places) j None (omega (arith, ge, length-map t.places (option_map f))) ∙ sym (ap (option_map f) (get_or_past t.places j None ge))
]

-- whether a live process is in a place
pub live-woken : (wakes : Channel → Bool) (o : Option Process) → place_is_live (option_map (woken_by wakes) o) ≡ place_is_live o
live-woken wakes None = refl
live-woken wakes (Some p) = by p.state
  where
    by : (s : table.State) → place_is_live (Some (record p { state = state_woken_by wakes s })) ≡ place_is_live (Some (record p { state = s }))
    by (Live_state life) = refl
    by (Zombie_state status) = refl

pub each-woken : (wakes : Channel → Bool) (on : Channel) (t : Slots) → ((c : Channel) → wakes c ≡ same_channel c on) → each_changed (woken on) t ≡ each_changed (woken_by wakes) t
each-woken wakes on t is = ap (λ f. each_changed f t) (fun_ext (woken-is wakes on is))

pub each-none : (wakes : Channel → Bool) (t : Slots) → ((c : Channel) → wakes c ≡ false) → t ≡ each_changed (woken_by wakes) t
each-none wakes t none = ap (λ xs. record t { places = xs }) (sym (all t.places))
  where
    one : (o : Option Process) → option_map (woken_by wakes) o ≡ o
    one None = refl
    one (Some p) = ap Some (woken-none wakes none p)

    all : (xs : List (Option Process)) → map (option_map (woken_by wakes)) xs ≡ xs
    all [] = refl
    all (x ∷ xs) = λ i. one x i ∷ all xs i

pub option-twice : (f g u : Process → Process) → ((p : Process) → g (f p) ≡ u p) → (o : Option Process) → option_map g (option_map f o) ≡ option_map u o
option-twice f g u is None = refl
option-twice f g u is (Some p) = ap Some (is p)

-- ---- the kernel: who sleeps is no part of the state

module _ (k k' : Kernel) (wakes : Channel → Bool) (table : k'.table ≡ each_changed (woken_by wakes) k.table) (rest : k' ≡ record k { table = k'.table }) where
  pub stirred-state : (h : Hart) → state_of k' h ≡ state_of k h
  unfolding state_of
  stirred-state h = changed-state k k' (woken_by wakes) (λ x. x) table rest (λ x. refl) (woken_by-status wakes) (woken_by-means wakes) h
      (by_pid (entry_at k h) NPROC) (λ q. option_map_id (get (by_pid (entry_at k h) NPROC) q))

  pub stirred-sound : (h : Hart) → IsSound k h → IsSound k' h
  stirred-sound h sound = changed-sound k k' (woken_by wakes) (λ x. x) table rest (λ x. refl) (woken_by-status wakes) (woken_by-means wakes) h sound
