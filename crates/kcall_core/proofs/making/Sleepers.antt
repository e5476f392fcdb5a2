-- Who sleeps and who wakes after a change of a whole kernel, whatever the outcome, and that no sleeper is ready afterwards: told of each process that slept.
use Rattle.kcall_core.proofs.Prelude.{ℕ, ℤ, ◌↔◌, ◌∙◌, ◌≡◌, ◌≢◌, ◌⊎◌, ap, Bool, both_ways, Channel, channel_of, cond, contains, descriptors_at, each_of, false, false_from_ne_true, Hart, held_at, inl}
use Rattle.kcall_core.proofs.Prelude.{inr, is_for, is_open, is_some, IsEnd, IsInCall, IsRunning, IsSome, IsSound, IsTable, IsWhole, Kernel, Live, live, live_of, None, none-some, NoReadySleeper, NPROC}
use Rattle.kcall_core.proofs.Prelude.{Option, option_map, or_nobody, or_parts, Outcome, pid_now, place_at, Process, ready, ready_is, refl, regs_at, same_Some, sleepers_below, SleepOnTheirChannels}
use Rattle.kcall_core.proofs.Prelude.{Sleeps, slot_now, Some, State, state_of, subst, sym, Ticked, true, turns_of, unless_woken, View, view, view_is, view_of, waits_for, WakesWhereDue, World}
use Rattle.kcall_core.proofs.Prelude.{world_of}
use Rattle.kcall_core.proofs.table.States.{running}
use Rattle.kcall_core.proofs.table.Observed.{live-held}
use Rattle.kcall_core.proofs.turns.Turned.{sleeps-is, sleeps-from, awake-is, sleeper-lives}

-- A process that sleeps, in its slot, on its channel
pub record Sleeper (k : Kernel) (q : ℕ) : Type 0 where
  pub slot : ℕ
  pub process : Process
  pub channel : Channel
  pub at : place_at k.table slot ≡ Some process
  pub named : process.pid ≡ q
  pub on-it : channel_of process ≡ Some channel

-- What becomes of those who slept: they sleep on, but for those who wake, and each waits for what it waited for. Nobody
-- else sleeps but process p, where it falls asleep on a channel. Those wake who are due after this outcome
pub record Sleeping (k : Kernel) (h : Hart) (k' : Kernel) (h' : Hart) (o : Outcome) (p : ℕ) (falls : Option Channel) (wakes : ℕ → Channel → Bool) : Type 0 where
  pub stays : (j : ℕ) (x : Process) (c : Channel) → place_at k.table j ≡ Some x → channel_of x ≡ Some c
      → (y : Process) × (place_at k'.table j ≡ Some y) × (y.pid ≡ x.pid) × (channel_of y ≡ cond (wakes x.pid c) None (Some c))
  pub slept : (j : ℕ) (y : Process) (c : Channel) → place_at k'.table j ≡ Some y → channel_of y ≡ Some c
      → ((x : Process) × (place_at k.table j ≡ Some x) × (y.pid ≡ x.pid) × (channel_of x ≡ Some c)) ⊎ ((y.pid ≡ p) × (falls ≡ Some c))
  pub itself : (c : Channel) (m : Live) → falls ≡ Some c → live (state_of k' h') p ≡ Some m → (is_for (waits_for (state_of k' h') p m) c ≡ true) × (ready (view_of (state_of k' h') p m) ≡ false)
  pub waits : (q : ℕ) (z : Sleeper k q) (l m : Live) → live (state_of k h) q ≡ Some l → live (state_of k' h') q ≡ Some m → waits_for (state_of k' h') q m ≡ waits_for (state_of k h) q l
  pub due : (q : ℕ) (z : Sleeper k q) (l m : Live) → live (state_of k h) q ≡ Some l → live (state_of k' h') q ≡ Some m
      → is_for (waits_for (state_of k h) q l) z.channel ≡ true → l.killed ≡ false → is_open (state_of k h) (waits_for (state_of k h) q l) ≡ false
      → (wakes q z.channel ≡ true)
      ↔ ((ready (view_of (state_of k' h') q m) ≡ true) ⊎ (IsInCall 13 (view_of (state_of k' h') q m) × (o ≡ Ticked)) ⊎ ((q ≡ 1) × IsInCall 3 (view_of (state_of k' h') q m) × IsEnd o))

-- ---- a place whose process is changed, so that it may wake but not fall asleep

-- who sleeps on slept
pub on-it-still : (wakes : Channel → Bool) (o : Option Channel) (c : Channel) → unless_woken wakes o ≡ Some c → o ≡ Some c
on-it-still wakes None c e = absurd (none-some c e)
on-it-still wakes (Some d) c e = by (wakes d) e
  where
    by : (b : Bool) → cond b None (Some d) ≡ Some c → Some d ≡ Some c
    by true e = absurd (none-some c e)
    by false e = e

module _ (wakes : ℕ → Channel → Bool) (f : Process → Process) (pids : (y : Process) → (f y).pid ≡ y.pid)
    (channels : (y : Process) → channel_of (f y) ≡ unless_woken (wakes y.pid) (channel_of y)) {a b : Option Process} (changed : b ≡ option_map f a) where
  pub changed-stays : (y : Process) (c : Channel) → a ≡ Some y → channel_of y ≡ Some c → (z : Process) × (b ≡ Some z) × (z.pid ≡ y.pid) × (channel_of z ≡ cond (wakes y.pid c) None (Some c))
  changed-stays y c at on-it = (f y, changed ∙ ap (option_map f) at, pids y, channels y ∙ ap (unless_woken (wakes y.pid)) on-it)

  pub changed-slept : (z : Process) (c : Channel) → b ≡ Some z → channel_of z ≡ Some c → (y : Process) × (a ≡ Some y) × (z.pid ≡ y.pid) × (channel_of y ≡ Some c)
  changed-slept z c at on-it = by a refl (sym changed ∙ at)
    where
      by : (o : Option Process) → a ≡ o → option_map f o ≡ Some z → (y : Process) × (a ≡ Some y) × (z.pid ≡ y.pid) × (channel_of y ≡ Some c)
      by None was e = absurd (none-some z e)
      by (Some y) was e =
          let same : f y ≡ z = same_Some (f y) z e in
          (y, was, ap (λ (r : Process). r.pid) (sym same) ∙ pids y, on-it-still (wakes y.pid) (channel_of y) c (sym (channels y) ∙ ap channel_of same ∙ on-it))

-- ---- one kernel

sleeper-in : (k : Kernel) (j : ℕ) (y : Process) (c : Channel) → place_at k.table j ≡ Some y → channel_of y ≡ Some c → Sleeper k y.pid
sleeper-in k j y c at on-it = record { slot = j; process = y; channel = c; at = at; named = refl; on-it = on-it }

sleeper : (k : Kernel) → IsTable k.table → (q : ℕ) → contains (sleepers_below k.table NPROC) q ≡ true → Sleeper k q
sleeper k is_table q e = let (j, y, c, at, named, on-it) = sleeps-from k.table is_table q e in subst (Sleeper k) named (sleeper-in k j y c at on-it)

-- it is live
its-live : (k : Kernel) (h : Hart) → IsTable k.table → (q : ℕ) (z : Sleeper k q)
    → live (state_of k h) q ≡ Some (live_of z.process (descriptors_at k.table z.slot) (held_at (each_of k.memories) z.slot) (regs_at k h z.slot))
its-live k h is_table q z = ap (live (state_of k h)) (sym z.named) ∙ live-held k h is_table z.slot z.process z.at (sleeper-lives z.process z.channel z.on-it)

-- it isn't the process that runs
module _ {k : Kernel} {h : Hart} (whole : IsWhole k h) (runs : IsRunning k) where
  pub elsewhere : (j : ℕ) (y : Process) (c : Channel) → place_at k.table j ≡ Some y → channel_of y ≡ Some c → j ≢ slot_now k
  elsewhere j y c at on-it e = none-some c (sym (whole.awake (slot_now k) y (running k h whole.sound runs).current (sym (ap (place_at k.table) e) ∙ at)) ∙ on-it)

  pub another : (q : ℕ) → Sleeper k q → q ≢ pid_now k
  another q z e =
      let now = running k h whole.sound runs in
      elsewhere z.slot z.process z.channel z.at z.on-it
      (whole.sound.table.pids.apart z.slot (slot_now k) z.process now.is.process z.at now.is.is
      (z.named ∙ e ∙ ap (λ (o : Option Process). (or_nobody o).pid) now.is.is))

-- where those wake that have to, and whoever falls asleep isn't ready, no sleeper is ready
pub none-ready : (w t : World) (o : Outcome) → WakesWhereDue w o t → ((q : ℕ) → Sleeps t.turns q → Sleeps w.turns q ⊎ ((v : View) → view t.state q ≡ Some v → ready v ≡ false)) → NoReadySleeper t
none-ready w t o due was q v asleep see = elim (was q asleep) [
  | inl before ↦ false_from_ne_true (ready v) (λ does. (due q v before see).1 (inl does) asleep)
  | inr shut ↦ shut v see
]

-- ---- before and after

module _ {k : Kernel} {h : Hart} {k' : Kernel} {h' : Hart} {o : Outcome} {p : ℕ} {falls : Option Channel} {wakes : ℕ → Channel → Bool}
    (whole : IsWhole k h) (sound : IsSound k' h') (x : Sleeping k h k' h' o p falls wakes) where
  abbrev s : State
  s = state_of k h

  abbrev t : State
  t = state_of k' h'

  -- who slept wakes exactly where it is due
  exactly : (q : ℕ) (v : View) (z : Sleeper k q) → contains (sleepers_below k.table NPROC) q ≡ true → view t q ≡ Some v
      → (wakes q z.channel ≡ true) ↔ ((ready v ≡ true) ⊎ (IsInCall 13 v × (o ≡ Ticked)) ⊎ ((q ≡ 1) × IsInCall 3 v × IsEnd o))
  unfolding turns_of
  exactly q v z asleep see =
      let was = its-live k h whole.sound.table q z in
      let l = live_of z.process (descriptors_at k.table z.slot) (held_at (each_of k.memories) z.slot) (regs_at k h z.slot) in
      let (m, is, same) = view_is t q (live t q) v see in
      let shut = or_parts l.killed (is_open s (waits_for s q l)) (sym (ready_is s q l) ∙ whole.unready q (view_of s q l) asleep (ap (option_map (view_of s q)) was)) in
      let its : is_for (waits_for s q l) z.channel ≡ true =
      subst (λ (n : ℕ). is_for (waits_for s n l) z.channel ≡ true) z.named
      (whole.channels z.slot z.process l z.channel z.at (ap (live s) z.named ∙ was) z.on-it) in
      subst (λ (u : View). (wakes q z.channel ≡ true) ↔ ((ready u ≡ true) ⊎ (IsInCall 13 u × (o ≡ Ticked)) ⊎ ((q ≡ 1) × IsInCall 3 u × IsEnd o))) same (x.due q z l m was is its shut.0 shut.1)

  wakes-up : (q : ℕ) (z : Sleeper k q) → wakes q z.channel ≡ true → contains (sleepers_below k'.table NPROC) q ≡ false
  wakes-up q z e =
      let (y, at, named, left) = x.stays z.slot z.process z.channel z.at z.on-it in
      let up : channel_of y ≡ None = left ∙ ap (λ (n : ℕ). cond (wakes n z.channel) None (Some z.channel)) z.named ∙ ap (λ (b : Bool). cond b None (Some z.channel)) e in
      ap (contains (sleepers_below k'.table NPROC)) (sym (named ∙ z.named)) ∙ awake-is k'.table sound.table z.slot y at up

  sleeps-on : (q : ℕ) (z : Sleeper k q) → wakes q z.channel ≡ false → contains (sleepers_below k'.table NPROC) q ≡ true
  sleeps-on q z e =
      let (y, at, named, left) = x.stays z.slot z.process z.channel z.at z.on-it in
      let still : channel_of y ≡ Some z.channel = left ∙ ap (λ (n : ℕ). cond (wakes n z.channel) None (Some z.channel)) z.named ∙ ap (λ (b : Bool). cond b None (Some z.channel)) e in
      ap (contains (sleepers_below k'.table NPROC)) (sym (named ∙ z.named)) ∙ sleeps-is k'.table sound.table z.slot y z.channel at still

  pub wakes-due : (halted : Option ℤ) → WakesWhereDue (world_of k h None) o (world_of k' h' halted)
  unfolding turns_of
  wakes-due halted q v asleep see =
      let z = sleeper k whole.sound.table q asleep in
      let is = exactly q v z asleep see in (
        λ awake. is.0 (by q z (wakes q z.channel) refl awake),
        λ due. λ does. both_ways _ (wakes-up q z (is.1 due)) does,
      )
    where
      by : (q : ℕ) (z : Sleeper k q) (b : Bool) → wakes q z.channel ≡ b → ¬ (contains (sleepers_below k'.table NPROC) q ≡ true) → wakes q z.channel ≡ true
      by q z true e awake = e
      by q z false e awake = absurd (awake (sleeps-on q z e))

  -- who sleeps slept, or is process p
  pub slept-before : (q : ℕ) → contains (sleepers_below k'.table NPROC) q ≡ true → (contains (sleepers_below k.table NPROC) q ≡ true) ⊎ ((q ≡ p) × IsSome falls)
  slept-before q e =
      let (j, y, c, at, named, on-it) = sleeps-from k'.table sound.table q e in
      elim (x.slept j y c at on-it) [
        | inl old ↦ inl (subst (λ (n : ℕ). contains (sleepers_below k.table NPROC) n ≡ true) (sym old.2 ∙ named) (sleeps-is k.table whole.sound.table j old.0 c old.1 old.3))
        | inr new ↦ inr (sym named ∙ new.0, ap is_some new.1)
      ]

  -- on the channel of what it waits for
  pub on-channels : SleepOnTheirChannels k' h'
  on-channels j y n c at is on-it = elim (x.slept j y c at on-it) [
    | inl old ↦
        let z = sleeper-in k j old.0 c old.1 old.3 in
        let had = its-live k h whole.sound.table old.0.pid z in
        ap (λ (q : ℕ). is_for (waits_for t q n) c) old.2
        ∙ ap (λ a. is_for a c) (x.waits old.0.pid z _ n had (sym (ap (live t) old.2) ∙ is))
        ∙ whole.channels j old.0 _ c old.1 had old.3
    | inr new ↦ ap (λ (q : ℕ). is_for (waits_for t q n) c) new.0 ∙ (x.itself c n new.1 (sym (ap (live t) new.0) ∙ is)).0
  ]

  its-view : (q : ℕ) (v : View) → q ≡ p → IsSome falls → view t q ≡ Some v → ready v ≡ false
  its-view q v e asleep see =
      let (m, is, same) = view_is t q (live t q) v see in
      let (c, is-on) = the-channel falls asleep in
      sym (ap ready same) ∙ ap (λ (n : ℕ). ready (view_of t n m)) e ∙ (x.itself c m is-on (sym (ap (live t) e) ∙ is)).1
    where
      the-channel : (a : Option Channel) → IsSome a → (c : Channel) × (a ≡ Some c)
      the-channel None some = let no : ⊥ = cc in absurd no
      the-channel (Some c) some = (c, refl)

  -- and couldn't go on
  pub unready : NoReadySleeper (world_of k' h' None)
  unfolding turns_of
  unready = none-ready (world_of k h None) (world_of k' h' None) o (wakes-due None)
      (λ q asleep. elim (slept-before q asleep) [ inl before ↦ inl before | inr ran ↦ inr (λ v see. its-view q v ran.0 ran.1 see) ])
