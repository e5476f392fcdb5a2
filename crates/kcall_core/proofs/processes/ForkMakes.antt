-- A call that makes a process: what fork has to leave to make the step that its row tells.
use Rattle.kcall_core.proofs.Prelude.{ℕ, ◌+◌, ◌||◌, ◌∙◌, ◌≡◌, ◌≢◌, After, Alive, ap, AreCounted, arith, Blocked, Bool, both_ways, Call, Called, cannot_fork, cases_eq, Channel, channel_of, Contains}
use Rattle.kcall_core.proofs.Prelude.{contains, false, fork, fork_law, fork_same, forked, forked_child, forked_state, forking, frame_count, get, get_other, gone_with, Hart, in_call, inl, inr, is_open}
use Rattle.kcall_core.proofs.Prelude.{is_some, IsBlocked, IsLive, IsLowestFree, IsRunning, IsSome, IsSound, IsWhole, Kernel, keys, Live, live, live_now, live_part, ltb-false, Makes, MatchOption}
use Rattle.kcall_core.proofs.Prelude.{nat_lt, newborn, None, none-some, NPROC, opens_forked, Option, Own, PID_MAX, pid_now, place_at, place_now, pos, price, Process, refl, same_Some, sleepers_below}
use Rattle.kcall_core.proofs.Prelude.{slot_now, slots_are_full, slots_of, Some, State, state_of, subst, sym, true, turns_of, unless, View, view_now, view_of, waits_for, waits_stay, WellFormed}
use Rattle.kcall_core.proofs.table.States.{running}
use Rattle.kcall_core.proofs.turns.Turned.{slot-is, slot-from, awake-is, live-is}
use Rattle.kcall_core.proofs.table.OnePlace.{in-call-channel}
use Rattle.kcall_core.proofs.turns.WhoRuns.{place-is}
use Rattle.kcall_core.proofs.turns.StepSlots.{SlotsAfter, no-slot}
use Rattle.kcall_core.proofs.making.Buffers.{is_in_no_call, ended-buffers}
use Rattle.kcall_core.proofs.making.Making.{Itself, Others, made}
use Rattle.file_table.specs.OpenFiles as files
use Rattle.kernel_spec.specs.views.Processes as meaning
use Rattle.kernel_spec.proofs.well.WellLaws as well

-- The process that runs has a child in a slot that was free, the lowest; it has its answer. The slots, the pids and the frames suffice
pub record IsBorn (k : Kernel) (h : Hart) (k' : Kernel) (h' : Hart) (child : ℕ) : Type 0 where
  pub sound : IsSound k' h'
  pub files : files.IsTable k'.files
  pub counted : AreCounted k'.files k'.table
  pub frames : frame_count k' ≡ frame_count k
  pub last : k'.table.last ≡ k.table.last
  pub current : k'.current ≡ k.current
  pub vacant : place_at k.table child ≡ None
  pub newborn : place_at k'.table child ≡ Some (newborn k.table.next (Some (pid_now k)))
  pub own : place_at k'.table (slot_now k) ≡ Some (in_call None (place_now k))
  pub others : (j : ℕ) → j ≢ slot_now k → j ≢ child → place_at k'.table j ≡ place_at k.table j
  pub lowest : IsLowestFree (turns_of k None) child
  pub slots : slots_are_full (view_now k h) ≡ false
  pub pids : nat_lt PID_MAX (state_of k h).next_pid ≡ false
  pub room : nat_lt (state_of k h).free (price (live_now k h).image + 1) ≡ false
  pub state : state_of k' h' ≡ forked_state (pid_now k) (live_now k h) (state_of k h)

module _ {k : Kernel} {h : Hart} {k' : Kernel} {h' : Hart} {child : ℕ} (whole : IsWhole k h) (runs : IsRunning k) (x : IsBorn k h k' h' child) (c : Call) where
  abbrev s : State
  s = state_of k h

  abbrev p : ℕ
  p = pid_now k

  abbrev l : Live
  l = live_now k h

  abbrev v : View
  v = view_now k h

  was : IsLive s p l
  was = live-is k h whole.sound runs

  able : cannot_fork v ≡ false
  unfolding view_of
  able = (λ i. x.slots i || x.pids i || x.room i)

  row : fork c v ≡ forked c v
  row = fork_same c v ∙ ap (λ b. unless b c v (λ _. forked c v)) able

  abbrev t : State
  t = forked_state p l s

  old : (q : ℕ) (m : Live) → live s q ≡ Some m → q ≢ s.next_pid
  old q m is e = by (get s.processes q) refl is
    where
      by : (o : Option meaning.Process) → get s.processes q ≡ o → live_part o ≡ Some m → ⊥
      by None at f = none-some m f
      by (Some y) at f = let r = whole.well.pids q (ap is_some at) in omega (arith, r.1, e)

  live-other : (q : ℕ) (m : Live) → q ≢ p → live s q ≡ Some m → live t q ≡ live s q
  live-other q m other is =
      ap live_part (get_other _ s.next_pid (Alive (forked_child s p l)) q (old q m is) ∙ get_other s.processes p (Alive (forking s l)) q other)

  laws : After s p l (fork c v) t
  laws = fork_law (frame_count k) s p l c whole.well was able

  -- a slot that isn't vacant isn't the child's
  apart : (j : ℕ) (y : Process) → place_at k.table j ≡ Some y → j ≢ child
  apart j y at e = none-some y (sym x.vacant ∙ sym (ap (place_at k.table) e) ∙ at)

  itself : Itself k h k' h' None
  itself = record {
    after = in_call None (place_now k);
    is = x.own;
    pid = refl;
    channel = in-call-channel None (place_now k) ∙ whole.awake (slot_now k) (place_now k) (running k h whole.sound runs).current (place-is k h whole.sound runs);
    current = x.current ∙ (running k h whole.sound runs).current;
    waits = λ d m is lives. absurd (none-some d is);
  }

  nothing-opens : (b : Bool) → (b ≡ true → ⊥) → false ≡ b
  nothing-opens true f = absurd (f refl)
  nothing-opens false f = refl

  others : Others k h k' h' (λ q d. false)
  others = record {
    stays = λ j y d other at on. (y, x.others j other (apart j y at) ∙ at, refl, on);
    slept = slept;
    waits = subst (λ u. (q : ℕ) (m n : Live) → q ≢ p → live s q ≡ Some m → live u q ≡ Some n → (waits_for u q n ≡ waits_for s q m) × (m.killed ≡ true → n.killed ≡ true)) (sym x.state)
        (waits_stay (frame_count k) s p l whole.well was).3;
    due = λ q m n d other is now for-d unmarked shut.
        let same : n ≡ m = same_Some n m (sym now ∙ ap (λ (u : State). live u q) x.state ∙ live-other q m other is ∙ is) in
        (nothing-opens (is_open t (waits_for s q m)) (λ opens. opens_forked (frame_count k) s p l whole.well was (waits_for s q m) shut opens))
        ∙ (λ i. (sym (ap (λ (y : Live). y.killed) same ∙ unmarked)) i || is_open (sym x.state i) (waits_for s q m));
  }
    where
      slept : (j : ℕ) (y : Process) (d : Channel) → j ≢ slot_now k → place_at k'.table j ≡ Some y → channel_of y ≡ Some d
          → (z : Process) × (place_at k.table j ≡ Some z) × (y.pid ≡ z.pid) × (channel_of z ≡ Some d)
      slept j y d other at on = elim (cases_eq j child) [
        | inl e ↦
            let same : y ≡ newborn k.table.next (Some p) = same_Some y (newborn k.table.next (Some p)) (sym at ∙ ap (place_at k'.table) e ∙ x.newborn) in
            absurd (none-some d (sym (ap channel_of same) ∙ on))
        | inr new ↦ (y, sym (x.others j other new) ∙ at, refl, on)
      ]

  -- ---- the slots

  kept-slot : (q j : ℕ) → get (slots_of k.table) q ≡ Some j → get (slots_of k'.table) q ≡ Some j
  kept-slot q j e =
      let (y, at, named, below) = slot-from k.table whole.sound.table j q e in
      elim (cases_eq j (slot_now k)) [
        | inl here ↦
            let same : place_now k ≡ y = same_Some (place_now k) y (sym (place-is k h whole.sound runs) ∙ sym (ap (place_at k.table) here) ∙ at) in
            ap (get (slots_of k'.table)) (sym named ∙ sym (ap (λ (z : Process). z.pid) same))
            ∙ slot-is k'.table x.sound.table j (in_call None (place_now k)) (ap (place_at k'.table) here ∙ x.own)
        | inr other ↦ ap (get (slots_of k'.table)) (sym named) ∙ slot-is k'.table x.sound.table j y (x.others j other (apart j y at) ∙ at)
      ]

  slots : SlotsAfter k k' (fork c v)
  unfolding turns_of view_of state_of
  slots = record {
    held = λ q among some. by q (get (slots_of k.table) q) refl some;
    given_up = λ q absent. no-slot k' h' x.sound.table q (λ among. absent (subst (λ pids. Contains pids q) (ap (λ (u : State). keys u.processes) x.state ∙ laws.left.pids) among));
    newborn = subst (λ (o : Own). MatchOption o.child (Unit {0})
        (λ d. ((slot : ℕ) × (get (slots_of k'.table) d.pid ≡ Some slot) × IsLowestFree (turns_of k None) slot)
        × ¬ (contains (sleepers_below k'.table NPROC) d.pid ≡ true))) (sym row) born;
  }
    where
      by : (q : ℕ) (o : Option ℕ) → get (slots_of k.table) q ≡ o → IsSome o → get (slots_of k'.table) q ≡ get (slots_of k.table) q
      by q None e some = let no : ⊥ = cc in absurd no
      by q (Some j) e some = kept-slot q j e ∙ sym e

      born : ((slot : ℕ) × (get (slots_of k'.table) s.next_pid ≡ Some slot) × IsLowestFree (turns_of k None) slot) × ¬ (contains (sleepers_below k'.table NPROC) s.next_pid ≡ true)
      born = (
        (child, slot-is k'.table x.sound.table child (newborn k.table.next (Some p)) x.newborn, x.lowest),
        λ sleeps. both_ways _ (awake-is k'.table x.sound.table child (newborn k.table.next (Some p)) x.newborn refl) sleeps,
      )

  -- and it answers the child's pid
  pub fork-answer : (fork c v).answer ≡ Called c.number (pos s.next_pid)
  unfolding view_of
  fork-answer = ap (λ (o : Own). o.answer) row

  after : After s p l (fork c v) (state_of k' h')
  after = subst (After s p l (fork c v)) (sym x.state) laws

  pub fork-makes : Makes k h (fork c v) k' h'
  unfolding turns_of
  fork-makes = made whole runs (record {
    leaves = record {
      sound = x.sound;
      well = subst (WellFormed (frame_count k)) (sym x.state) (well.forked (frame_count k) s p l whole.well was (ltb-false s.free (price l.image + 1) x.room));
      files = x.files;
      counted = x.counted;
      frames = x.frames;
      buffers = ended-buffers s p l (fork c v) (state_of k' h') after (ap (λ (o : Own). is_in_no_call o.next) row) (ap (λ (o : Own). is_in_no_call o.child) row) whole.buffers;
      itself = itself;
      others = others;
    };
    last = x.last;
    slots = slots;
    after = after;
    alive = ap (λ (o : Own). gone_with o.answer) row;
    blocked = λ b. absurd (not-blocked b);
    sleeps = λ some. let no : ⊥ = cc in absurd no;
  })
    where
      not-blocked : IsBlocked (fork c v).answer → ⊥
      not-blocked (n, is) = let e : Called c.number (pos v.next_pid) ≡ Blocked n = sym (ap (λ (o : Own). o.answer) row) ∙ is in cc
