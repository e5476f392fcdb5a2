-- The same events, sent to two worlds that can't be told apart, give the same outcomes, and leave two worlds that can't be told apart.
use Rattle.kernel_spec.proofs.Prelude.{[], ℕ, ℤ, ◌%◌, ◌+◌, ◌<◌, ◌∙◌, ◌∷◌, ◌≡◌, ◌≤◌, ap, AreAlike, AreShown, arith, CLOCK_ROUND, Console, contains, distance, Event, events, first_sent, get, Halted}
use Rattle.kernel_spec.proofs.Prelude.{HaltedRun, HasSlot, HasSlots, Idle, is_some, IsButWoken, IsNearest, IsOrderly, IsRunnable, IsSome, Key, KeyHappens, line, Live, live, nat_cmp-IsAntisymmetric}
use Rattle.kernel_spec.proofs.Prelude.{nat_cmp_total, None, NPROC, Option, option_map, Outcome, own, Promised, refl, Run, RunHappens, same_set, same_Some, same_test, Send, SendHappens, Sent, sent}
use Rattle.kernel_spec.proofs.Prelude.{Sleeps, Some, State, StateAfter, Step_of, StepOf, subst, sym, TakesNearest, Tick, Ticked, TickHappens, Turn, Turns, TurnsAfter, TurnTaken, Typed, View, view}
use Rattle.kernel_spec.proofs.Prelude.{view_of, WakesWhereDue, World}
use Rattle.kernel_spec.specs.laws.Replays.{FirstIsOrderly, StaysOrderly, EventIsDetermined, RunIsDetermined, ReplayIsTheSame}
use Rattle.kernel_spec.proofs.turns.KeepsSlots.{slots_stay}
use Rattle.kernel_spec.proofs.well.FirstWell.{first_well, first_slots, nobody_sleeps}
use Rattle.kernel_spec.proofs.runs.AlikeSteps.{still_asleep, alike_step, sleepers_after}
use Rattle.kernel_spec.proofs.Common.{is_some-map, same_first, same_rest, same_Ok}

-- ---- a clock or a console that changes

-- the state with this clock and this console
abbrev timed : State → ℕ → Console → State
timed s clock console = record s { clock = clock; console = console }

-- and a view of it
abbrev timed_as : ℕ → Console → View → View
timed_as clock console v = record v { clock = clock; console = console }

timed_view : (s : State) (clock : ℕ) (console : Console) (p : ℕ) → view (timed s clock console) p ≡ option_map (timed_as clock console) (view s p)
unfolding view_of
timed_view s clock console p = by (live s p)
  where
    by : (o : Option Live) → option_map (view_of (timed s clock console) p) o ≡ option_map (timed_as clock console) (option_map (view_of s p) o)
    by None = refl
    by (Some l) = refl

module _ (v w : World) (alike : AreAlike v w) (clock : ℕ) (console : Console) (a b : Turns) (turns : a ≡ b) where
  timed_alike : AreAlike (record { state = timed v.state clock console; turns = a }) (record { state = timed w.state clock console; turns = b })
  timed_alike = record {
    views = λ p. timed_view v.state clock console p ∙ ap (option_map (timed_as clock console)) (alike.views p) ∙ sym (timed_view w.state clock console p);
    pids = alike.pids;
    console = refl;
    clock = refl;
    next_pid = alike.next_pid;
    free = alike.free;
    programs = alike.programs;
    turns = turns;
    files = alike.files;
    pipes = alike.pipes;
  }

  timed_after : (s r : State) → s ≡ timed v.state clock console → r ≡ timed w.state clock console → AreAlike (record { state = s; turns = a }) (record { state = r; turns = b })
  timed_after s r e f = there
    where
      there : AreAlike (record { state = s; turns = a }) (record { state = r; turns = b })
      there = subst (λ (x : State). AreAlike (record { state = x; turns = a }) (record { state = r; turns = b })) (sym e)
          (subst (λ (x : State). AreAlike (record { state = timed v.state clock console; turns = a }) (record { state = x; turns = b })) (sym f) timed_alike)

-- ---- sleepers that wake

module _ (v w t u : World) (o : Outcome) (current : Option ℕ) (alike : AreAlike v w) (live_v : (p : ℕ) → Sleeps v.turns p → IsSome (view v.state p))
    (same : (q : ℕ) → view t.state q ≡ view u.state q) (lives : (q : ℕ) → is_some (view t.state q) ≡ is_some (view v.state q))
    (wakes_v : WakesWhereDue v o t) (wakes_w : WakesWhereDue w o u) (woken_v : IsButWoken (record v.turns { current = current }) t.turns)
    (woken_w : IsButWoken (record w.turns { current = current }) u.turns) where
  asleep_too : (q : ℕ) → Sleeps t.turns q → Sleeps u.turns q
  asleep_too q asleep =
      let before : Sleeps v.turns q = woken_v.1 q asleep in
      still_asleep v w t u o wakes_v wakes_w same q before (subst (λ (turns : Turns). Sleeps turns q) alike.turns before) (sym (ap is_some (same q)) ∙ lives q ∙ live_v q before) asleep

  asleep_back : (q : ℕ) → Sleeps u.turns q → Sleeps t.turns q
  asleep_back q asleep =
      let too : Sleeps w.turns q = woken_w.1 q asleep in
      let before : Sleeps v.turns q = subst (λ (turns : Turns). Sleeps turns q) (sym alike.turns) too in
      still_asleep w v u t o wakes_w wakes_v (λ q. sym (same q)) q too before (lives q ∙ live_v q before) asleep

  woken_turns : t.turns ≡ u.turns
  woken_turns =
      let sleepers = same_set nat_cmp_total nat_cmp-IsAntisymmetric t.turns.sleepers u.turns.sleepers
      (λ q. same_test (contains t.turns.sleepers q) (contains u.turns.sleepers q) (asleep_too q) (asleep_back q)) in
      woken_v.0 ∙ (λ i. record (alike.turns i) { current = current; sleepers = sleepers i }) ∙ sym woken_w.0

-- ---- an event outside of steps that changes the clock or the console

module _ (v w t u : World) (o : Outcome) (current : Option ℕ) (clock : ℕ) (console : Console) (alike : AreAlike v w) (orderly : IsOrderly v)
    (state_t : t.state ≡ timed v.state clock console) (state_u : u.state ≡ timed w.state clock console)
    (wakes_v : WakesWhereDue v o t) (wakes_w : WakesWhereDue w o u) (woken_v : IsButWoken (record v.turns { current = current }) t.turns)
    (woken_w : IsButWoken (record w.turns { current = current }) u.turns) where
  view_t : (q : ℕ) → view t.state q ≡ option_map (timed_as clock console) (view v.state q)
  view_t q = ap (λ (s : State). view s q) state_t ∙ timed_view v.state clock console q

  same_views : (q : ℕ) → view t.state q ≡ view u.state q
  same_views q = view_t q ∙ ap (option_map (timed_as clock console)) (alike.views q) ∙ sym (ap (λ (s : State). view s q) state_u ∙ timed_view w.state clock console q)

  lives : (q : ℕ) → is_some (view t.state q) ≡ is_some (view v.state q)
  lives q = ap is_some (view_t q) ∙ is_some-map (timed_as clock console) (view v.state q)

  timed_event : AreAlike t u
  timed_event = timed_after v w alike clock console t.turns u.turns
      (woken_turns v w t u o current alike orderly.sleepers same_views lives wakes_v wakes_w woken_v woken_w) t.state u.state state_t state_u

  timed_sleepers : (q : ℕ) → Sleeps t.turns q → IsSome (view t.state q)
  timed_sleepers q asleep = lives q ∙ orderly.sleepers q (woken_v.1 q asleep)

-- ---- a turn

module _ (v w : World) (alike : AreAlike v w) (slots : HasSlots v.state v.turns) where
  runnable_too : (p : ℕ) → IsRunnable v p → IsRunnable w p
  runnable_too p h = (sym (ap is_some (alike.views p)) ∙ h.0, λ asleep. h.1 (subst (λ (turns : Turns). Sleeps turns p) (sym alike.turns) asleep))

  -- the nearest process is one
  one_nearest : (p q i j : ℕ) → IsRunnable v p → IsRunnable v q → IsNearest v p → IsNearest v q → HasSlot v.turns p i → HasSlot v.turns q j → p ≡ q
  one_nearest p q i j runs_p runs_q near_p near_q mine its =
      let a : distance v.turns.last i ≤ distance v.turns.last j = near_p q i j runs_q mine its in
      let b : distance v.turns.last j ≤ distance v.turns.last i = near_q p j i runs_p its mine in
      let last : v.turns.last < NPROC = slots.last in
      let below_i : i < NPROC = slots.below p i mine in
      let below_j : j < NPROC = slots.below q j its in
      let same : i ≡ j = same_distance v.turns.last i j last below_i below_j a b in
      slots.apart p q j (mine ∙ ap Some same) its
    where
      same_distance : (last i j : ℕ) → last < NPROC → i < NPROC → j < NPROC → distance last i ≤ distance last j → distance last j ≤ distance last i → i ≡ j
      same_distance last i j x y z a b = omega (arith, x, y, z, a, b)

nearest_there : (v w : World) (p : ℕ) → AreAlike v w → IsNearest w p → IsNearest v p
nearest_there v w p alike near q i j runs mine its =
    let back : IsRunnable w q = (sym (ap is_some (alike.views q)) ∙ runs.0, λ asleep. runs.1 (subst (λ (turns : Turns). Sleeps turns q) (sym alike.turns) asleep)) in
    subst (λ (turns : Turns). distance turns.last i ≤ distance turns.last j) (sym alike.turns)
    (near q i j back (subst (λ (turns : Turns). HasSlot turns p i) alike.turns mine) (subst (λ (turns : Turns). HasSlot turns q j) alike.turns its))

alike_back : (v w : World) → AreAlike v w → AreAlike w v
alike_back v w a = record {
  views = λ p. sym (a.views p);
  pids = sym a.pids;
  console = sym a.console;
  clock = sym a.clock;
  next_pid = sym a.next_pid;
  free = sym a.free;
  programs = sym a.programs;
  turns = sym a.turns;
  files = λ p d q e. sym (a.files p d q e);
  pipes = λ p d q e. sym (a.pipes p d q e);
}

-- the same worlds, with other turns
with_turns : (v w : World) → AreAlike v w → (a b : Turns) → a ≡ b → AreAlike (record v { turns = a }) (record w { turns = b })
with_turns v w alike a b turns = record {
  views = alike.views;
  pids = alike.pids;
  console = alike.console;
  clock = alike.clock;
  next_pid = alike.next_pid;
  free = alike.free;
  programs = alike.programs;
  turns = turns;
  files = alike.files;
  pipes = alike.pipes;
}

module _ (v w t u : World) (alike : AreAlike v w) (slots : HasSlots v.state v.turns) (slots_w : HasSlots w.state w.turns) where
  abbrev Same : Outcome → Outcome → Type 0
  Same o q = (o ≡ q) × AreAlike t u

  unchanged : (o q : Outcome) → o ≡ q → t ≡ v → u ≡ w → Same o q
  unchanged o q same e f = (same, subst (λ (x : World). AreAlike x u) (sym e) (subst (λ (x : World). AreAlike v x) (sym f) alike))

  both_turns : (p r : ℕ) → TurnTaken v (Turn p) t → TurnTaken w (Turn r) u → IsRunnable v p × IsNearest v p → IsRunnable w r × IsNearest w r → Same (Turn p) (Turn r)
  both_turns p r one two mine its =
      let back : HasSlot v.turns r two.0 = subst (λ (turns : Turns). HasSlot turns r two.0) (sym alike.turns) two.1 in
      let same : p ≡ r = one_nearest v w alike slots p r one.0 two.0 mine.0 (runnable_too w v (alike_back v w alike) slots_w r its.0) mine.1 (nearest_there v w r alike its.1) one.1 back in
      let place : one.0 ≡ two.0 = same_Some one.0 two.0 (sym one.1 ∙ ap (get v.turns.slots) same ∙ back) in (
        ap Turn same,
        subst (λ (x : World). AreAlike x u) (sym one.3) (subst (λ (x : World). AreAlike (record v { turns = record v.turns { current = Some p; last = one.0 } }) x) (sym two.3)
            (with_turns v w alike (record v.turns { current = Some p; last = one.0 }) (record w.turns { current = Some r; last = two.0 })
            (λ i. record (alike.turns i) { current = Some (same i); last = place i }))),
      )

  by_turns : (o q : Outcome) → TurnTaken v o t → TurnTaken w q u → TakesNearest v Run o → TakesNearest w Run q → v.turns.halted ≡ None
      → v.turns.current ≡ None → w.turns.halted ≡ None → w.turns.current ≡ None → Same o q
  by_turns (Turn p) (Turn r) one two near too a b c d = both_turns p r one two ((near refl a b).1 p refl) ((too refl c d).1 r refl)
  by_turns (Turn p) Idle one two near too a b c d = absurd ((too refl c d).0.0 refl p (runnable_too v w alike slots p ((near refl a b).1 p refl).0))
  by_turns Idle (Turn r) one two near too a b c d = absurd ((near refl a b).0.0 refl r (runnable_too w v (alike_back v w alike) slots_w r ((too refl c d).1 r refl).0))
  by_turns Idle Idle one two near too a b c d = unchanged Idle Idle refl one two
  by_turns (Step_of p x) q one two near too a b c d = absurd one
  by_turns Ticked q one two near too a b c d = absurd one
  by_turns (Typed echo) q one two near too a b c d = absurd one
  by_turns (Sent byte) q one two near too a b c d = absurd one
  by_turns Halted q one two near too a b c d = absurd one
  by_turns (Turn p) (Step_of r x) one two near too a b c d = absurd two
  by_turns (Turn p) Ticked one two near too a b c d = absurd two
  by_turns (Turn p) (Typed echo) one two near too a b c d = absurd two
  by_turns (Turn p) (Sent byte) one two near too a b c d = absurd two
  by_turns (Turn p) Halted one two near too a b c d = absurd two
  by_turns Idle (Step_of r x) one two near too a b c d = absurd two
  by_turns Idle Ticked one two near too a b c d = absurd two
  by_turns Idle (Typed echo) one two near too a b c d = absurd two
  by_turns Idle (Sent byte) one two near too a b c d = absurd two
  by_turns Idle Halted one two near too a b c d = absurd two

-- ---- a step

module _ (v w t u : World) (alike : AreAlike v w) (orderly_v : IsOrderly v) (orderly_w : IsOrderly w) where
  by_steps : (p : ℕ) (o q : Outcome) → v.turns.current ≡ Some p → w.turns.current ≡ Some p → StepOf v p o t → StepOf w p q u → WakesWhereDue v o t
      → WakesWhereDue w q u → AreShown t.state → AreShown u.state → (o ≡ q) × AreAlike t u
  by_steps p o q runs_v runs_w one two wakes_v wakes_w shown_t shown_u =
      let same : two.before ≡ one.before = same_Some two.before one.before (sym two.was ∙ sym (alike.views p) ∙ one.was) in
      let answer : q ≡ Step_of p (own one.before).answer = two.answer ∙ ap (λ (b : View). Step_of p (own b).answer) same in (
        one.answer ∙ sym answer,
        alike_step v w t u p one.before alike orderly_v orderly_w runs_v runs_w one.was (two.was ∙ ap Some same)
            one.state (subst (λ (b : View). StateAfter w.state b (own b) u.state) same two.state)
            one.turns (subst (λ (b : View). TurnsAfter w.turns p (own b) u.turns) same two.turns)
            (subst (λ (x : Outcome). WakesWhereDue v x t) one.answer wakes_v) (subst (λ (x : Outcome). WakesWhereDue w x u) answer wakes_w) shown_t shown_u,
      )

-- ---- one event

module _ (v w t u : World) (orderly_v : IsOrderly v) (orderly_w : IsOrderly w) (alike : AreAlike v w) where
  abbrev Alike : Outcome → Outcome → Type 0
  Alike o q = (o ≡ q) × AreAlike t u

  after_end : (o q : Outcome) → HaltedRun v o t → HaltedRun w q u → Alike o q
  after_end o q one two = unchanged v w t u alike orderly_v.slots orderly_w.slots o q (one.0 ∙ sym two.0) one.1 two.1

  by_run : (o q : Outcome) (halted : Option ℤ) (current : Option ℕ) → v.turns.halted ≡ halted → v.turns.current ≡ current → RunHappens v halted current o t → RunHappens w halted current q u
      → Promised v Run o t → Promised w Run q u → Alike o q
  by_run o q (Some status) current a b one two pv pw = after_end o q one two
  by_run o q None (Some p) a b one two pv pw =
      by_steps v w t u alike orderly_v orderly_w p o q b (sym (ap (λ (turns : Turns). turns.current) alike.turns) ∙ b) one two pv.1 pw.1 (pv.3 orderly_v.shown) (pw.3 orderly_w.shown)
  by_run o q None None a b one two pv pw =
      by_turns v w t u alike orderly_v.slots orderly_w.slots o q one two pv.2 pw.2 a b (sym (ap (λ (turns : Turns). turns.halted) alike.turns) ∙ a)
      (sym (ap (λ (turns : Turns). turns.current) alike.turns) ∙ b)

  by_tick : (o q : Outcome) (halted : Option ℤ) → TickHappens v halted o t → TickHappens w halted q u → Promised v Tick o t → Promised w Tick q u → Alike o q
  by_tick o q (Some status) one two pv pw = after_end o q one two
  by_tick o q None one two pv pw = (
    one.0 ∙ sym two.0,
    timed_event v w t u o None ((v.state.clock + 1) % CLOCK_ROUND) v.state.console alike orderly_v one.1
        (two.1 ∙ (λ i. record w.state { clock = (sym alike.clock i + 1) % CLOCK_ROUND; console = sym alike.console i })) pv.1
        (subst (λ (x : Outcome). WakesWhereDue w x u) (two.0 ∙ sym one.0) pw.1) one.2 two.2,
  )

  by_key : (o q : Outcome) (halted : Option ℤ) (b : ℕ) → KeyHappens v halted b o t → KeyHappens w halted b q u → Promised v (Key b) o t → Promised w (Key b) q u → Alike o q
  by_key o q (Some status) b one two pv pw = after_end o q one two
  by_key o q None b one two pv pw =
      let same : o ≡ q = one.0 ∙ ap (λ (c : Console). Typed (line c b).1) alike.console ∙ sym two.0 in (
        same,
        timed_event v w t u o v.turns.current v.state.clock (line v.state.console b).0 alike orderly_v one.1
            (two.1 ∙ (λ i. record w.state { clock = sym alike.clock i; console = (line (sym alike.console i) b).0 })) pv.1 (subst (λ (x : Outcome). WakesWhereDue w x u) (sym same) pw.1) one.2
            (subst (λ (current : Option ℕ). IsButWoken (record w.turns { current = current }) u.turns) (sym (ap (λ (turns : Turns). turns.current) alike.turns)) two.2),
      )

  by_send : (o q : Outcome) → SendHappens v o t → SendHappens w q u → Promised v Send o t → Promised w Send q u → Alike o q
  by_send o q one two pv pw =
      let same : o ≡ q = one.0 ∙ ap (λ (c : Console). Sent (first_sent c.to_send)) alike.console ∙ sym two.0 in (
        same,
        timed_event v w t u o v.turns.current v.state.clock (sent v.state.console) alike orderly_v one.1
            (two.1 ∙ (λ i. record w.state { clock = sym alike.clock i; console = sent (sym alike.console i) })) pv.1 (subst (λ (x : Outcome). WakesWhereDue w x u) (sym same) pw.1) one.2
            (subst (λ (current : Option ℕ). IsButWoken (record w.turns { current = current }) u.turns) (sym (ap (λ (turns : Turns). turns.current) alike.turns)) two.2),
      )

  by_event : (e : Event) (o q : Outcome) → Promised v e o t → Promised w e q u → Alike o q
  by_event Run o q pv pw = by_run o q v.turns.halted v.turns.current refl refl pv.0 (subst (λ (turns : Turns). RunHappens w turns.halted turns.current q u) (sym alike.turns) pw.0) pv pw
  by_event Tick o q pv pw = by_tick o q v.turns.halted pv.0 (subst (λ (turns : Turns). TickHappens w turns.halted q u) (sym alike.turns) pw.0) pv pw
  by_event (Key b) o q pv pw = by_key o q v.turns.halted b pv.0 (subst (λ (turns : Turns). KeyHappens w turns.halted b q u) (sym alike.turns) pw.0) pv pw
  by_event Send o q pv pw = by_send o q pv.0 pw.0 pv pw

pub event_is_determined : EventIsDetermined
event_is_determined v w t u e o q orderly_v orderly_w alike pv pw = by_event v w t u orderly_v orderly_w alike e o q pv pw

-- ---- worlds stay orderly

alike_self : (w : World) → AreAlike w w
alike_self w = record { views = λ p. refl; pids = refl; console = refl; clock = refl; next_pid = refl; free = refl; programs = refl; turns = refl; files = λ p d q e. refl; pipes = λ p d q e. refl }

module _ (w t : World) (orderly : IsOrderly w) where
  same_sleepers : t ≡ w → (p : ℕ) → Sleeps t.turns p → IsSome (view t.state p)
  same_sleepers e = subst (λ (x : World). (p : ℕ) → Sleeps x.turns p → IsSome (view x.state p)) (sym e) orderly.sleepers

  turn_sleepers : (o : Outcome) → TurnTaken w o t → (p : ℕ) → Sleeps t.turns p → IsSome (view t.state p)
  turn_sleepers (Turn q) h = subst (λ (x : World). (p : ℕ) → Sleeps x.turns p → IsSome (view x.state p)) (sym h.3) orderly.sleepers
  turn_sleepers Idle h = same_sleepers h
  turn_sleepers (Step_of p x) h = absurd h
  turn_sleepers Ticked h = absurd h
  turn_sleepers (Typed echo) h = absurd h
  turn_sleepers (Sent byte) h = absurd h
  turn_sleepers Halted h = absurd h

  run_sleepers : (o : Outcome) (halted : Option ℤ) (current : Option ℕ) → w.turns.current ≡ current → RunHappens w halted current o t
      → WakesWhereDue w o t → AreShown t.state → (p : ℕ) → Sleeps t.turns p → IsSome (view t.state p)
  run_sleepers o (Some status) current runs h due shown = same_sleepers h.1
  run_sleepers o None (Some p) runs h due shown =
      let wakes = subst (λ (x : Outcome). WakesWhereDue w x t) h.answer due in
      sleepers_after w w t t p h.before (alike_self w) orderly orderly runs runs h.was h.was h.state h.state h.turns h.turns wakes wakes shown shown
  run_sleepers o None None runs h due shown = turn_sleepers o h

  tick_sleepers : (o : Outcome) (halted : Option ℤ) → TickHappens w halted o t → WakesWhereDue w o t → (p : ℕ) → Sleeps t.turns p → IsSome (view t.state p)
  tick_sleepers o (Some status) h due = same_sleepers h.1
  tick_sleepers o None h due = timed_sleepers w w t t o None ((w.state.clock + 1) % CLOCK_ROUND) w.state.console (alike_self w) orderly h.1 h.1 due due h.2 h.2

  key_sleepers : (o : Outcome) (halted : Option ℤ) (b : ℕ) → KeyHappens w halted b o t → WakesWhereDue w o t → (p : ℕ) → Sleeps t.turns p → IsSome (view t.state p)
  key_sleepers o (Some status) b h due = same_sleepers h.1
  key_sleepers o None b h due = timed_sleepers w w t t o w.turns.current w.state.clock (line w.state.console b).0 (alike_self w) orderly h.1 h.1 due due h.2 h.2

  event_sleepers : (e : Event) (o : Outcome) → Promised w e o t → (p : ℕ) → Sleeps t.turns p → IsSome (view t.state p)
  event_sleepers Run o h = run_sleepers o w.turns.halted w.turns.current refl h.0 h.1 (h.3 orderly.shown)
  event_sleepers Tick o h = tick_sleepers o w.turns.halted h.0 h.1
  event_sleepers (Key b) o h = key_sleepers o w.turns.halted b h.0 h.1
  event_sleepers Send o h = timed_sleepers w w t t o w.turns.current w.state.clock (sent w.state.console) (alike_self w) orderly h.0.1 h.0.1 h.1 h.1 h.0.2 h.0.2

  event_orderly : (e : Event) (o : Outcome) → Promised w e o t → IsOrderly t
  event_orderly e o h = record { slots = slots_stay w t e o h.0 h.2 orderly.slots; shown = h.3 orderly.shown; sleepers = event_sleepers e o h }

pub stays_orderly : StaysOrderly
stays_orderly w t [] orderly run = subst IsOrderly (sym run) orderly
stays_orderly w t (e ∷ es) orderly run = stays_orderly run.0 t es (event_orderly w run.0 orderly e.0 e.1 run.1) run.2

pub first_is_orderly : FirstIsOrderly
first_is_orderly frames trace programs w boot = record {
  slots = first_slots frames trace programs w boot;
  shown = (first_well frames trace programs w boot).descriptors;
  sleepers = λ p asleep. absurd (nobody_sleeps frames trace programs w boot p asleep);
}

-- ---- runs

pub run_is_determined : RunIsDetermined
run_is_determined v w t u [] [] orderly_v orderly_w alike one two same = (refl, subst (λ (x : World). AreAlike x u) (sym one) (subst (λ (x : World). AreAlike v x) (sym two) alike))
run_is_determined v w t u [] (f ∷ fs) orderly_v orderly_w alike one two same = let no : ⊥ = cc in absurd no
run_is_determined v w t u (e ∷ es) [] orderly_v orderly_w alike one two same = let no : ⊥ = cc in absurd no
run_is_determined v w t u (e ∷ es) (f ∷ fs) orderly_v orderly_w alike one two same =
    let event : e.0 ≡ f.0 = same_first e.0 f.0 (events es) (events fs) same in
    let later : events es ≡ events fs = same_rest e.0 f.0 (events es) (events fs) same in
    let there : Promised w e.0 f.1 two.0 = subst (λ (x : Event). Promised w x f.1 two.0) (sym event) two.1 in
    let now = event_is_determined v w one.0 two.0 e.0 e.1 f.1 orderly_v orderly_w alike one.1 there in
    let more = run_is_determined one.0 two.0 t u es fs (event_orderly v one.0 orderly_v e.0 e.1 one.1) (event_orderly w two.0 orderly_w e.0 f.1 there) now.1 one.2 two.2 later in
    (λ i. (event i, now.0 i) ∷ more.0 i, more.1)

pub replay_is_the_same : ReplayIsTheSame
replay_is_the_same frames trace programs v w t u es fs boot again one two same =
    let first_same : v ≡ w = same_Ok v w (sym boot ∙ again) in
    run_is_determined v w t u es fs (first_is_orderly frames trace programs v boot) (first_is_orderly frames trace programs w again)
    (subst (λ (x : World). AreAlike v x) first_same (alike_self v)) one two same
