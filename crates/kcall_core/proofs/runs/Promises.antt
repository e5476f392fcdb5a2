-- Each event keeps all that is promised of it: a step, a turn, nothing to do, a tick, a key, a byte that is sent, and nothing after the end.
use Rattle.kcall_core.proofs.Prelude.{ℕ, ℤ, ◌∙◌, ◌≡◌, ◌⊎◌, Answer, ap, AreShown, contains, Event, FinSet, Halted, halts_with, Happens, Hart, Idle, inl, inr, IsEnd, IsInCall, IsNearest, IsRunnable}
use Rattle.kcall_core.proofs.Prelude.{IsRunning, IsSound, IsWhole, Kernel, Key, KeyHappens, live_part, Makes, nat_cmp, None, none-some, NoReadySleeper, option_map, Outcome, own, pid_now, Promised}
use Rattle.kcall_core.proofs.Prelude.{ready, refl, Run, RunHappens, Send, SendHappens, Some, state_of, Step_of, StepOf, subst, sym, Tick, Ticked, TickHappens, true, true≢false, Turn, turns_of}
use Rattle.kcall_core.proofs.Prelude.{TurnTaken, view, view_now, view_of, WakesWhereDue, World, world_of}
use Rattle.kcall_core.proofs.table.States.{running}
use Rattle.kcall_core.proofs.turns.Turned.{live-is}

-- what the process that runs sees is its view in the state
pub view-is : (k : Kernel) (h : Hart) → IsSound k h → IsRunning k → view (state_of k h) (pid_now k) ≡ Some (view_now k h)
view-is k h sound runs = ap (λ o. option_map (view_of (state_of k h) (pid_now k)) (live_part o)) (live-is k h sound runs)

-- ---- a step

pub step-promised : (k k' : Kernel) (h h' : Hart) → IsWhole k h → IsRunning k → Makes k h (own (view_now k h)) k' h'
    → Promised (world_of k h None) Run (Step_of (pid_now k) (own (view_now k h)).answer) (world_of k' h' (halts_with (pid_now k) (own (view_now k h)).answer))
unfolding turns_of
step-promised k k' h h' whole runs made =
    let w = world_of k h None in
    let p = pid_now k in
    let o = own (view_now k h) in
    let t = world_of k' h' (halts_with p o.answer) in
    let current : option_map (λ (i : ℕ). p) k.current ≡ Some p = ap (option_map (λ (i : ℕ). p)) (running k h whole.sound runs).current in
    let step : StepOf w p (Step_of p o.answer) t = record { before = view_now k h; was = view-is k h whole.sound runs; answer = refl; state = made.state; turns = made.turns } in (
      subst (λ c. RunHappens w None c (Step_of p o.answer) t) (sym current) step,
      made.wakes,
      λ e halted idle. absurd (none-some p (sym idle ∙ current)),
      λ shown. made.whole.well.descriptors,
    )

-- ---- where the sleepers stay

-- nobody wakes, and nobody had to
none-wakes : (w t : World) (o : Outcome) → t.state ≡ w.state → t.turns.sleepers ≡ w.turns.sleepers → NoReadySleeper w → (o ≡ Ticked → ⊥) → (IsEnd o → ⊥) → WakesWhereDue w o t
none-wakes w t o state sleepers unready tick end p v asleep sees = (
  λ awake. absurd (awake (subst (λ (s : FinSet nat_cmp). contains s p ≡ true) (sym sleepers) asleep)),
  λ due. absurd (by due),
)
  where
    by : (ready v ≡ true) ⊎ (IsInCall 13 v × (o ≡ Ticked)) ⊎ ((p ≡ 1) × IsInCall 3 v × IsEnd o) → ⊥
    by (inl shows) = true≢false (sym shows ∙ unready p v asleep (sym (ap (λ s. view s p) state) ∙ sees))
    by (inr (inl ticks)) = tick ticks.1
    by (inr (inr ends)) = end ends.2

-- ---- a turn

turn-end : (p q : ℕ) (a : Answer) → Turn p ≡ Step_of q a → ⊥
turn-end p q a e = cc

turn-tick : (p : ℕ) → Turn p ≡ Ticked → ⊥
turn-tick p e = cc

turn-idle : (p : ℕ) → Turn p ≡ Idle → ⊥
turn-idle p e = cc

turn-pid : (p q : ℕ) → Turn p ≡ Turn q → p ≡ q
turn-pid p q e = cc

idle-end : (q : ℕ) (a : Answer) → Idle ≡ Step_of q a → ⊥
idle-end q a e = cc

idle-tick : Idle ≡ Ticked → ⊥
idle-tick e = cc

idle-turn : (p : ℕ) → Idle ≡ Turn p → ⊥
idle-turn p e = cc

-- in a world in which nobody runs
module _ (w t : World) (on : w.turns.halted ≡ None) (stopped : w.turns.current ≡ None) (unready : NoReadySleeper w) where
  happens-now : (o : Outcome) → RunHappens w None None o t → Happens w Run o t
  happens-now o h = subst (λ a. RunHappens w a w.turns.current o t) (sym on) (subst (λ c. RunHappens w None c o t) (sym stopped) h)

  pub turn-comes : (p : ℕ) → TurnTaken w (Turn p) t → IsRunnable w p → IsNearest w p → Promised w Run (Turn p) t
  turn-comes p taken can near = (
    happens-now (Turn p) taken,
    none-wakes w t (Turn p) (ap (λ (x : World). x.state) taken.3) (ap (λ (x : World). x.turns.sleepers) taken.3) unready (turn-tick p) (λ end. turn-end p end.0 end.1 end.2),
    λ e halted idle. (
      (λ is. absurd (turn-idle p is), λ none. absurd (none p can)),
      λ q is. subst (λ (n : ℕ). IsRunnable w n × IsNearest w n) (turn-pid p q is) (can, near),
    ),
    subst AreShown (sym (ap (λ (x : World). x.state) taken.3)),
  )

  pub none-comes : t ≡ w → ((p : ℕ) → ¬ IsRunnable w p) → Promised w Run Idle t
  none-comes same nobody = (
    happens-now Idle same,
    none-wakes w t Idle (ap (λ (x : World). x.state) same) (ap (λ (x : World). x.turns.sleepers) same) unready idle-tick (λ end. idle-end end.0 end.1 end.2),
    λ e halted idle. ((λ is. nobody, λ none. refl), λ q is. absurd (idle-turn q is)),
    subst AreShown (sym (ap (λ (x : World). x.state) same)),
  )

module _ (k k' : Kernel) (h h' : Hart) (whole : IsWhole k h) (stopped : k.current ≡ None) where
  current : option_map (λ (i : ℕ). pid_now k) k.current ≡ None
  current = ap (option_map (λ (i : ℕ). pid_now k)) stopped

  pub turn-promised : (p : ℕ) → TurnTaken (world_of k h None) (Turn p) (world_of k' h' None) → IsRunnable (world_of k h None) p
      → IsNearest (world_of k h None) p → Promised (world_of k h None) Run (Turn p) (world_of k' h' None)
  unfolding turns_of
  turn-promised p taken can near = turn-comes (world_of k h None) (world_of k' h' None) refl current whole.unready p taken can near

  pub idle-promised : world_of k' h' None ≡ world_of k h None → ((p : ℕ) → ¬ IsRunnable (world_of k h None) p) → Promised (world_of k h None) Run Idle (world_of k' h' None)
  unfolding turns_of
  idle-promised same nobody = none-comes (world_of k h None) (world_of k' h' None) refl current whole.unready same nobody

-- ---- after the end

halted-end : (q : ℕ) (a : Answer) → Halted ≡ Step_of q a → ⊥
halted-end q a e = cc

halted-tick : Halted ≡ Ticked → ⊥
halted-tick e = cc

-- on a machine that is halted nothing happens
pub halted-promised : (k : Kernel) (h : Hart) (status : ℤ) (e : Event) → IsWhole k h
    → Happens (world_of k h (Some status)) e Halted (world_of k h (Some status)) → Promised (world_of k h (Some status)) e Halted (world_of k h (Some status))
unfolding turns_of
halted-promised k h status e whole happens =
    let w = world_of k h (Some status) in (
      happens,
      none-wakes w w Halted refl refl whole.unready halted-tick (λ end. halted-end end.0 end.1 end.2),
      λ run halted idle. absurd (none-some status (sym halted)),
      λ shown. shown,
    )

-- ---- a tick

tick-run : Tick ≡ Run → ⊥
tick-run e = cc

-- in a world in which nobody is halted
pub tick-comes : (w t : World) → w.turns.halted ≡ None → TickHappens w None Ticked t → WakesWhereDue w Ticked t → Promised w Tick Ticked t
tick-comes w t on happens wakes = (
  subst (λ a. TickHappens w a Ticked t) (sym on) happens,
  wakes,
  λ e halted idle. absurd (tick-run e),
  λ shown. subst AreShown (sym happens.1) shown,
)

pub tick-promised : (k k' : Kernel) (h h' : Hart) → TickHappens (world_of k h None) None Ticked (world_of k' h' None)
    → WakesWhereDue (world_of k h None) Ticked (world_of k' h' None) → Promised (world_of k h None) Tick Ticked (world_of k' h' None)
unfolding turns_of
tick-promised k k' h h' happens wakes = tick-comes (world_of k h None) (world_of k' h' None) refl happens wakes

-- ---- a key, and a byte that is sent

key-run : (b : ℕ) → Key b ≡ Run → ⊥
key-run b e = cc

pub key-promised : (k k' : Kernel) (h h' : Hart) (b : ℕ) (o : Outcome) → KeyHappens (world_of k h None) None b o (world_of k' h' None)
    → WakesWhereDue (world_of k h None) o (world_of k' h' None) → Promised (world_of k h None) (Key b) o (world_of k' h' None)
unfolding turns_of
key-promised k k' h h' b o happens wakes = (happens, wakes, λ e halted idle. absurd (key-run b e), λ shown. subst AreShown (sym happens.1) shown)

send-run : Send ≡ Run → ⊥
send-run e = cc

pub send-promised : (w t : World) (o : Outcome) → SendHappens w o t → WakesWhereDue w o t → Promised w Send o t
send-promised w t o happens wakes = (happens, wakes, λ e halted idle. absurd (send-run e), λ shown. subst AreShown (sym happens.1) shown)
