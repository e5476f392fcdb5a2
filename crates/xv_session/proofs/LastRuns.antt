-- Whose step was last after Runs that were sent at once: that of the process that ran before them, if one did.
use Rattle.std.proofs.Common.{◌≡◌, ◌≢◌, ◌⊎◌, ℕ, zero, suc, ◌+◌, List, [], ◌∷◌, ◌++◌, length, replicate, Bool, true, false, Option, None, Some, inl, inr, refl, sym, ap, ◌∙◌, subst, add-one}
use Rattle.std.specs.Prelude.{ℤ}
use Rattle.std.specs.List.{last_or}
use Rattle.std.specs.Option.{option_or, option_to_list}
use Rattle.std.proofs.lemmas.List.{length-replicate, length-append, replicate_more}
use Rattle.kernel_spec.specs.runs.Run.{World, Event, Run, Outcome, Step_of, Turn, Idle, Ticked, Typed, Sent, Halted, TurnTaken, RunHappens, Happens, stays_current}
use Rattle.kernel_spec.specs.steps.Own.{Answer, Stepped, Called, Blocked, Exited, Faulted}
use Rattle.kernel_spec.specs.steps.Step.{own}
use Rattle.kernel_spec.specs.views.Words.{or_zero}
use Rattle.kernel_spec.specs.waking.Wakes.{IsPromised}
use Rattle.xv_machine.specs.Drives.{done_by}
use Rattle.xv_machine.specs.Meaning.{Meaning}
use Rattle.xv_machine.specs.Sound.{IsSoundMachine}
use Rattle.xv_session.specs.Follows.{Follows, last_after}
use Rattle.xv_session.specs.LastStep.{stepper, steppers}
use Rattle.xv_session.specs.Steps.{Advances, IsSound, RunsMade, AreRunsTo}
use Rattle.xv_session.specs.Stops.{Unstopped, WentOn}
use Rattle.xv_session.specs.Until.{is_done}
use Rattle.xv_session.specs.declared.followed.Followed.{Followed}
use Rattle.xv_session.specs.declared.running.Running.{Running}
use Rattle.xv_session.proofs.LastSteps.{last-join, last-one, run-steps, stopped-no-step, follows-none, follows-one, follows-join}
use Rattle.xv_session.proofs.RunsCounted.{count-sent}
use Rattle.xv_session.proofs.RunsMade.{first-no-step, runs-on}
use Rattle.xv_session.proofs.Stretches.{unstopped-sound}

after-none : (n : ℕ) (before : Option ℕ) → last_after n None before ≡ before
after-none zero before = refl
after-none (suc n) before = refl

after-again : (n : ℕ) (current before : Option ℕ) → option_or current (last_after n current before) ≡ option_or current before
after-again n None before = after-none n before
after-again n (Some p) before = refl

after-itself : (n p : ℕ) → last_after n (Some p) (Some p) ≡ Some p
after-itself zero p = refl
after-itself (suc n) p = refl

-- ---- where nobody runs

all-idle : (n p : ℕ) (w t : World) (before : Option ℕ) → w.turns.current ≡ None → IsPromised w (replicate n (done_by p)) t → last_or before (steppers (replicate n (done_by p))) ≡ before
all-idle zero p w t before stopped run = refl
all-idle (suc n) p w t before stopped (mid, one, more) = absurd (first-no-step w mid p stopped one.0)

made-idle : (made p : ℕ) (o : Outcome) (w t : World) (before : Option ℕ) → w.turns.current ≡ None → IsPromised w (replicate made (done_by p) ++ (Run, o) ∷ []) t
    → last_or before (steppers (replicate made (done_by p) ++ (Run, o) ∷ [])) ≡ before
made-idle zero p o w t before stopped (mid, one, more) = sym (last-one Run o before) ∙ ap (λ (s : Option ℕ). option_or s before) (stopped-no-step w mid o stopped one.0)
made-idle (suc n) p o w t before stopped (mid, one, more) = absurd (first-no-step w mid p stopped one.0)

-- the same again and again, and no step
none-again : (n : ℕ) (o : Outcome) (before : Option ℕ) → stepper o ≡ None → last_or before (steppers (replicate n (Run, o))) ≡ before
none-again zero o before none = refl
none-again (suc n) o before none = ap (λ (s : Option ℕ). last_or before (option_to_list s ++ steppers (replicate n (Run, o)))) none ∙ none-again n o before none

no-step : (o : Outcome) → (o ≡ Idle) ⊎ (o ≡ Halted) → stepper o ≡ None
no-step o (inl is) = ap stepper is
no-step o (inr is) = ap stepper is

idle-last : (most p : ℕ) (last : Option Outcome) (list : List (Event × Outcome)) (w t : World) (before : Option ℕ) → w.turns.current ≡ None → IsPromised w list t
    → AreRunsTo most p last list → last_or before (steppers list) ≡ before
idle-last most p None list w t before stopped run is =
    subst (λ (es : List (Event × Outcome)). last_or before (steppers es) ≡ before) (sym is)
    (all-idle most p w t before stopped (subst (λ (es : List (Event × Outcome)). IsPromised w es t) is run))
idle-last most p (Some o) list w t before stopped run (inl (made, is, fewer, other, idle, halted)) =
    subst (λ (es : List (Event × Outcome)). last_or before (steppers es) ≡ before) (sym is)
    (made-idle made p o w t before stopped (subst (λ (es : List (Event × Outcome)). IsPromised w es t) is run))
idle-last most p (Some o) list w t before stopped run (inr (is, which)) =
    subst (λ (es : List (Event × Outcome)). last_or before (steppers es) ≡ before) (sym is) (none-again most o before (no-step o which))

-- ---- where a process runs

all-steps : (n p : ℕ) (before : Option ℕ) → last_or before (steppers (replicate n (done_by p))) ≡ last_after n (Some p) before
all-steps zero p before = refl
all-steps (suc n) p before = all-steps n p (Some p) ∙ after-itself n p

it-steps : (w t : World) (p : ℕ) (o : Outcome) → w.turns.current ≡ Some p → o ≢ Halted → Happens w Run o t → stepper o ≡ Some p
it-steps w t p o is going h = by w.turns.halted w.turns.current is h
  where
    by : (halted : Option ℤ) (current : Option ℕ) → current ≡ Some p → RunHappens w halted current o t → stepper o ≡ Some p
    by (Some status) current e h = absurd (going h.0)
    by None None e h = let bad : ⊥ = cc in absurd bad
    by None (Some q) e h = ap stepper h.answer ∙ e

end-steps : (made p : ℕ) (o : Outcome) (w t : World) → w.turns.current ≡ Some p → o ≢ Halted → IsPromised w (replicate made (done_by p) ++ (Run, o) ∷ []) t → stepper o ≡ Some p
end-steps zero p o w t is going (mid, one, more) = it-steps w mid p o is going one.0
end-steps (suc n) p o w t is going (mid, one, more) = end-steps n p o mid t (runs-on 1 w mid p is (mid, one, refl)) going more

made-steps : (made p : ℕ) (o : Outcome) (w t : World) (before : Option ℕ) → w.turns.current ≡ Some p → o ≢ Halted → IsPromised w (replicate made (done_by p) ++ (Run, o) ∷ []) t
    → last_or before (steppers (replicate made (done_by p) ++ (Run, o) ∷ [])) ≡ Some p
made-steps made p o w t before is going run =
    let x = last_or before (steppers (replicate made (done_by p))) in
    last-join before (replicate made (done_by p)) ((Run, o) ∷ []) ∙ sym (last-one Run o x) ∙ ap (λ (s : Option ℕ). option_or s x) (end-steps made p o w t is going run)

-- it is in no Run of a process that none has a step
again-steps : (n p : ℕ) (o : Outcome) (m : Meaning) (t : World) (before : Option ℕ) → IsSoundMachine m → m.world.turns.current ≡ Some p → stepper o ≡ None
    → IsPromised m.world (replicate n (Run, o)) t → last_or before (steppers (replicate n (Run, o))) ≡ last_after n (Some p) before
again-steps zero p o m t before sound is none run = refl
again-steps (suc n) p o m t before sound is none (mid, one, more) =
    let step : stepper o ≡ Some p = run-steps m mid o sound one.0 ∙ is in
    let bad : ⊥ = cc in
    absurd bad

-- Runs that were sent at once
pub runs-last : (most sent : ℕ) (last : Option Outcome) (a b : Running) (before : Option ℕ) → IsSoundMachine a.machine → (made : RunsMade most sent last a b)
    → last_after sent a.machine.world.turns.current before ≡ last_or before (steppers made.list)
runs-last most sent last a b before sound made = by a.machine.world.turns.current refl
  where
    w : World
    w = a.machine.world

    count : length made.list ≡ sent
    count = count-sent made.list sent made.those

    steps : (p : ℕ) (last : Option Outcome) → w.turns.current ≡ Some p → AreRunsTo most p last made.list → last_after sent (Some p) before ≡ last_or before (steppers made.list)
    steps p None is are =
        let all : most ≡ sent = sym (length-replicate most (done_by p)) ∙ ap length (sym are) ∙ count in
        ap (λ (n : ℕ). last_after n (Some p) before) (sym all) ∙ sym (all-steps most p before) ∙ ap (λ (es : List (Event × Outcome)). last_or before (steppers es)) (sym are)
    steps p (Some o) is (inl (n, are, fewer, other, idle, halted)) =
        let all : suc n ≡ sent =
        sym (add-one n) ∙ sym (length-append (replicate n (done_by p)) ((Run, o) ∷ []) ∙ ap (λ k. k + 1) (length-replicate n (done_by p))) ∙ ap length (sym are) ∙ count in
        ap (λ (k : ℕ). last_after k (Some p) before) (sym all)
        ∙ sym (made-steps n p o w b.machine.world before is halted (subst (λ (es : List (Event × Outcome)). IsPromised w es b.machine.world) are made.goes.run))
        ∙ ap (λ (es : List (Event × Outcome)). last_or before (steppers es)) (sym are)
    steps p (Some o) is (inr (are, which)) =
        let all : most ≡ sent = sym (length-replicate most (Run, o)) ∙ ap length (sym are) ∙ count in
        ap (λ (n : ℕ). last_after n (Some p) before) (sym all)
        ∙ sym (again-steps most p o a.machine b.machine.world before sound is (no-step o which) (subst (λ (es : List (Event × Outcome)). IsPromised w es b.machine.world) are made.goes.run))
        ∙ ap (λ (es : List (Event × Outcome)). last_or before (steppers es)) (sym are)

    by : (current : Option ℕ) → w.turns.current ≡ current → last_after sent current before ≡ last_or before (steppers made.list)
    by None is = after-none sent before ∙ sym (idle-last most (or_zero w.turns.current) last made.list w b.machine.world before is made.goes.run made.runs_are)
    by (Some p) is = steps p last is (subst (λ (q : ℕ). AreRunsTo most q last made.list) (ap or_zero is) made.runs_are)

pub follows-runs : (most sent : ℕ) (last : Option Outcome) (a b : Followed) → IsSoundMachine a.running.machine → RunsMade most sent last a.running b.running
    → b.last ≡ last_after sent a.running.machine.world.turns.current a.last → Follows (replicate sent Run) a b
follows-runs most sent last a b sound made is = record {
  list = made.list;
  goes = made.goes;
  named = made.named;
  those = made.those;
  last = is ∙ runs-last most sent last a.running b.running a.last sound made;
}

-- ---- Runs up to a stop

stays-by : (p : ℕ) (a : Answer) → is_done (Step_of p a) ≡ true → stays_current p a ≡ Some p
stays-by p Stepped done = refl
stays-by p (Called number value) done = refl
stays-by p (Blocked number) done = let bad : ⊥ = cc in absurd bad
stays-by p (Exited status) done = let bad : ⊥ = cc in absurd bad
stays-by p (Faulted cause) done = let bad : ⊥ = cc in absurd bad

pub done-stays : (w t : World) (o : Outcome) → Happens w Run o t → is_done o ≡ true → t.turns.current ≡ w.turns.current
done-stays w t o h done = by w.turns.halted w.turns.current refl h
  where
    taken : (x : Outcome) → is_done x ≡ true → TurnTaken w x t → ⊥
    taken (Turn p) done h = cc
    taken Idle done h = cc
    taken (Step_of p a) done h = h
    taken Ticked done h = h
    taken (Typed echo) done h = h
    taken (Sent b) done h = h
    taken Halted done h = h

    by : (halted : Option ℤ) (current : Option ℕ) → w.turns.current ≡ current → RunHappens w halted current o t → t.turns.current ≡ w.turns.current
    by (Some status) current is h =
        let no : false ≡ true = sym (ap is_done h.0) ∙ done in
        let bad : ⊥ = cc in
        absurd bad
    by None None is h = absurd (taken o done h)
    by None (Some p) is h = h.turns.current ∙ stays-by p (own h.before).answer (sym (ap is_done h.answer) ∙ done) ∙ sym is

module _ (addresses bytes : List ℕ) where
  unstopped-current : (n : ℕ) (old new : Running) → Unstopped addresses bytes n old new → new.machine.world.turns.current ≡ old.machine.world.turns.current
  unstopped-current zero old new same = ap (λ (r : Running). r.machine.world.turns.current) same
  unstopped-current (suc n) old new (mid, o, before, one, done, free) =
      done-stays mid.machine.world new.machine.world o one.event.promised.0 done ∙ unstopped-current n old mid before

  -- one Run more
  run-more : (n : ℕ) (old mid new : Running) (o : Outcome) (before : Option ℕ) → IsSound old → Unstopped addresses bytes n old mid → Advances mid Run o new
      → Follows (replicate n Run) (record { running = old; last = before }) (record { running = mid; last = last_after n old.machine.world.turns.current before })
      → Follows (replicate (suc n) Run) (record { running = old; last = before }) (record { running = new; last = last_after (suc n) old.machine.world.turns.current before })
  run-more n old mid new o before sound between one so_far =
      let current = old.machine.world.turns.current in
      let x = last_after n current before in
      let its : stepper o ≡ current = run-steps mid.machine new.machine.world o (unstopped-sound addresses bytes n old mid sound between).machine one.event.promised.0
      ∙ unstopped-current n old mid between in
      let now : last_after (suc n) current before ≡ option_or (stepper o) x = sym (ap (λ (s : Option ℕ). option_or s x) its ∙ after-again n current before) in
      let a : Followed = record { running = old; last = before } in
      let m : Followed = record { running = mid; last = x } in
      let b : Followed = record { running = new; last = last_after (suc n) current before } in
      subst (λ (es : List Event). Follows es a b) (replicate_more n Run ∙ ap (λ k. replicate k Run) (add-one n))
      (follows-join (replicate n Run) (Run ∷ []) a m b so_far (follows-one Run o m b one now))

  unstopped-follows : (n : ℕ) (old new : Running) (before : Option ℕ) → IsSound old → Unstopped addresses bytes n old new
      → Follows (replicate n Run) (record { running = old; last = before }) (record { running = new; last = last_after n old.machine.world.turns.current before })
  unstopped-follows zero old new before sound same =
      let a : Followed = record { running = old; last = before } in
      subst (λ (r : Running). Follows [] a (record { running = r; last = before })) (sym same) (follows-none a sound.machine)
  unstopped-follows (suc n) old new before sound (mid, o, between, one, done, free) =
      run-more n old mid new o before sound between one (unstopped-follows n old mid before sound between)

  went-on-follows : (most : ℕ) (met : Bool) (last : Option Outcome) (old new : Running) (sent : ℕ) (before : Option ℕ) → IsSound old
      → WentOn addresses bytes most met last old new sent
      → Follows (replicate sent Run) (record { running = old; last = before }) (record { running = new; last = last_after sent old.machine.world.turns.current before })
  went-on-follows most met last old new zero before sound (none, unmet, nothing, same) = unstopped-follows 0 old new before sound same
  went-on-follows most met last old new (suc n) before sound (mid, o, between, one, is, told, within, all) =
      run-more n old mid new o before sound between one (unstopped-follows n old mid before sound between)

  pub follows-stop : (most : ℕ) (met : Bool) (last : Option Outcome) (sent : ℕ) (a b : Followed) → IsSound a.running → WentOn addresses bytes most met last a.running b.running sent
      → b.last ≡ last_after sent a.running.machine.world.turns.current a.last → Follows (replicate sent Run) a b
  follows-stop most met last sent a b sound went is =
      subst (λ (l : Option ℕ). Follows (replicate sent Run) a (record { running = b.running; last = l })) (sym is) (went-on-follows most met last a.running b.running sent a.last sound went)
