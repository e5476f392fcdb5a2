-- A run that goes on by its plan, and back.
use Rattle.std.proofs.Common.{◌≡◌, ◌∙◌, ℕ, suc, ◌+◌, ◌<◌, ◌≤◌, List, [], ◌∷◌, ◌++◌, refl, sym, ap, subst, arith, length, length-append, take, min}
use Rattle.std.specs.Prelude.{replicate, Result, Ok, Err, IfOk, IfErr, true}
use Rattle.std.proofs.lemmas.List.{length-replicate, length-take}
use Rattle.kernel_spec.specs.runs.Run.{Event, Run, Tick, Key, Send}
use Rattle.gdb_target.specs.PlayedBy.{is_run}
use Rattle.gdb_target.specs.Plan.{Planned, planned_at, first_events}
use Rattle.gdb_target.proofs.Planned.{first-of-first, more-of-one-kind}

-- what holds of each outcome holds
pub after_result : {A E : Type 0} (r : Result A E) {P : A → Type 0} {Q : E → Type 0} (C : Type 0) → IfOk r P → IfErr r Q → ((a : A) → P a → C) → ((e : E) → Q e → C) → C
after_result (Ok a) C ok err f g = f a ok
after_result (Err e) C ok err f g = g e err

pub run_of_true : (e : Event) → is_run e ≡ true → e ≡ Run
run_of_true Run h = refl
run_of_true Tick h = let none : ⊥ = cc in absurd none
run_of_true (Key byte) h = let none : ⊥ = cc in absurd none
run_of_true Send h = let none : ⊥ = cc in absurd none

module _ (plan : Planned) where
  abbrev first : ℕ → List Event
  first n = first_events plan n

  pub played_still : (old new : List Event) → old ≡ first_events plan (length old) → new ≡ old → new ≡ first_events plan (length new)
  played_still old new played same = subst (λ (l : List Event). l ≡ first_events plan (length l)) (sym same) played

  pub played_send : (old new : List Event) (e : Event) → old ≡ first_events plan (length old) → planned_at plan (length old) ≡ e → new ≡ old ++ e ∷ []
      → new ≡ first_events plan (length new)
  played_send old new e played next more =
      let count : length new ≡ suc (length old) = omega (arith, ap length more, length-append old (e ∷ [])) in
      more ∙ ap (λ (l : List Event). l ++ e ∷ []) played ∙ ap (λ (x : Event). first (length old) ++ x ∷ []) (sym next) ∙ sym (ap first count)

  pub played_runs : (old new : List Event) (sent count : ℕ) → old ≡ first_events plan (length old) → sent ≤ count
      → ((k : ℕ) → k < count → planned_at plan (length old + k) ≡ Run) → new ≡ old ++ replicate sent Run → new ≡ first_events plan (length new)
  played_runs old new sent count played few each more =
      let long : length new ≡ length old + sent = omega (arith, ap length more, length-append old (replicate sent Run), length-replicate sent Run) in
      let goes : first (length old + sent) ≡ first (length old) ++ replicate sent Run = more-of-one-kind plan (length old) sent Run (λ k h. each k (omega arith)) in
      more ∙ ap (λ (l : List Event). l ++ replicate sent Run) played ∙ sym goes ∙ sym (ap first long)

  pub played_back : (old new : List Event) (place : ℕ) → old ≡ first_events plan (length old) → new ≡ take place old → new ≡ first_events plan (length new)
  played_back old new place played back =
      let count : length new ≡ min place (length old) = ap length back ∙ length-take place old in
      back ∙ ap (take place) played ∙ first-of-first plan (length old) place ∙ sym (ap first count)
