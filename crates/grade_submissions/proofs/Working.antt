-- What Runs cost that were sent at once, by what came of the last one.
use Rattle.std.proofs.Common.{◌≡◌, ◌∙◌, ℕ, zero, suc, ◌<◌, List, [], ◌∷◌, ◌++◌, replicate, Option, None, Some, inl, inr, refl, sym, ap, arith}
use Rattle.kernel_spec.specs.runs.Run.{Event, Run, Outcome}
use Rattle.kernel_spec.specs.runs.Rounds.{events}
use Rattle.run_work.specs.Work.{cost}
use Rattle.run_work.specs.declared.cost.Before.{Before}
use Rattle.xv_machine.specs.Drives.{done_by}
use Rattle.xv_session.specs.Steps.{AreRunsTo}
use Rattle.grade_submissions.specs.Plays.{last_came}

abbrev Steps : Type 0
Steps = List (Event × Outcome)

pub last-of : (list : Steps) (e : Event) (o : Outcome) → last_came (list ++ (e, o) ∷ []) ≡ Some o
last-of [] e o = refl
last-of (x ∷ []) e o = refl
last-of (x ∷ y ∷ list) e o = last-of (y ∷ list) e o

last-again : (k : ℕ) (e : Event) (o : Outcome) → last_came (replicate (suc k) (e, o)) ≡ Some o
last-again zero e o = refl
last-again (suc k) e o = last-again k e o

last-some : (k : ℕ) (e : Event) (o : Outcome) → 0 < k → last_came (replicate k (e, o)) ≡ Some o
last-some zero e o some = absurd (omega (arith, some))
last-some (suc k) e o some = last-again k e o

pub events-done : (k p : ℕ) → events (replicate k (done_by p)) ≡ replicate k Run
events-done zero p = refl
events-done (suc k) p = ap (λ (es : List Event). Run ∷ es) (events-done k p)

module _ (b : Before) (sent free : ℕ) (size : ℕ → Option ℕ) where
  -- instructions that are done cost nothing but themselves
  pub done-cost : (k p : ℕ) → cost b sent free size None ≡ cost b sent free size (last_came (replicate k (done_by p)))
  done-cost zero p = refl
  done-cost (suc k) p = sym (ap (cost b sent free size) (last-again k Run _))

  pub runs-cost : (most p : ℕ) (last : Option Outcome) (list : Steps) → 0 < most → AreRunsTo most p last list → cost b sent free size last ≡ cost b sent free size (last_came list)
  runs-cost most p None list some are = done-cost most p ∙ ap (λ (es : Steps). cost b sent free size (last_came es)) (sym are)
  runs-cost most p (Some o) list some (inl made) = ap (cost b sent free size) (sym (ap last_came made.1 ∙ last-of (replicate made.0 (done_by p)) Run o))
  runs-cost most p (Some o) list some (inr same) = ap (cost b sent free size) (sym (ap last_came same.0 ∙ last-some most Run o some))
