-- How many Runs are sent at once.
use Rattle.std.proofs.Common.{◌≡◌, ◌∙◌, ℕ, ◌+◌, ◌<◌, ◌≤◌, inl, inr, List, [], ◌∷◌, sym, ap, arith, length, length-append, Option, Some, None}
use Rattle.std.specs.Prelude.{replicate}
use Rattle.std.proofs.lemmas.List.{length-replicate, length-map}
use Rattle.kernel_spec.specs.runs.Run.{Event, Run, Outcome}
use Rattle.kernel_spec.specs.runs.Rounds.{events}
use Rattle.xv_machine.specs.Drives.{done_by}
use Rattle.xv_session.specs.Steps.{AreRunsTo, RunsMade}
use Rattle.xv_session.specs.declared.running.Running.{Running}

pub length-events : (list : List (Event × Outcome)) → length (events list) ≡ length list
length-events list = length-map list (λ (e : Event × Outcome). e.0)

pub record Count (most sent : ℕ) : Type 0 where
  pub within : sent ≤ most
  pub some : 0 < most → 0 < sent

counted : (most p : ℕ) (last : Option Outcome) (list : List (Event × Outcome)) (sent : ℕ) → AreRunsTo most p last list → length list ≡ sent → Count most sent
counted most p None list sent all count =
    let e : length list ≡ most = ap length all ∙ length-replicate most (done_by p) in record { within = omega arith; some = λ h. omega arith }
counted most p (Some o) list sent (inl one) count =
    let e : length list ≡ one.0 + 1 = ap length one.1 ∙ length-append (replicate one.0 (done_by p)) ((Run, o) ∷ []) ∙ ap (λ (n : ℕ). n + 1) (length-replicate one.0 (done_by p)) in
    let few : one.0 < most = one.2 in
    record { within = omega arith; some = λ h. omega arith }
counted most p (Some o) list sent (inr all) count =
    let e : length list ≡ most = ap length all.0 ∙ length-replicate most (Run, o) in record { within = omega arith; some = λ h. omega arith }

pub runs_count : (most sent : ℕ) (last : Option Outcome) (old new : Running) → RunsMade most sent last old new → Count most sent
runs_count most sent last old new made =
    counted most _ last made.list sent made.runs_are (sym (length-events made.list) ∙ ap length made.those ∙ length-replicate sent Run)
