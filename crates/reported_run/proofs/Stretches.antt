-- Runs and Sends that a session sends are those that its machine is sent.
use Rattle.std.proofs.Common.{◌≡◌, ◌∙◌, ℕ, ◌<◌, ◌≤◌, inl, inr, sym, ap, subst, arith, List, [], ◌∷◌, length, Option, None, Some}
use Rattle.kernel_spec.specs.runs.Run.{Event, Send, Outcome, Sent, first_sent}
use Rattle.kernel_spec.specs.views.Words.{or_zero}
use Rattle.xv_machine.specs.Drives.{Goes, Ran, AreRuns, SendsMade}
use Rattle.xv_machine.specs.Meaning.{Meaning}
use Rattle.xv_machine.specs.Reached.{IsEvent}
use Rattle.xv_machine.proofs.Joins.{goes-one}
use Rattle.xv_session.specs.Steps.{RunsMade, AreRunsTo}
use Rattle.xv_session.specs.declared.running.Running.{Running}
use Rattle.xv_session.proofs.RunsCounted.{count-sent, runs-count}
use Rattle.reported_run.specs.Sent.{byte_sent}

abbrev Steps : Type 0
Steps = List (Event × Outcome)

-- ---- Runs

runs-are : (most p : ℕ) (last : Option Outcome) (list : Steps) → AreRunsTo most p last list → AreRuns most p list
runs-are most p None list is = inl is
runs-are most p (Some o) list (inl (made, is, less, step, idle, halted)) = inr (inl (made, o, is, less, step, idle, halted))
runs-are most p (Some o) list (inr (is, why)) = inr (inr (o, is, why))

module _ (most sent : ℕ) (last : Option Outcome) (old new : Running) (made : RunsMade most sent last old new) where
  count : length made.list ≡ sent
  count = count-sent made.list sent made.those

  pub ran : Ran most sent old.machine new.machine
  ran = record {
    list = made.list;
    goes = made.goes;
    runs_are = runs-are most (or_zero old.machine.world.turns.current) last made.list made.runs_are;
    count = count;
  }

  pub within : sent ≤ most
  within = let all = (runs-count most (or_zero old.machine.world.turns.current) last made.list made.runs_are).0 in omega (arith, all, count)

  pub some : 0 < most → 0 < sent
  some more = let all = (runs-count most (or_zero old.machine.world.turns.current) last made.list made.runs_are).1 more in omega (arith, all, count)

-- ---- Sends

pub send-made : (o : Outcome) (byte : Option ℕ) (old new : Meaning) → IsEvent old Send o new → byte ≡ byte_sent o → SendsMade 1 byte old new
send-made o byte old new event is =
    let b = first_sent old.world.state.console.to_send in
    let sent : o ≡ Sent b = event.promised.0.0 in
    let same : o ≡ Sent byte = sent ∙ ap Sent (sym (is ∙ ap byte_sent sent)) in
    record {
      idle = 0;
      goes = subst (λ (x : Outcome). Goes old ((Send, x) ∷ []) new) same (goes-one Send o old new event.promised event.notes event.room event.frames event.sound);
      count = omega arith;
    }
