use Rattle.std.proofs.Common.{◌≡◌, ℕ, sym, ap, subst}
use Rattle.std.specs.Prelude.{option_map}
use Rattle.xv_machine.specs.Events.{outcome_of}
use Rattle.xv_session.specs.Answers.{Stopped}
use Rattle.xv_page.specs.Told.{runs_told}
use Rattle.xv_page.specs.declared.outcomes.RunsTold.{RunsTold}
use Rattle.xv_page.proofs.writing.run_to_stop.Goals as goal

pub returns-in-Ok : goal.returns-in-Ok
returns-in-Ok c =
    let it = c.in-Ok.went in
    let last = option_map outcome_of it.last in
    let told = c.runs_told.result in
    let same : it.sent ≡ told.sent = sym (ap (λ (t : RunsTold). t.sent) c.runs_told.ensures) in
    let IsStopped : ℕ → Type 0 = λ sent. Stopped c.args.addresses.now c.args.bytes.now c.args.most sent it.met last c.args.session.now c.run_to_stop.new.self in
    let IsTold : ℕ → Type 0 = λ sent. told ≡ runs_told sent it.met last in
    record {
      met = it.met;
      last = last;
      stopped = subst IsStopped same c.in-Ok.ensures.stopped;
      is_told = subst IsTold same c.runs_told.ensures;
    }
