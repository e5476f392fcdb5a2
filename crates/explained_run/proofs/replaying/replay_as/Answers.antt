use Rattle.std.proofs.Common.{ap, sym, ◌∙◌, Ok}
use Rattle.program_files.specs.Failures.{failure_status}
use Rattle.program_files.proofs.Failures.{failure_status-boot}
use Rattle.program_files.proofs.Statuses.{booted-first}
use Rattle.explained_run.specs.Booted.{machine_of}
use Rattle.explained_run.specs.declared.explained.Explained.{Explained}
use Rattle.explained_run.proofs.replaying.replay_as.Goals as goal

pub returns-in-Ok : goal.returns-in-Ok
returns-in-Ok g c = λ other.
    let m = c.new-watched.result.explained.running.machine in
    let is = ap machine_of (c.in-Ok.is ∙ ap (λ (x : Explained). Ok x) (sym c.new-watched.ensures.explained)) in
    let (ended, told) = c.watch_record.ensures other in
    (m, ended, booted-first _ (machine_of c.boot.result) _ m c.boot.ensures.boots is, told)

pub returns : goal.returns
returns g c = λ other. absurd (other (c.close.ensures.is ∙ (ap failure_status c.from.ensures ∙ failure_status-boot c.in-Err.error)))
