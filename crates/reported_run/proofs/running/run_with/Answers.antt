use Rattle.std.proofs.Common.{◌∙◌, ap, subst}
use Rattle.program_files.specs.Failures.{failure_status}
use Rattle.program_files.specs.Statuses.{Devices}
use Rattle.run_work.specs.Runs.{EndsSo}
use Rattle.program_files.proofs.Failures.{failure_status-boot}
use Rattle.program_files.proofs.Statuses.{booted-first}
use Rattle.xv_session.specs.Answers.{machine_of}
use Rattle.xv_session.specs.Recorded.{Recorded}
use Rattle.reported_run.proofs.running.run_with.Goals as goal

pub returns-in-Ok : goal.returns-in-Ok
returns-in-Ok g c = λ other.
    let before : Devices = record {
      source = g.R.KeySource.source c.args.keys.now;
      failed_reads = g.R.KeySource.failures c.args.keys.now;
      sink = g.W.ByteSink.sink c.args.sink.now;
      failed_writes = g.W.ByteSink.failures c.args.sink.now;
    } in
    let after : Devices = record {
      source = g.R.KeySource.source c.watch_to_end.new.keys;
      failed_reads = g.R.KeySource.failures c.watch_to_end.new.keys;
      sink = g.W.ByteSink.sink c.watch_to_end.new.sink;
      failed_writes = g.W.ByteSink.failures c.watch_to_end.new.sink;
    } in (
      c.in-Ok.session.machine,
      c.watch_to_end.new.watched.session.machine,
      booted-first _ (machine_of c.boot.result) _ c.in-Ok.session.machine c.boot.ensures.boots (ap machine_of c.in-Ok.is),
      subst (λ (s : Recorded). EndsSo c.watch_to_end.result c.args.plan s.machine c.watch_to_end.new.watched.session.machine before after) c.new-watched.ensures (c.watch_to_end.ensures other),
    )

pub returns-in-Err : goal.returns-in-Err
returns-in-Err g c = λ other. absurd (other (c.say_failure.ensures.status ∙ (ap failure_status c.from.ensures ∙ failure_status-boot c.in-Err.error)))
