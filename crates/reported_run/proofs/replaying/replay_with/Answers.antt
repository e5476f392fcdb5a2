use Rattle.std.proofs.Common.{◌∙◌, ap, subst}
use Rattle.program_files.specs.Failures.{failure_status}
use Rattle.recorded_runs.specs.Cuts.{events_in}
use Rattle.recorded_runs.specs.Replays.{Screen, TellsReplay}
use Rattle.program_files.proofs.Failures.{failure_status-boot}
use Rattle.program_files.proofs.Statuses.{booted-first}
use Rattle.xv_session.specs.Answers.{machine_of}
use Rattle.xv_session.specs.Recorded.{Recorded}
use Rattle.reported_run.proofs.replaying.replay_with.Goals as goal

pub returns-in-Ok : goal.returns-in-Ok
returns-in-Ok g c = λ other.
    let before : Screen = record { sink = g.W.ByteSink.sink c.args.sink.now; failed_writes = g.W.ByteSink.failures c.args.sink.now } in
    let after : Screen = record { sink = g.W.ByteSink.sink c.watch_record.new.sink; failed_writes = g.W.ByteSink.failures c.watch_record.new.sink } in (
      c.in-Ok.session.machine,
      c.watch_record.new.watched.session.machine,
      booted-first _ (machine_of c.boot.result) _ c.in-Ok.session.machine c.boot.ensures.boots (ap machine_of c.in-Ok.is),
      subst (λ (s : Recorded). TellsReplay c.watch_record.result (events_in c.args.kept.now) s.machine c.watch_record.new.watched.session.machine before after) c.new-watched.ensures
          (c.watch_record.ensures other),
    )

pub returns-in-Err : goal.returns-in-Err
returns-in-Err g c = λ other. absurd (other (c.say_failure.ensures.status ∙ (ap failure_status c.from.ensures ∙ failure_status-boot c.in-Err.error)))
