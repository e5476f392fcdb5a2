use Rattle.std.proofs.Common.{◌∙◌, ap, map, refl}
use Rattle.kernel_spec.specs.views.State.{named_file}
use Rattle.program_files.specs.Failures.{failure_status}
use Rattle.program_files.proofs.Failures.{failure_status-boot}
use Rattle.program_files.proofs.Statuses.{booted-first}
use Rattle.xv_run.proofs.Statuses.{says}
use Rattle.xv_run.proofs.running.run_with.Goals as goal

pub returns-in-Ok : goal.returns-in-Ok
returns-in-Ok g c = says c.drive_to_end.result c.args.config c.args.plan (map named_file c.args.programs.items) c.in-Ok.machine
    (record {
      source = g.R.KeySource.source c.args.keys.now;
      failed_reads = g.R.KeySource.failures c.args.keys.now;
      sink = g.W.ByteSink.sink c.args.sink.now;
      failed_writes = g.W.ByteSink.failures c.args.sink.now;
    })
    (record {
      source = g.R.KeySource.source c.drive_to_end.new.keys;
      failed_reads = g.R.KeySource.failures c.drive_to_end.new.keys;
      sink = g.W.ByteSink.sink c.drive_to_end.new.sink;
      failed_writes = g.W.ByteSink.failures c.drive_to_end.new.sink;
    })
    (booted-first _ _ _ _ c.boot.ensures.boots c.in-Ok.is) c.drive_to_end.ensures

-- a boot that is refused is told by 2
pub returns-in-Err : goal.returns-in-Err
returns-in-Err g c = record {
  refused = λ _. refl;
  driven = λ other. absurd (other (c.close.ensures.is ∙ (ap failure_status c.from.ensures ∙ failure_status-boot c.in-Err.error)));
}
