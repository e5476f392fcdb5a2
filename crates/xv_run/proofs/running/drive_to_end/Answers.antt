use Rattle.program_files.proofs.Statuses.{tells}
use Rattle.xv_run.proofs.running.drive_to_end.Goals as goal

pub returns : goal.returns
returns g c = rw c.close_run.ensures (tells c.args.plan c.args.machine.now c.drive-end.new.machine
    (record {
      source = g.R.KeySource.source c.args.keys.now;
      failed_reads = g.R.KeySource.failures c.args.keys.now;
      sink = g.W.ByteSink.sink c.args.sink.now;
      failed_writes = g.W.ByteSink.failures c.args.sink.now;
    })
    (record {
      source = g.R.KeySource.source c.drive-end.new.keys;
      failed_reads = g.R.KeySource.failures c.drive-end.new.keys;
      sink = g.W.ByteSink.sink c.drive-end.new.sink;
      failed_writes = g.W.ByteSink.failures c.drive-end.new.sink;
    })
    c.drive-end.result c.drive-end.ensures.done c.drive-end.ensures.end c.drive-end.ensures.read_failed c.drive-end.ensures.write_failed)
