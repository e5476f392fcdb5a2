use Rattle.std.proofs.Common.{◌≡◌, ◌∙◌, true, subst, sym}
use Rattle.std.proofs.Math.Logic.{∥∥₁_map}
use Rattle.program_files.specs.Statuses.{Devices}
use Rattle.run_work.proofs.Ended.{ended-driven}
use Rattle.reported_run.specs.Known.{IsKnown, known_of}
use Rattle.reported_run.specs.declared.ends.Ends.{Ends}
use Rattle.reported_run.proofs.Stopped.{stopped}
use Rattle.reported_run.proofs.running.watch_to_end.Goals as goal

pub invariant_of-watched : goal.invariant_of-watched
invariant_of-watched g c =
    let played = c.play_rounds-played.new.player in
    let same : c.say_end.new.self.ends ≡ played.teller.ends = c.say_end.ensures.ends ∙ c.tell_waits.ensures.ends ∙ c.show_trace.ensures.ends ∙ c.close.ensures.ends in
    record { known = ∥∥₁_map played.known (λ k. subst (λ (ends : Ends). ends.complete ≡ true → IsKnown played.session (known_of ends)) (sym same) k) }

pub invariant_of-watched-in-Err : goal.invariant_of-watched-in-Err
invariant_of-watched-in-Err g c =
    let played = c.play_rounds-played.new.player in
    let same : c.say_stop.new.self.ends ≡ played.teller.ends = c.say_stop.ensures.ends ∙ c.tell_waits.ensures.ends ∙ c.show_trace.ensures.ends ∙ c.close.ensures.ends in
    record { known = ∥∥₁_map played.known (λ k. subst (λ (ends : Ends). ends.complete ≡ true → IsKnown played.session (known_of ends)) (sym same) k) }

pub returns-in-Ok : goal.returns-in-Ok
returns-in-Ok g c = λ other.
    let before : Devices = record {
      source = g.R.KeySource.source c.args.keys.now;
      failed_reads = g.R.KeySource.failures c.args.keys.now;
      sink = g.W.ByteSink.sink c.args.sink.now;
      failed_writes = g.W.ByteSink.failures c.args.sink.now;
    } in
    let after : Devices = record {
      source = g.R.KeySource.source c.play_rounds-played.new.keys;
      failed_reads = g.R.KeySource.failures c.play_rounds-played.new.keys;
      sink = g.W.ByteSink.sink c.play_rounds-played.new.sink;
      failed_writes = g.W.ByteSink.failures c.play_rounds-played.new.sink;
    } in
    rw c.say_end.ensures.status (ended-driven c.args.plan c.args.watched.now.session.machine c.play_rounds-played.new.player.session.machine before after c.in-Ok.end
    c.in-Ok.ensures.done c.in-Ok.ensures.end c.in-Ok.ensures.read c.in-Ok.ensures.read_failed c.in-Ok.ensures.write c.in-Ok.ensures.write_failed)

pub returns-in-Err : goal.returns-in-Err
returns-in-Err g c =
    let before : Devices = record {
      source = g.R.KeySource.source c.args.keys.now;
      failed_reads = g.R.KeySource.failures c.args.keys.now;
      sink = g.W.ByteSink.sink c.args.sink.now;
      failed_writes = g.W.ByteSink.failures c.args.sink.now;
    } in
    let after : Devices = record {
      source = g.R.KeySource.source c.play_rounds-played.new.keys;
      failed_reads = g.R.KeySource.failures c.play_rounds-played.new.keys;
      sink = g.W.ByteSink.sink c.play_rounds-played.new.sink;
      failed_writes = g.W.ByteSink.failures c.play_rounds-played.new.sink;
    } in
    let ended = c.play_rounds-played.new.player.session.machine in
    rw c.say_stop.ensures.status (stopped c.in-Err.stop c.args.plan c.args.watched.now.session.machine ended before after (record {
      stopped = c.in-Err.ensures.refused;
      reads = c.in-Err.ensures.refused_failures.0;
      writes = c.in-Err.ensures.refused_failures.1;
    }))
