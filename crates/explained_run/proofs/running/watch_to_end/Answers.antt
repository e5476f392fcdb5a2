use Rattle.std.proofs.Common.{Bool, true, refl, string_bytes, subst}
use Rattle.std.proofs.Math.Logic.{∥∥₁_map, ∥∥₁_map₂}
use Rattle.program_files.specs.Statuses.{Devices}
use Rattle.explained_run.specs.Told.{IsTold}
use Rattle.explained_run.specs.declared.choice.Choice.{Choice}
use Rattle.explained_run.proofs.Ends.{ends-so}
use Rattle.explained_run.proofs.running.watch_to_end.Goals as goal

pub returns : goal.returns
returns g c = λ other.
    let before : Devices = record {
      source = g.R.KeySource.source c.args.keys.now;
      failed_reads = g.R.KeySource.failures c.args.keys.now;
      sink = g.W.ByteSink.sink c.args.sink.now;
      failed_writes = g.W.ByteSink.failures c.args.sink.now;
    } in
    let after : Devices = record {
      source = g.R.KeySource.source c.play_rounds-played.new.keys;
      failed_reads = g.R.KeySource.failures c.play_rounds-played.new.keys;
      sink = g.W.ByteSink.sink c.play_rounds-played.new.sink;
      failed_writes = g.W.ByteSink.failures c.play_rounds-played.new.sink;
    } in
    let played = c.play_rounds-played in
    let x = played.new.player.explained in
    let complete = c.close-status.ensures.complete other in (
      x.running.machine,
      (
        ends-so played.result c.close-status.result c.args.plan c.args.watched.explained.running.machine x.running.machine before after
            (c.close-status.ensures.ended other) (c.close-status.ensures.over other) played.ensures.done played.ensures.end played.ensures.read played.ensures.read_failed
            played.ensures.write played.ensures.write_failed played.ensures.refused played.ensures.refused_failures,
        record {
          running = x.running;
          stands = refl;
          at = x.at;
          text = string_bytes x.text;
          counted = x.counts.complete;
          counts = x.counts.counts.items;
          told = ∥∥₁_map₂ x.told played.new.player.handed (λ t h. subst (λ (choice : Choice). IsTold choice x.running x.at true (string_bytes x.text) x.counts.complete x.counts.counts.items) h.0
              (subst (λ (b : Bool). IsTold x.choice x.running x.at b (string_bytes x.text) x.counts.complete x.counts.counts.items) complete t));
          held = ∥∥₁_map played.new.player.handed (λ h. h.1 complete);
        },
      ),
    )
