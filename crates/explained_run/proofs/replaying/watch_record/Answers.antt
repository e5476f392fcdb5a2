use Rattle.std.proofs.Common.{Bool, true, List, refl, string_bytes, subst}
use Rattle.std.proofs.Math.Logic.{∥∥₁_map, ∥∥₁_map₂}
use Rattle.recorded_runs.specs.Replays.{Screen, TellsReplay}
use Rattle.xv_live.specs.Plays.{events_of_lines}
use Rattle.xv_record.specs.declared.line.Line.{Line}
use Rattle.explained_run.specs.Told.{IsTold}
use Rattle.explained_run.specs.declared.choice.Choice.{Choice}
use Rattle.explained_run.proofs.Ends.{tells-so}
use Rattle.explained_run.proofs.replaying.watch_record.Goals as goal

pub returns : goal.returns
returns g c = λ other.
    let played = c.play_record-played in
    let before : Screen = record { sink = g.W.ByteSink.sink c.args.sink.now; failed_writes = g.W.ByteSink.failures c.args.sink.now } in
    let after : Screen = record { sink = g.W.ByteSink.sink played.new.sink; failed_writes = g.W.ByteSink.failures played.new.sink } in
    let lines = c.as_slice.result.now in
    let x = played.new.player.explained in
    let complete = c.close_played-status.ensures.complete other in (
      x.running.machine,
      (
        subst (λ (xs : List Line). TellsReplay c.close_played-status.result (events_of_lines xs) c.args.watched.explained.running.machine x.running.machine before after) c.as_slice.ensures.value
            (tells-so played.result c.close_played-status.result (events_of_lines lines) c.args.watched.explained.running.machine x.running.machine before after
            (c.close_played-status.ensures.ended other) (c.close_played-status.ensures.over other) played.ensures.played played.ensures.end played.ensures.broke played.ensures.failures
            played.ensures.refused played.ensures.none_failed),
        record {
          running = x.running;
          stands = refl;
          at = x.at;
          text = string_bytes x.text;
          counted = x.counts.complete;
          counts = x.counts.counts.items;
          told = ∥∥₁_map₂ x.told played.new.player.handed (λ t h. subst (λ (choice : Choice). IsTold choice x.running x.at true (string_bytes x.text) x.counts.complete x.counts.counts.items) h.0
              (subst (λ (b : Bool). IsTold x.choice x.running x.at b (string_bytes x.text) x.counts.complete x.counts.counts.items) complete t));
          held = ∥∥₁_map played.new.player.handed (λ h. h.1 complete);
        },
      ),
    )
