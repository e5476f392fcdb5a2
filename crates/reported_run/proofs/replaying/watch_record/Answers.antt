use Rattle.std.proofs.Common.{◌≡◌, ◌∙◌, List, true, subst, sym}
use Rattle.std.proofs.Math.Logic.{∥∥₁_map}
use Rattle.recorded_runs.specs.Replays.{Screen, TellsReplay, status_of}
use Rattle.xv_live.specs.Plays.{events_of_lines}
use Rattle.xv_record.specs.declared.line.Line.{Line}
use Rattle.recorded_runs.proofs.Ends.{tells-end}
use Rattle.reported_run.specs.Known.{IsKnown, known_of}
use Rattle.reported_run.specs.Stops.{stop_status}
use Rattle.reported_run.specs.declared.ends.Ends.{Ends}
use Rattle.reported_run.proofs.Stopped.{stopped-replay}
use Rattle.reported_run.proofs.replaying.watch_record.Goals as goal

pub invariant_of-watched : goal.invariant_of-watched
invariant_of-watched g c =
    let played = c.play_record-played.new.player in
    let same : c.say_record_end.new.self.ends ≡ played.teller.ends = c.say_record_end.ensures.ends ∙ c.tell_waits.ensures.ends ∙ c.show_trace.ensures.ends ∙ c.close.ensures.ends in
    record { known = ∥∥₁_map played.known (λ k. subst (λ (ends : Ends). ends.complete ≡ true → IsKnown played.session (known_of ends)) (sym same) k) }

pub invariant_of-watched-in-Err : goal.invariant_of-watched-in-Err
invariant_of-watched-in-Err g c =
    let played = c.play_record-played.new.player in
    let same : c.say_stop.new.self.ends ≡ played.teller.ends = c.say_stop.ensures.ends ∙ c.tell_waits.ensures.ends ∙ c.show_trace.ensures.ends ∙ c.close.ensures.ends in
    record { known = ∥∥₁_map played.known (λ k. subst (λ (ends : Ends). ends.complete ≡ true → IsKnown played.session (known_of ends)) (sym same) k) }

pub returns-in-Ok : goal.returns-in-Ok
returns-in-Ok g c = λ other.
    let before : Screen = record { sink = g.W.ByteSink.sink c.args.sink.now; failed_writes = g.W.ByteSink.failures c.args.sink.now } in
    let after : Screen = record { sink = g.W.ByteSink.sink c.play_record-played.new.sink; failed_writes = g.W.ByteSink.failures c.play_record-played.new.sink } in
    let lines = c.as_slice.result.now in
    let ended = c.play_record-played.new.player.session.machine in
    rw c.say_record_end.ensures.status
    (subst (λ (xs : List Line). TellsReplay (status_of c.in-Ok.end) (events_of_lines xs) c.args.watched.now.session.machine ended before after) c.as_slice.ensures.value
    (tells-end (events_of_lines lines) c.args.watched.now.session.machine ended before after c.in-Ok.end
    c.in-Ok.ensures.played c.in-Ok.ensures.end c.in-Ok.ensures.broke c.in-Ok.ensures.failures))

pub returns-in-Err : goal.returns-in-Err
returns-in-Err g c =
    let before : Screen = record { sink = g.W.ByteSink.sink c.args.sink.now; failed_writes = g.W.ByteSink.failures c.args.sink.now } in
    let after : Screen = record { sink = g.W.ByteSink.sink c.play_record-played.new.sink; failed_writes = g.W.ByteSink.failures c.play_record-played.new.sink } in
    let lines = c.as_slice.result.now in
    let ended = c.play_record-played.new.player.session.machine in
    rw c.say_stop.ensures.status (λ other.
    subst (λ (xs : List Line). TellsReplay (stop_status c.in-Err.stop) (events_of_lines xs) c.args.watched.now.session.machine ended before after) c.as_slice.ensures.value
    (stopped-replay c.in-Err.stop (events_of_lines lines) c.args.watched.now.session.machine ended before after
    c.in-Err.ensures.refused c.in-Err.ensures.none_failed other))
