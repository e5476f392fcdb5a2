use Rattle.std.proofs.Common.{List, subst, IfErr, IfOk}
use Rattle.kernel_spec.specs.runs.Run.{Event}
use Rattle.xv_machine.specs.Stretches.{Plays, PlayedFirst}
use Rattle.xv_machine.proofs.driving.play_keyed_round.Goals as goal

pub returns-clause-plays : goal.returns-clause-plays
returns-clause-plays g c =
    subst
    (λ (es : List Event). IfOk c.play_parts.result (λ w. Plays w es (g.P.RoundPlayer.machine c.args.player.now) (g.P.RoundPlayer.machine c.play_parts.new.player) (g.W.ByteSink.sink c.args.sink.now)
    (g.W.ByteSink.sink c.play_parts.new.sink)))
    c.round_parts-parts.ensures c.play_parts.ensures.plays

pub returns-clause-refused : goal.returns-clause-refused
returns-clause-refused g c =
    let old = g.P.RoundPlayer.machine c.args.player.now in
    let new = g.P.RoundPlayer.machine c.play_parts.new.player in
    let sink = g.W.ByteSink.sink c.args.sink.now in
    let sink_after = g.W.ByteSink.sink c.play_parts.new.sink in
    subst (λ (es : List Event). IfErr c.play_parts.result (λ _. PlayedFirst es old new sink sink_after)) c.round_parts-parts.ensures c.play_parts.ensures.refused
