use Rattle.std.proofs.Common.{arith, ◌+◌, List, sym, subst, take, take-append-drop, get_or}
use Rattle.kernel_spec.specs.runs.Run.{Event}
use Rattle.xv_record.specs.declared.line.Line.TheVariants.{Run}
use Rattle.xv_live.specs.Plays.{Plays, events_of_line, events_of_lines}
use Rattle.xv_live.proofs.Lines.{lines-all, lines-more}
use Rattle.xv_live.proofs.Broke.{begins-line, on-err}
use Rattle.xv_live.proofs.Played.{plays-none, plays-join, plays-list}
use Rattle.xv_live.proofs.playing.play.Goals as goal

pub loop-line-init : goal.loop-line-init
loop-line-init g c = plays-none c.args.session.now _

pub loop-line-preserved : goal.loop-line-preserved
loop-line-preserved g c =
    let lines = c.args.lines.now in
    let i = c.loop-line.line-index in
    let s = c.args.session.now in
    let h = (g.W.ByteSink.sink c.args.screen.now.sink).held in
    let k = (g.W.ByteSink.sink c.play_line.new.screen.sink).held in
    subst (λ (es : List Event). Plays es s c.play_line.new.session h k) (sym (lines-more lines i (Run 0) c.loop-line-test.true))
    (plays-join (events_of_lines (take i lines)) (events_of_line (get_or lines i (Run 0))) _ _ _ _ _ _ c.loop-line.invariant c.in_ok-play_line.ensures.plays)

pub returns-clause-plays : goal.returns-clause-plays
returns-clause-plays g c =
    let lines = c.args.lines.now in
    let i = c.loop-line.line-index in
    plays-list (events_of_lines (take i lines)) (events_of_lines lines) _ _ _ _ (lines-all lines i (omega arith)) c.loop-line.invariant

pub returns-in_err-play_line-clause-begins : goal.returns-in_err-play_line-clause-begins
returns-in_err-play_line-clause-begins g c =
    let lines = c.args.lines.now in
    let i = c.loop-line.line-index in
    on-err c.from_residual.result
    (begins-line lines i (get_or lines i (Run 0)) _ _ _ _ _ (take-append-drop (i + 1) lines) (lines-more lines i (Run 0) c.loop-line-test.true) c.loop-line.invariant
    c.in_err-play_line.ensures.begins)
