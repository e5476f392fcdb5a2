use Rattle.std.proofs.Common.{◌+◌, ◌++◌, arith, drop, get_or, rules, sym, take}
use Rattle.xv_record.specs.declared.line.Line.TheVariants.{Run}
use Rattle.xv_live.specs.Plays.{events_of_line, events_of_lines}
use Rattle.xv_live.proofs.Lines.{lines-all, lines-more}
use Rattle.xv_machine.proofs.Joins.{none-played, played-join, broke-early, broke-later}
use Rattle.xv_machine.proofs.PlayedParts.{played-of, broke-of, played-those, broke-those}
use Rattle.xv_machine.proofs.Refused.{if-err, first-those, first-early, first-later}
use Rattle.recorded_runs.proofs.Lines.{lines-around}
use Rattle.recorded_runs.proofs.playing.play_lines.Goals as goal

pub loop-line-init : goal.loop-line-init
loop-line-init g c = record { played = none-played _ _ c.requires; failures = search rules }

pub play_line-requires : goal.play_line-requires
play_line-requires g c = c.loop-line.invariant.played.goes.sound

pub loop-line-preserved : goal.loop-line-preserved
loop-line-preserved g c =
    let lines = c.args.lines.now in
    let i = c.loop-line.line-index in
    let before = events_of_lines (take i lines) in
    let now = events_of_line (get_or lines i (Run 0)) in
    record {
      played = played-those (before ++ now) (events_of_lines (take (i + 1) lines)) _ _ _ _ (sym (lines-more lines i (Run 0) c.loop-line-test.true))
          (played-join before now _ _ _ _ _ _ c.loop-line.invariant.played (played-of now _ _ _ _ c.in_ok-written.written _ c.in-Ok.is c.in_ok-written.ensures.plays));
      failures = search rules;
    }

pub returns-in_default-clause-plays : goal.returns-in_default-clause-plays
returns-in_default-clause-plays g c =
    let lines = c.args.lines.now in
    let i = c.loop-line.line-index in
    let before = events_of_lines (take i lines) in
    let now = events_of_line (get_or lines i (Run 0)) in
    let later = events_of_lines (drop (i + 1) lines) in
    broke-those ((before ++ now) ++ later) (events_of_lines lines) _ _ _ _ (lines-around lines i (Run 0) c.loop-line-test.true)
    (broke-early (before ++ now) later _ _ _ _
    (broke-later before now _ _ _ _ _ _ c.loop-line.invariant.played (broke-of now _ _ _ _ c.in_ok-written.written _ c.in_default.is c.in_ok-written.ensures.plays)))

pub returns-clause-plays : goal.returns-clause-plays
returns-clause-plays g c =
    let lines = c.args.lines.now in
    let i = c.loop-line.line-index in
    played-those (events_of_lines (take i lines)) (events_of_lines lines) _ _ _ _ (lines-all lines i (omega arith)) c.loop-line.invariant.played

pub returns-in_err-written-clause-refused : goal.returns-in_err-written-clause-refused
returns-in_err-written-clause-refused g c =
    let lines = c.args.lines.now in
    let i = c.loop-line.line-index in
    let before = events_of_lines (take i lines) in
    let now = events_of_line (get_or lines i (Run 0)) in
    let later = events_of_lines (drop (i + 1) lines) in
    if-err c.from_residual.result
    (first-those ((before ++ now) ++ later) (events_of_lines lines) _ _ _ _ (lines-around lines i (Run 0) c.loop-line-test.true)
    (first-early (before ++ now) later _ _ _ _ (first-later before now _ _ _ _ _ _ c.loop-line.invariant.played c.in_err-written.ensures.refused)))
