use Rattle.std.proofs.Common.{◌∷◌, [], replicate}
use Rattle.xk_base.specs.declared.limits.TheConstants.{SEND_BYTES}
use Rattle.kernel_spec.specs.runs.Run.{Run, Send, Tick}
use Rattle.xv_machine.proofs.Joins.{silent-played}
use Rattle.xv_machine.proofs.Quiet.{plays-after}
use Rattle.xv_machine.proofs.Refused.{if-err, first-early, first-later, first-silent}
use Rattle.xv_machine.proofs.driving.play_on.Goals as goal

pub returns-in_err-passed-clause-refused : goal.returns-in_err-passed-clause-refused
returns-in_err-passed-clause-refused g c =
    let sink = g.W.ByteSink.sink c.args.sink.now in
    let new = g.P.RoundPlayer.machine c.run_over_ticks.new.player in
    let (passed, start, within, q, f) = c.in_err-passed.ensures.refused in
    let runs = replicate c.args.quantum Run in
    if-err c.from_residual.result (passed, start, within, q, first-early runs (Tick ∷ replicate SEND_BYTES Send) start new sink sink (first-silent runs start new sink f))

pub returns-in_err-tick_often-clause-refused : goal.returns-in_err-tick_often-clause-refused
returns-in_err-tick_often-clause-refused g c =
    let sink = g.W.ByteSink.sink c.args.sink.now in
    let ran = g.P.RoundPlayer.machine c.run_over_ticks.new.player in
    let new = g.P.RoundPlayer.machine c.tick_often.new.player in
    let (start, q, s) = c.in_ok-passed.ensures.ran in
    let runs = replicate c.args.quantum Run in
    if-err c.from_residual-in_err-tick_often.result (
      c.in_ok-passed.passed,
      start,
      c.in_ok-passed.ensures.within,
      q,
      first-later runs (Tick ∷ replicate SEND_BYTES Send) start ran new sink sink sink (silent-played runs start ran sink s)
          (first-early (Tick ∷ []) (replicate SEND_BYTES Send) ran new sink sink (first-silent (Tick ∷ []) ran new sink c.in_err-tick_often.ensures.refused)),
    )

pub returns-in_err-written-clause-refused : goal.returns-in_err-written-clause-refused
returns-in_err-written-clause-refused g c =
    let sink = g.W.ByteSink.sink c.args.sink.now in
    let after = g.W.ByteSink.sink c.send_often.new.sink in
    let ran = g.P.RoundPlayer.machine c.run_over_ticks.new.player in
    let ticked = g.P.RoundPlayer.machine c.tick_often.new.player in
    let new = g.P.RoundPlayer.machine c.send_often.new.player in
    let (start, q, s) = c.in_ok-passed.ensures.ran in
    let runs = replicate c.args.quantum Run in
    if-err c.from_residual-in_err-written.result (
      c.in_ok-passed.passed,
      start,
      c.in_ok-passed.ensures.within,
      q,
      first-later runs (Tick ∷ replicate SEND_BYTES Send) start ran new sink sink after (silent-played runs start ran sink s)
          (first-later (Tick ∷ []) (replicate SEND_BYTES Send) ran ticked new sink sink after
          (silent-played (Tick ∷ []) ran ticked sink c.in_ok-tick_often.ensures.sent) c.in_err-written.ensures.refused),
    )

pub returns-clause-plays : goal.returns-clause-plays
returns-clause-plays g c =
    let sink = g.W.ByteSink.sink c.args.sink.now in
    let after = g.W.ByteSink.sink c.send_often.new.sink in
    let ran = g.P.RoundPlayer.machine c.run_over_ticks.new.player in
    let ticked = g.P.RoundPlayer.machine c.tick_often.new.player in
    let new = g.P.RoundPlayer.machine c.send_often.new.player in
    let (start, q, s) = c.in_ok-passed.ensures.ran in
    let runs = replicate c.args.quantum Run in (
      start,
      q,
      plays-after c.in_ok-written.written runs (Tick ∷ replicate SEND_BYTES Send) start ran new sink after s
          (plays-after c.in_ok-written.written (Tick ∷ []) (replicate SEND_BYTES Send) ran ticked new sink after c.in_ok-tick_often.ensures.sent c.in_ok-written.ensures.plays),
    )
