use Rattle.std.proofs.Common.{inr}
use Rattle.xv_debug.proofs.Results.{if-err}
use Rattle.xv_debug.proofs.debugger.Debugger.answer_displayed.Goals as goal

pub returns-in_err-show_off-clause-failed : goal.returns-in_err-show_off-clause-failed
returns-in_err-show_off-clause-failed g c =
    let obeys = c.in_ok-next.ensures.done in
    if-err _ (inr (record { word = obeys.word; in_range = obeys.in_range; does = obeys.does }))
