use Rattle.grade_sheets.proofs.Prelude.{◌+◌, ◌<◌, AreMarked, arith, length, List, Mark, subst, sym, take}
use Rattle.grade_sheets.proofs.Marking.{marked_more}
use Rattle.grade_sheets.proofs.judging.marks.Goals as goal

-- a mark more
pub loop-one-preserved : goal.loop-one-preserved
loop-one-preserved c =
    let asked = c.args.asked.now in
    let seen = c.args.seen.now in
    let place = c.loop-one.one-index in
    let within : place < length asked = omega (arith, c.loop-one-test.true) in
    subst (λ (ms : List Mark). AreMarked (take (place + 1) asked) seen ms) (sym c.in_ok-push.ensures.items)
    (marked_more asked seen c.loop-one.marks.items place c.one-item.result c.in_ok-mark_for.field-0 within c.one-item.is c.loop-one.invariant c.in_ok-mark_for.ensures)
