use Rattle.grade_sheets.proofs.Prelude.{◌+◌, ◌<◌, AreAnswered, arith, Bool, is_none, length, subst, sym, take}
use Rattle.grade_sheets.proofs.Marking.{answered_more}
use Rattle.grade_sheets.proofs.judging.first_complaint.Goals as goal

-- an answer more
pub loop-check-preserved : goal.loop-check-preserved
loop-check-preserved c =
    let checks = c.args.checks.now in
    let seen = c.args.seen.now in
    let place = c.loop-check.check-index in
    let within : place < length checks = omega (arith, c.loop-check-test.true) in
    subst (λ (b : Bool). AreAnswered (take (place + 1) checks) seen b) (sym c.earlier-first.ensures)
    (answered_more checks seen (is_none c.loop-check.first) place c.check-item.result (is_none c.in_ok-why.why) within c.check-item.is c.loop-check.invariant c.in_ok-why.ensures)
