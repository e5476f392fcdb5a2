use Rattle.dwarf.proofs.Prelude.{◌≡◌, err_from_is_err_and, past_number, skipped, sym}
use Rattle.dwarf.proofs.Times.{times-go_on, times-fail, times-end}
use Rattle.dwarf.proofs.bytes.skip_numbers.Goals as goal

pub returns-in_err-next : goal.returns-in_err-next
returns-in_err-next c =
    let p = err_from_is_err_and c.from_residual.result c.from_residual.ensures.1 in
    rw (p.1, p.2)
    (sym (times-fail (past_number c.args.bytes.now) c.args.count c.loop.counter c.loop.next c.in_err-next.field-0.0 _ c.loop-test.true (sym c.in_err-next.ensures.value) c.loop.invariant))

pub loop-preserved : goal.loop-preserved
loop-preserved c = times-go_on (past_number c.args.bytes.now) c.args.count c.loop.counter c.loop.next _ _ c.loop-test.true (sym c.in_ok-next.ensures.value) c.loop.invariant

pub returns : goal.returns
returns c = sym (times-end (past_number c.args.bytes.now) c.args.count c.loop.counter c.loop.next _ c.loop-test.false c.loop.invariant)
