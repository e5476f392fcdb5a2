use Rattle.dwarf.proofs.Prelude.{◌≡◌, arith, err_from_is_err_and, le-leb, length, lt-leb, sym}
use Rattle.dwarf.proofs.Loops.{units-go_on, units-fail, units-end, units-out}
use Rattle.dwarf.proofs.unit_list.units.Goals as goal

pub returns-then-at-section : goal.returns-then-at-section
returns-then-at-section c =
    let section = c.args.section.now in
    units-end section c.loop.found.items (length section) c.loop.counter c.loop.at _ c.loop-test.true (le-leb _ _ (omega arith)) c.loop.invariant

pub returns-in_err-unit : goal.returns-in_err-unit
returns-in_err-unit c =
    let section = c.args.section.now in
    let p = err_from_is_err_and c.from_residual.result c.from_residual.ensures.1 in
    rw (p.1, p.2) (units-fail section c.loop.found.items (length section) c.loop.counter c.loop.at c.in_err-unit.field-0.0 _
    c.loop-test.true (lt-leb _ _ (omega arith)) (sym c.in_err-unit.ensures.value) c.loop.invariant)

pub loop-preserved : goal.loop-preserved
loop-preserved c =
    let section = c.args.section.now in
    rw c.in_ok-push.ensures.items (units-go_on section c.loop.found.items (length section) c.loop.counter c.loop.at c.in_ok-unit.unit _
    c.loop-test.true (lt-leb _ _ (omega arith)) (sym c.in_ok-unit.ensures.value) c.loop.invariant)

pub returns : goal.returns
returns c =
    let section = c.args.section.now in
    units-out section c.loop.found.items (length section) c.loop.counter c.loop.at _ c.loop-test.false c.loop.invariant
