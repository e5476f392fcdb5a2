use Rattle.dwarf.proofs.Prelude.{◌≡◌, arith, err_from_is_err_and, le-leb, leb, length, lt-leb, refl, sym}
use Rattle.dwarf.proofs.Items.{items-go_on, items-fail, items-end, items-out}
use Rattle.dwarf.specs.FrameUnits.{frame_unit, unit_end}
use Rattle.dwarf.proofs.frame_entries.frame_units.Goals as goal

pub returns-then-at-section : goal.returns-then-at-section
returns-then-at-section c =
    let section = c.args.section.now in
    rw (items-end (leb (length section)) (frame_unit section) unit_end c.loop.found.items (length section) c.loop.counter c.loop.at _
    c.loop-test.true (le-leb _ _ (omega arith)) c.loop.invariant) refl

pub returns-in_err-unit : goal.returns-in_err-unit
returns-in_err-unit c =
    let section = c.args.section.now in
    let p = err_from_is_err_and c.from_residual.result c.from_residual.ensures.1 in
    rw (
      p.1,
      p.2,
      items-fail (leb (length section)) (frame_unit section) unit_end c.loop.found.items (length section) c.loop.counter c.loop.at c.in_err-unit.field-0.0 _
          c.loop-test.true (lt-leb _ _ (omega arith)) (sym c.in_err-unit.ensures.value) c.loop.invariant,
    ) refl

pub loop-preserved : goal.loop-preserved
loop-preserved c =
    let section = c.args.section.now in
    rw c.in_ok-push.ensures.items (items-go_on (leb (length section)) (frame_unit section) unit_end c.loop.found.items (length section) c.loop.counter c.loop.at c.in_ok-unit.unit _
    c.loop-test.true (lt-leb _ _ (omega arith)) (sym c.in_ok-unit.ensures.value) c.loop.invariant)

pub returns : goal.returns
returns c =
    let section = c.args.section.now in
    rw (items-out (leb (length section)) (frame_unit section) unit_end c.loop.found.items (length section) c.loop.counter c.loop.at _ c.loop-test.false c.loop.invariant) refl
