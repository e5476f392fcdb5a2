use Rattle.dwarf.proofs.Prelude.{◌∙◌, arith, sym}
use Rattle.dwarf.proofs.Leb.{groups-large}
use Rattle.dwarf.proofs.bytes.groups.Goals as goal

pub returns-then-number-low : goal.returns-then-number-low
returns-then-number-low c =
    sym (groups-large c.args.is_negative c.args.written.now c.groups.left c.groups.number c.from-low.result c.groups-test.true
    c.groups.invariant.0 c.groups.invariant.1 (c.from-low.ensures ∙ c.group.ensures.value) c.if-number-low.true
    (omega (arith, c.group.ensures.small, c.from-low.ensures)))
