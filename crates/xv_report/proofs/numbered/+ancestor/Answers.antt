use Rattle.std.proofs.Common.{◌∙◌, None, Some, map, sym, refl, arith}
use Rattle.dwarf.specs.AllFrames.{frames_seen}
use Rattle.xv_report.proofs.Numbers.{itself, none-ancestor, from-caller}
use Rattle.xv_report.proofs.numbered.+ancestor.Goals as goal

pub returns-then-number-eq0 : goal.returns-then-number-eq0
returns-then-number-eq0 t c =
    itself (map frames_seen c.args.tables.now) c.args.machine.now.world.state c.args.pid c.args.function.now c.args.number c.if-number-eq0.true

pub returns-in_default : goal.returns-in_default
returns-in_default t c =
    none-ancestor (map frames_seen c.args.tables.now) c.args.machine.now.world.state c.args.pid c.args.function.now c.args.number
    None (omega (arith, c.if-number-eq0.false)) (sym c.in_default.is ∙ c.rules_at.ensures) refl

pub returns-in_default-caller_by : goal.returns-in_default-caller_by
returns-in_default-caller_by t c =
    none-ancestor (map frames_seen c.args.tables.now) c.args.machine.now.world.state c.args.pid c.args.function.now c.args.number
    (Some c.in-Some.rules) (omega (arith, c.if-number-eq0.false)) (sym c.in-Some.is ∙ c.rules_at.ensures) (sym c.caller_by.ensures ∙ c.in_default-caller_by.is)

pub returns : goal.returns
returns t c =
    from-caller (map frames_seen c.args.tables.now) c.args.machine.now.world.state c.args.pid c.args.function.now c.args.number
    (Some c.in-Some.rules) c.in-Some-caller_by.caller c.ancestor.result (omega (arith, c.if-number-eq0.false)) (sym c.in-Some.is ∙ c.rules_at.ensures)
    (sym c.caller_by.ensures ∙ c.in-Some-caller_by.is) c.ancestor.ensures
