use Rattle.std.proofs.Common.{◌∙◌, None, Some, map, sym, refl, arith}
use Rattle.dwarf.specs.AllFrames.{frames_seen}
use Rattle.xv_report.proofs.Unwound.{none-wanted, none-called, one-called}
use Rattle.xv_report.proofs.unwinding.+unwind.Goals as goal

pub returns-then-most-eq0 : goal.returns-then-most-eq0
returns-then-most-eq0 t c =
    none-wanted (map frames_seen c.args.tables.now) c.args.machine.now.world.state c.args.pid c.args.function.now c.args.found.now.items c.args.most c.if-most-eq0.true

pub returns-in_default : goal.returns-in_default
returns-in_default t c =
    none-called (map frames_seen c.args.tables.now) c.args.machine.now.world.state c.args.pid c.args.function.now c.args.found.now.items c.args.most
    None (sym c.in_default.is ∙ c.rules_at.ensures) refl

pub returns-in_default-caller_by : goal.returns-in_default-caller_by
returns-in_default-caller_by t c =
    none-called (map frames_seen c.args.tables.now) c.args.machine.now.world.state c.args.pid c.args.function.now c.args.found.now.items c.args.most
    (Some c.in-Some.rules) (sym c.in-Some.is ∙ c.rules_at.ensures) (sym c.caller_by.ensures ∙ c.in_default-caller_by.is)

pub returns : goal.returns
returns t c =
    one-called (map frames_seen c.args.tables.now) c.args.machine.now.world.state c.args.pid c.args.function.now c.args.found.now.items c.push.new.self.items c.unwind.new.found.items c.args.most
    (Some c.in-Some.rules) c.in-Some-caller_by.caller (omega (arith, c.if-most-eq0.false)) (sym c.in-Some.is ∙ c.rules_at.ensures) (sym c.caller_by.ensures ∙ c.in-Some-caller_by.is)
    c.push.ensures.items c.unwind.ensures
