use Rattle.std.proofs.Common.{◌∙◌, sym}
use Rattle.xv_debug.proofs.Displayed.{seen-live}
use Rattle.xv_debug.proofs.variables.told_seen.Goals as goal

pub returns : goal.returns
returns c =
    seen-live c.args.source.now c.args.session.now c.args.pid c.args.call c.args.asked _ c.in-Some.regs _ _ c.machine-machine.ensures.machine (sym c.registers.ensures ∙ c.in-Some.is)
    c.address_in.ensures c.in_ok-text.ensures
