use Rattle.std.proofs.Common.{◌≤◌, [], ◌∷◌, arith}
use Rattle.hart_core.proofs.Saved.{saved-is}
use Rattle.hart_core.proofs.saving.write_registers.Goals as goal

pub returns-clause-saved : goal.returns-clause-saved
returns-clause-saved c =
    let all : 32 ≤ c.loop-i.i = omega arith in
    saved-is (c.loop-i.bytes ∷ []) 0 c.args.regs.now c.loop-i.i c.loop-i.invariant.1.holds all c.pc.ensures.long
