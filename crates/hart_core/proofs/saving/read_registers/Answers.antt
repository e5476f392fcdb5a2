use Rattle.std.proofs.Common.{◌≤◌, [], ◌∷◌, sym, arith}
use Rattle.hart_core.proofs.Saved.{saved-is}
use Rattle.hart_core.proofs.saving.read_registers.Goals as goal

pub returns : goal.returns
returns c =
    let held = c.loop-i.invariant.1 in
    let all : 32 ≤ c.loop-i.i = omega arith in
    sym (saved-is (c.args.bytes.now ∷ []) 0 c.loop-i.regs c.loop-i.i held.holds all held.long)
