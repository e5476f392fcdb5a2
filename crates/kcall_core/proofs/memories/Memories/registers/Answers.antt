use Rattle.kcall_core.proofs.Prelude.{◌∙◌, ap, Held, sym}
use Rattle.kcall_core.proofs.memory.Changes.{held-seen, trapframe-inside}
use Rattle.kcall_core.proofs.memory.Registers.{aligned-saved}
use Rattle.kcall_core.proofs.memories.Memories.registers.Goals as goal

pub saved_registers-requires-clause-frame_in : goal.saved_registers-requires-clause-frame_in
saved_registers-requires-clause-frame_in c = trapframe-inside c.memory.ensures

pub saved_registers-requires-clause-aligned : goal.saved_registers-requires-clause-aligned
saved_registers-requires-clause-aligned c =
    let s = c.memory.ensures in
    aligned-saved c.args.self.now.ram c.memory.result.now.trapframe (c.requires.sound.memories c.args.slot c.memory.result.now s.is).aligned

pub returns : goal.returns
returns c =
    let s = c.memory.ensures in
    c.saved_registers.ensures ∙ ap (λ (h : Held). h.saved) (sym (held-seen s))
