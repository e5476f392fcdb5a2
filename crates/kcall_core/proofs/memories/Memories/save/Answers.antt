use Rattle.kcall_core.proofs.Prelude.{ℕ, ◌∙◌, ap, copies, IsTree, owned, refl, subst, sym}
use Rattle.kcall_core.proofs.memory.Changes.{there-held, stood, trapframe-apart, trapframe-inside}
use Rattle.kcall_core.proofs.memory.Registers.{saved-changes, saved-runs}
use Rattle.kcall_core.proofs.memories.Memories.save.Goals as goal

pub memory_in-memory-requires : goal.memory_in-memory-requires
memory_in-memory-requires c = there-held _ _ c.requires.there

pub save-requires-clause-frame_in : goal.save-requires-clause-frame_in
save-requires-clause-frame_in c = trapframe-inside (stood c.requires.sound c.requires.there c.memory_in-memory.ensures)

pub save-requires-clause-tree : goal.save-requires-clause-tree
save-requires-clause-tree c =
    let s = stood c.requires.sound c.requires.there c.memory_in-memory.ensures in
    subst (λ (x : ℕ). IsTree c.args.self.now.ram x) (sym c.root-root.ensures) (s.sound.memories c.args.slot c.memory_in-memory.result.now s.is).space.tree

pub save-requires-clause-apart : goal.save-requires-clause-apart
save-requires-clause-apart c =
    let s = stood c.requires.sound c.requires.there c.memory_in-memory.ensures in
    ap (λ (x : ℕ). copies c.memory_in-memory.result.now.trapframe (owned c.args.self.now.ram x)) c.root-root.ensures ∙ (trapframe-apart s).1

pub returns-clause-saved : goal.returns-clause-saved
returns-clause-saved c =
    saved-changes _ (stood c.requires.sound c.requires.there c.memory_in-memory.ensures) c.save.ensures.stay refl refl c.args.regs.now
    c.save.ensures.saved c.save.ensures.aligned refl

pub returns-clause-runs : goal.returns-clause-runs
returns-clause-runs c other r =
    saved-runs _ (stood c.requires.sound c.requires.there c.memory_in-memory.ensures) c.save.ensures.stay refl refl other r
