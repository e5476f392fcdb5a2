use Rattle.kcall_core.proofs.Prelude.{◌∙◌, ap, arith, Image, sym}
use Rattle.kcall_core.proofs.memory.Changes.{image-seen}
use Rattle.kcall_core.proofs.memories.Memories.size.Goals as goal

pub returns-clause-value : goal.returns-clause-value
returns-clause-value c =
    let s = c.memory.ensures in
    c.size.ensures ∙ ap (λ (i : Image). i.size) (sym (image-seen s))

pub returns-clause-range : goal.returns-clause-range
returns-clause-range c =
    let s = c.memory.ensures in
    omega (arith, c.size.ensures, (c.requires.sound.memories c.args.slot c.memory.result.now s.is).space.size)
