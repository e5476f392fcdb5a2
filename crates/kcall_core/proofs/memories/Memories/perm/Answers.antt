use Rattle.kcall_core.proofs.Prelude.{◌∙◌, ap, rights_of, sym}
use Rattle.kcall_core.proofs.memory.Changes.{image-seen}
use Rattle.kcall_core.proofs.memories.Memories.perm.Goals as goal

pub perm-requires : goal.perm-requires
perm-requires c =
    let s = c.memory.ensures in
    (c.requires.sound.memories c.args.slot c.memory.result.now s.is).space

pub returns : goal.returns
returns c =
    let s = c.memory.ensures in
    c.perm.ensures ∙ sym (ap (λ i. rights_of i c.args.vpn) (image-seen s))
