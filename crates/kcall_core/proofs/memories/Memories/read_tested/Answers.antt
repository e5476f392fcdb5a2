use Rattle.kcall_core.proofs.Prelude.{◌∙◌, ap, Image, image_bytes, length, sym}
use Rattle.kcall_core.proofs.memory.Changes.{image-seen}
use Rattle.kcall_core.proofs.memory.Written.{whole-of, readable-inside}
use Rattle.kcall_core.proofs.memories.Memories.read_tested.Goals as goal

pub read_across-requires-clause-whole : goal.read_across-requires-clause-whole
read_across-requires-clause-whole c = whole-of c.memory.ensures

pub read_across-requires-clause-inside : goal.read_across-requires-clause-inside
read_across-requires-clause-inside c =
    readable-inside c.memory.ensures c.args.address (length c.args.out.now) c.requires.readable

pub returns : goal.returns
returns c =
    let s = c.memory.ensures in
    c.read_across.ensures ∙ ap (λ (i : Image). image_bytes i c.args.address (length c.args.out.now)) (sym (image-seen s))
