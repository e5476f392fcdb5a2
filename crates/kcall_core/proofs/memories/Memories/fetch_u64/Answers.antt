use Rattle.kcall_core.proofs.Prelude.{◌∙◌, ap, arith, Image, image_of, low-pages, low-read, pointer-none, pointer-there, pointer_at, whole, whole-low}
use Rattle.kcall_core.proofs.memory.Changes.{image-seen}
use Rattle.kcall_core.proofs.memory.Written.{ok-map, ok-both, err-map, whole-of, size-of}
use Rattle.kcall_core.proofs.memories.Memories.fetch_u64.Goals as goal

pub fetch_u64_lazily-requires : goal.fetch_u64_lazily-requires
fetch_u64_lazily-requires c = whole-of c.memory.ensures

pub returns-clause-number : goal.returns-clause-number
returns-clause-number c =
    let s = c.memory.ensures in
    ok-both c.fetch_u64_lazily.result c.fetch_u64_lazily.ensures.fine c.fetch_u64_lazily.ensures.number
    (λ n fine is. ap (λ (i : Image). pointer_at i c.args.address) (image-seen s)
    ∙ pointer-there (image_of c.args.self.now.ram c.memory.result.now.space) (low-pages c.args.self.now.ram c.memory.result.now.space)
    (size-of s) c.args.address n fine is)

pub returns-clause-refused : goal.returns-clause-refused
returns-clause-refused c =
    let s = c.memory.ensures in
    err-map c.fetch_u64_lazily.result c.fetch_u64_lazily.ensures.refused
    (λ e bad. ap (λ (i : Image). pointer_at i c.args.address) (image-seen s) ∙ pointer-none (image_of c.args.self.now.ram c.memory.result.now.space)
    (low-pages c.args.self.now.ram c.memory.result.now.space) (size-of s) c.args.address bad)

pub returns-clause-low : goal.returns-clause-low
returns-clause-low c =
    ok-map c.fetch_u64_lazily.result c.fetch_u64_lazily.ensures.fine
    (λ n fine. low-read (whole (image_of c.args.self.now.ram c.memory.result.now.space)) c.args.address 8
    (whole-low (image_of c.args.self.now.ram c.memory.result.now.space) (low-pages c.args.self.now.ram c.memory.result.now.space)) (omega arith) fine)
