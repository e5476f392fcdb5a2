use Rattle.kcall_core.proofs.Prelude.{◌∙◌, ap, drop, front-bytes, Image, image_of, length, low-pages, Some, sym, take, text-found, text-none, text_at, whole}
use Rattle.kcall_core.proofs.memory.Changes.{image-seen}
use Rattle.kcall_core.proofs.memory.Written.{ok-both, err-map, whole-of, size-of}
use Rattle.kcall_core.proofs.memories.Memories.fetch_text.Goals as goal

pub fetch_text_lazily-requires : goal.fetch_text_lazily-requires
fetch_text_lazily-requires c = whole-of c.memory.ensures

pub returns-clause-found : goal.returns-clause-found
returns-clause-found c =
    let s = c.memory.ensures in
    ok-both c.fetch_text_lazily.result c.fetch_text_lazily.ensures.found c.fetch_text_lazily.ensures.copied (λ n found is.
    ap (λ (i : Image). text_at (length c.args.text.now) i c.args.address) (image-seen s)
    ∙ text-found (image_of c.args.self.now.ram c.memory.result.now.space) (low-pages c.args.self.now.ram c.memory.result.now.space) (size-of s) c.args.address (length c.args.text.now) n found
    ∙ ap Some (sym (ap (take n) is ∙ front-bytes (whole (image_of c.args.self.now.ram c.memory.result.now.space)) c.args.address n (drop n c.args.text.now))))

pub returns-clause-refused : goal.returns-clause-refused
returns-clause-refused c =
    let s = c.memory.ensures in
    err-map c.fetch_text_lazily.result c.fetch_text_lazily.ensures.refused
    (λ e r. (
      ap (λ (i : Image). text_at (length c.args.text.now) i c.args.address) (image-seen s)
          ∙ text-none (image_of c.args.self.now.ram c.memory.result.now.space) (low-pages c.args.self.now.ram c.memory.result.now.space)
          (size-of s) c.args.address (length c.args.text.now) r.0,
      r.1,
    ))
