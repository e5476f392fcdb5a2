use Rattle.kcall_core.proofs.Prelude.{◌∙◌, ap, free_of, Image, length, reached-mapped, refl, Store, sym, writable_now, write_image}
use Rattle.kcall_core.proofs.memory.Changes.{there-held, stood, image-seen, belongs-of, space-changes}
use Rattle.kcall_core.proofs.memory.Written.{whole-of, each-stays, free-stays, written-runs}
use Rattle.kcall_core.proofs.memories.Memories.write_tested.Goals as goal

pub memory_in-memory-requires : goal.memory_in-memory-requires
memory_in-memory-requires c = there-held _ _ c.requires.there

pub write_across-requires-clause-whole : goal.write_across-requires-clause-whole
write_across-requires-clause-whole c = whole-of (stood c.requires.sound c.requires.there c.memory_in-memory.ensures)

pub write_across-requires-clause-there : goal.write_across-requires-clause-there
write_across-requires-clause-there c =
    let s = stood c.requires.sound c.requires.there c.memory_in-memory.ensures in
    reached-mapped Store _ c.args.address (length c.args.bytes.now) (ap (λ (i : Image). writable_now i c.args.address (length c.args.bytes.now)) (sym (image-seen s)) ∙ c.requires.writable)

pub returns-clause-written : goal.returns-clause-written
returns-clause-written c =
    let s = stood c.requires.sound c.requires.there c.memory_in-memory.ensures in
    space-changes _ c.memory_in-memory.result.now.space _ s (c.write_across.ensures.changed c.args.self.now.pool (belongs-of s))
    (c.write_across.ensures.image ∙ ap (λ (i : Image). write_image i c.args.address c.args.bytes.now) (sym (image-seen s)))
    (each-stays s) refl

pub returns-clause-free : goal.returns-clause-free
unfolding free_of
returns-clause-free c =
    let s = stood c.requires.sound c.requires.there c.memory_in-memory.ensures in
    free-stays c.write_across.new.ram s c.write_across.ensures.in_place (c.write_across.ensures.changed c.args.self.now.pool (belongs-of s))

pub returns-clause-runs : goal.returns-clause-runs
returns-clause-runs c =
    let s = stood c.requires.sound c.requires.there c.memory_in-memory.ensures in
    written-runs _ s c.write_across.ensures.in_place refl
