use Rattle.kcall_core.proofs.Prelude.{◌∙◌, ap, arith, each_of, free_of, held_at, Image, length, pipe_named, pipes_of, reached-mapped, refl, Store, sym, take, writable_now, write_image}
use Rattle.kcall_core.proofs.memory.Changes.{there-held, stood, image-seen, belongs-of, space-changes}
use Rattle.kcall_core.proofs.memory.PipeEdges.{is-pipe}
use Rattle.kcall_core.proofs.memory.PipeMoves.{pipe-no-page, bytes-named}
use Rattle.kcall_core.proofs.memory.Written.{whole-of, each-stays, free-stays, written-runs}
use Rattle.kcall_core.proofs.memory.PipesTold.{pipe-below}
use Rattle.kcall_core.proofs.memories.Memories.copy_oldest.Goals as goal

pub memory_in-memory-requires : goal.memory_in-memory-requires
memory_in-memory-requires c = there-held _ _ c.requires.there

pub copy_from_pipe-requires-clause-whole : goal.copy_from_pipe-requires-clause-whole
copy_from_pipe-requires-clause-whole c = whole-of (stood c.requires.sound c.requires.there c.memory_in-memory.ensures)

pub copy_from_pipe-requires-clause-pipe : goal.copy_from_pipe-requires-clause-pipe
copy_from_pipe-requires-clause-pipe c = is-pipe c.args.self.now (pipe-below c.args.self.now c.args.frame c.requires.pipe) c.requires.sound c.requires.pipe

pub copy_from_pipe-requires-clause-apart : goal.copy_from_pipe-requires-clause-apart
copy_from_pipe-requires-clause-apart c =
    pipe-no-page c.args.self.now (pipe-below c.args.self.now c.args.frame c.requires.pipe) c.requires.sound c.requires.pipe (stood c.requires.sound c.requires.there c.memory_in-memory.ensures)

pub copy_from_pipe-requires-clause-there : goal.copy_from_pipe-requires-clause-there
copy_from_pipe-requires-clause-there c =
    let s = stood c.requires.sound c.requires.there c.memory_in-memory.ensures in
    reached-mapped Store _ c.args.address c.args.count (ap (λ (i : Image). writable_now i c.args.address c.args.count) (sym (image-seen s)) ∙ c.requires.writable)

pub copy_from_pipe-requires-clause-bytes : goal.copy_from_pipe-requires-clause-bytes
copy_from_pipe-requires-clause-bytes c =
    omega (
      arith,
      c.requires.bytes,
      ap length (bytes-named c.args.self.now (pipe-below c.args.self.now c.args.frame c.requires.pipe) c.requires.sound c.requires.pipe),
    )

pub returns-clause-written : goal.returns-clause-written
returns-clause-written c =
    let s = stood c.requires.sound c.requires.there c.memory_in-memory.ensures in
    let image = (held_at (each_of c.args.self.now) c.args.slot).image in
    let bytes = take c.args.count (pipe_named (pipes_of c.args.self.now) c.args.frame).bytes in
    let same = bytes-named c.args.self.now (pipe-below c.args.self.now c.args.frame c.requires.pipe) c.requires.sound c.requires.pipe in
    space-changes _ c.memory_in-memory.result.now.space (write_image image c.args.address bytes) s (c.copy_from_pipe.ensures.changed c.args.self.now.pool (belongs-of s))
    (c.copy_from_pipe.ensures.image ∙ (λ k. write_image (sym (image-seen s) k) c.args.address (take c.args.count (same k))))
    (each-stays s) refl

pub returns-clause-free : goal.returns-clause-free
unfolding free_of
returns-clause-free c =
    let s = stood c.requires.sound c.requires.there c.memory_in-memory.ensures in
    free-stays c.copy_from_pipe.new.ram s c.copy_from_pipe.ensures.in_place (c.copy_from_pipe.ensures.changed c.args.self.now.pool (belongs-of s))

pub returns-clause-runs : goal.returns-clause-runs
returns-clause-runs c =
    let s = stood c.requires.sound c.requires.there c.memory_in-memory.ensures in
    written-runs _ s c.copy_from_pipe.ensures.in_place refl
