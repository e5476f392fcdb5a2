use Rattle.kcall_core.proofs.Prelude.{ap, arith, length, refl}
use Rattle.kcall_core.proofs.memory.Changes.{there-held, stood}
use Rattle.kcall_core.proofs.memory.PipeEdges.{is-pipe}
use Rattle.kcall_core.proofs.memory.PipeMoves.{pipe-no-page, bytes-named, pages-pushed}
use Rattle.kcall_core.proofs.memory.Written.{whole-of, readable-inside}
use Rattle.kcall_core.proofs.memory.PipesTold.{pipe-below}
use Rattle.kcall_core.proofs.memories.Memories.push_tested.Goals as goal

pub memory_in-memory-requires : goal.memory_in-memory-requires
memory_in-memory-requires c = there-held _ _ c.requires.there

pub push_to_pipe-requires-clause-whole : goal.push_to_pipe-requires-clause-whole
push_to_pipe-requires-clause-whole c = whole-of (stood c.requires.sound c.requires.there c.memory_in-memory.ensures)

pub push_to_pipe-requires-clause-pipe : goal.push_to_pipe-requires-clause-pipe
push_to_pipe-requires-clause-pipe c = is-pipe c.args.self.now (pipe-below c.args.self.now c.args.frame c.requires.pipe) c.requires.sound c.requires.pipe

pub push_to_pipe-requires-clause-apart : goal.push_to_pipe-requires-clause-apart
push_to_pipe-requires-clause-apart c =
    pipe-no-page c.args.self.now (pipe-below c.args.self.now c.args.frame c.requires.pipe) c.requires.sound c.requires.pipe (stood c.requires.sound c.requires.there c.memory_in-memory.ensures)

pub push_to_pipe-requires-clause-inside : goal.push_to_pipe-requires-clause-inside
push_to_pipe-requires-clause-inside c =
    readable-inside (stood c.requires.sound c.requires.there c.memory_in-memory.ensures) c.args.address c.args.count c.requires.readable

pub push_to_pipe-requires-clause-room : goal.push_to_pipe-requires-clause-room
push_to_pipe-requires-clause-room c = omega (arith, c.requires.room, ap length (bytes-named c.args.self.now (pipe-below c.args.self.now c.args.frame c.requires.pipe) c.requires.sound c.requires.pipe))

pub returns : goal.returns
returns c =
    let s = stood c.requires.sound c.requires.there c.memory_in-memory.ensures in
    pages-pushed c.args.self.now (pipe-below c.args.self.now c.args.frame c.requires.pipe) c.requires.sound c.requires.pipe s _ c.args.address c.args.count c.push_to_pipe.ensures refl refl refl
