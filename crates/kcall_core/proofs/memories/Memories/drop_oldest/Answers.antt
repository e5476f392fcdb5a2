use Rattle.kcall_core.proofs.Prelude.{ap, arith, length, refl, without_first}
use Rattle.kcall_core.proofs.memory.PipeEdges.{is-pipe}
use Rattle.kcall_core.proofs.memory.PipeFrames.{pipe-keeps, pipe-becomes}
use Rattle.kcall_core.proofs.memory.PipeMoves.{bytes-named}
use Rattle.kcall_core.proofs.memory.PipesTold.{pipe-below}
use Rattle.kcall_core.proofs.memories.Memories.drop_oldest.Goals as goal

pub drop_first-requires-clause-pipe : goal.drop_first-requires-clause-pipe
drop_first-requires-clause-pipe c = is-pipe c.args.self.now (pipe-below c.args.self.now c.args.frame c.requires.pipe) c.requires.sound c.requires.pipe

pub drop_first-requires-clause-there : goal.drop_first-requires-clause-there
drop_first-requires-clause-there c = omega (arith, c.requires.bytes, ap length (bytes-named c.args.self.now (pipe-below c.args.self.now c.args.frame c.requires.pipe) c.requires.sound c.requires.pipe))

pub returns : goal.returns
returns c =
    pipe-becomes _ (without_first c.args.count) (pipe-below c.args.self.now c.args.frame c.requires.pipe) c.requires.sound
    (pipe-keeps c.args.self.now c.args.frame (pipe-below c.args.self.now c.args.frame c.requires.pipe) c.requires.pipe)
    c.drop_first.ensures refl refl refl
