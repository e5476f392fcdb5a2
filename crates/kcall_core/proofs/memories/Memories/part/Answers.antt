use Rattle.kcall_core.proofs.Prelude.{arith, refl}
use Rattle.kcall_core.proofs.memory.PipeEdges.{is-pipe, counted-in, parts}
use Rattle.kcall_core.proofs.memory.PipesTold.{pipe-below}
use Rattle.kcall_core.proofs.memories.Memories.part.Goals as goal

pub drop_reader-requires-clause-pipe : goal.drop_reader-requires-clause-pipe
drop_reader-requires-clause-pipe c = is-pipe c.args.self.now (pipe-below c.args.self.now c.args.frame c.requires.there) c.requires.sound c.requires.there

pub drop_reader-requires-clause-some : goal.drop_reader-requires-clause-some
drop_reader-requires-clause-some c =
    omega (
      arith,
      c.requires.some,
      counted-in c.args.self.now (pipe-below c.args.self.now c.args.frame c.requires.there) c.requires.sound
          c.requires.there _ _ c.in-Reading.is,
    )

pub drop_writer-requires-clause-pipe : goal.drop_writer-requires-clause-pipe
drop_writer-requires-clause-pipe c = is-pipe c.args.self.now (pipe-below c.args.self.now c.args.frame c.requires.there) c.requires.sound c.requires.there

pub drop_writer-requires-clause-some : goal.drop_writer-requires-clause-some
drop_writer-requires-clause-some c =
    omega (
      arith,
      c.requires.some,
      counted-in c.args.self.now (pipe-below c.args.self.now c.args.frame c.requires.there) c.requires.sound
          c.requires.there _ _ c.in-Writing.is,
    )

pub returns-in-Reading : goal.returns-in-Reading
returns-in-Reading c = parts c.args.self.now (pipe-below c.args.self.now c.args.frame c.requires.there) c.requires.sound c.requires.there _ _ _ c.in-Reading.is c.drop_reader.ensures refl refl refl

pub returns-in-Writing : goal.returns-in-Writing
returns-in-Writing c = parts c.args.self.now (pipe-below c.args.self.now c.args.frame c.requires.there) c.requires.sound c.requires.there _ _ _ c.in-Writing.is c.drop_writer.ensures refl refl refl
