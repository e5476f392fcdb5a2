use Rattle.kcall_core.proofs.Prelude.{arith, refl}
use Rattle.kcall_core.proofs.memory.PipeEdges.{is-pipe, counted-in, joins}
use Rattle.kcall_core.proofs.memory.PipesTold.{pipe-below}
use Rattle.kcall_core.proofs.memories.Memories.join.Goals as goal

pub add_reader-requires-clause-pipe : goal.add_reader-requires-clause-pipe
add_reader-requires-clause-pipe c = is-pipe c.args.self.now (pipe-below c.args.self.now c.args.frame c.requires.there) c.requires.sound c.requires.there

pub add_reader-requires-clause-fits : goal.add_reader-requires-clause-fits
add_reader-requires-clause-fits c =
    omega (
      arith,
      c.requires.room,
      counted-in c.args.self.now (pipe-below c.args.self.now c.args.frame c.requires.there) c.requires.sound
          c.requires.there _ _ c.in-Reading.is,
    )

pub add_writer-requires-clause-pipe : goal.add_writer-requires-clause-pipe
add_writer-requires-clause-pipe c = is-pipe c.args.self.now (pipe-below c.args.self.now c.args.frame c.requires.there) c.requires.sound c.requires.there

pub add_writer-requires-clause-fits : goal.add_writer-requires-clause-fits
add_writer-requires-clause-fits c =
    omega (
      arith,
      c.requires.room,
      counted-in c.args.self.now (pipe-below c.args.self.now c.args.frame c.requires.there) c.requires.sound
          c.requires.there _ _ c.in-Writing.is,
    )

pub returns-in-Reading : goal.returns-in-Reading
returns-in-Reading c = joins c.args.self.now (pipe-below c.args.self.now c.args.frame c.requires.there) c.requires.sound c.requires.there _ _ _ c.in-Reading.is c.add_reader.ensures refl refl refl

pub returns-in-Writing : goal.returns-in-Writing
returns-in-Writing c = joins c.args.self.now (pipe-below c.args.self.now c.args.frame c.requires.there) c.requires.sound c.requires.there _ _ _ c.in-Writing.is c.add_writer.ensures refl refl refl
