use Rattle.kcall_core.proofs.Prelude.{ap, arith, false, refl, set}
use Rattle.kcall_core.proofs.memory.PipeFrames.{pipe-keeps, pipe-inside, pipe-taken, pipe-dropped}
use Rattle.kcall_core.proofs.memories.Memories.drop_pipe.Goals as goal

pub index_mut-requires : goal.index_mut-requires
index_mut-requires c =
    let keeps = pipe-keeps c.args.self.now c.args.frame c.index.ensures.range c.requires.there in
    omega (arith, pipe-inside c.args.self.now c.args.frame c.requires.sound keeps, c.requires.sound.places, c.args.self.now.pipes.ok.0, c.index.ensures.value)

pub give-requires-clause-inside : goal.give-requires-clause-inside
give-requires-clause-inside c = pipe-inside c.args.self.now c.args.frame c.requires.sound (pipe-keeps c.args.self.now c.args.frame c.index.ensures.range c.requires.there)

pub give-requires-clause-not_free : goal.give-requires-clause-not_free
give-requires-clause-not_free c = pipe-taken c.args.self.now c.args.frame c.requires.sound (pipe-keeps c.args.self.now c.args.frame c.index.ensures.range c.requires.there)

pub returns : goal.returns
returns c =
    pipe-dropped _ c.requires.sound (pipe-keeps c.args.self.now c.args.frame c.index.ensures.range c.requires.there) c.give.ensures refl
    (ap (λ n. set c.args.self.now.pipes.items n false) c.index.ensures.value)
