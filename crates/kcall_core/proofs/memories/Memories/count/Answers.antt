use Rattle.kcall_core.proofs.Prelude.{◌∙◌, ap, length, Pipe}
use Rattle.kcall_core.proofs.memory.PipeEdges.{is-pipe, named-in}
use Rattle.kcall_core.proofs.memory.PipesTold.{pipe-below}
use Rattle.kcall_core.proofs.memories.Memories.count.Goals as goal

pub len-requires : goal.len-requires
len-requires c = is-pipe c.args.self.now (pipe-below c.args.self.now c.args.frame c.requires.pipe) c.requires.sound c.requires.pipe

pub returns-clause-value : goal.returns-clause-value
returns-clause-value c = c.len.ensures.value ∙ ap (λ (p : Pipe). length p.bytes) (named-in c.args.self.now (pipe-below c.args.self.now c.args.frame c.requires.pipe) c.requires.sound c.requires.pipe)
