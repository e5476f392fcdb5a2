use Rattle.kcall_core.proofs.Prelude.{◌∙◌, ap, Pipe}
use Rattle.kcall_core.proofs.memory.PipeEdges.{is-pipe, named-in}
use Rattle.kcall_core.proofs.memory.PipesTold.{pipe-below}
use Rattle.kcall_core.proofs.memories.Memories.readers.Goals as goal

pub readers-requires : goal.readers-requires
readers-requires c = is-pipe c.args.self.now (pipe-below c.args.self.now c.args.frame c.requires.there) c.requires.sound c.requires.there

pub returns : goal.returns
returns c = c.readers.ensures.value ∙ ap (λ (p : Pipe). p.readers) (named-in c.args.self.now (pipe-below c.args.self.now c.args.frame c.requires.there) c.requires.sound c.requires.there)
