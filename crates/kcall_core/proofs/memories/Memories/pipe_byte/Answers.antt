use Rattle.kcall_core.proofs.Prelude.{◌∙◌, ap, byte_of_pipe, Pipe, pipes_of, slice_get, sym}
use Rattle.kcall_core.proofs.memory.PipeEdges.{is-pipe, named-in}
use Rattle.kcall_core.proofs.memory.PipesTold.{named-some, pipe-below}
use Rattle.kcall_core.proofs.memories.Memories.pipe_byte.Goals as goal

pub byte-requires : goal.byte-requires
byte-requires c = (let there = sym c.keeps_pipe.ensures ∙ c.if-not-keeps_pipe.false in is-pipe c.args.self.now (pipe-below c.args.self.now c.args.frame there) c.requires there)

pub returns : goal.returns
returns c =
    let there = sym c.keeps_pipe.ensures ∙ c.if-not-keeps_pipe.false in
    c.byte.ensures ∙ ap (λ (p : Pipe). slice_get p.bytes c.args.place) (named-in c.args.self.now (pipe-below c.args.self.now c.args.frame there) c.requires there)
    ∙ sym (ap (byte_of_pipe c.args.place) (named-some (pipes_of c.args.self.now) c.args.frame there))
