use Rattle.kcall_core.proofs.Prelude.{[], ap, free_of, length, new_pipe, refl, set, true}
use Rattle.kcall_core.proofs.memory.Changes.{same-if}
use Rattle.kcall_core.proofs.memory.Births.{untraded}
use Rattle.kcall_core.proofs.memory.PipeFrames.{pipe-absent, pipe-made}
use Rattle.kcall_core.proofs.memories.Memories.make_pipe.Goals as goal

pub returns-in_err-frame-clause-refused : goal.returns-in_err-frame-clause-refused
unfolding free_of
returns-in_err-frame-clause-refused c =
    let none = c.in_err-frame.ensures.none in
    rw c.from_residual.ensures (ap length none.0, same-if c.args.self.now _ c.requires (untraded _ _ _ _ [] c.requires.good none.1.same_pool none.1.same_ram) refl refl)

pub returns-clause-new : goal.returns-clause-new
returns-clause-new c = pipe-absent c.args.self.now c.in_ok-frame.frame c.requires c.in_ok-frame.ensures.taken

pub returns-clause-made : goal.returns-clause-made
returns-clause-made c =
    pipe-made _ new_pipe c.requires c.in_ok-frame.ensures.taken refl c.make.ensures refl (ap (λ n. set c.args.self.now.pipes.items n true) c.index.ensures.value)
