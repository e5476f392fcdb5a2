use Rattle.kcall_core.proofs.Prelude.{◌∙◌, ap, count_on, is_given_up, nat_eq, Pipe, sym}
use Rattle.kcall_core.proofs.memory.PipeEdges.{changed-there, changed-named, stays-there, goes-then}
use Rattle.kcall_core.proofs.memories.Memories.leave.Goals as goal

pub is_closed-last-requires-clause-there : goal.is_closed-last-requires-clause-there
is_closed-last-requires-clause-there c = changed-there c.part.ensures

pub is_given_up-requires-clause-there : goal.is_given_up-requires-clause-there
is_given_up-requires-clause-there c = changed-there c.part.ensures

pub returns-then-not-is_given_up-clause-last : goal.returns-then-not-is_given_up-clause-last
returns-then-not-is_given_up-clause-last c = c.is_closed-last.ensures ∙ ap (λ (p : Pipe). nat_eq (count_on c.args.end p) 0) (changed-named c.part.ensures)

pub returns-then-not-is_given_up-clause-pipe : goal.returns-then-not-is_given_up-clause-pipe
returns-then-not-is_given_up-clause-pipe c = stays-there c.part.ensures (ap (λ (p : Pipe). is_given_up p) (sym (changed-named c.part.ensures)) ∙ sym c.is_given_up.ensures ∙ c.if-not-is_given_up.true)

pub drop_pipe-requires-clause-there : goal.drop_pipe-requires-clause-there
drop_pipe-requires-clause-there c = changed-there c.part.ensures

pub returns-clause-last : goal.returns-clause-last
returns-clause-last c = c.is_closed-last.ensures ∙ ap (λ (p : Pipe). nat_eq (count_on c.args.end p) 0) (changed-named c.part.ensures)

pub returns-clause-pipe : goal.returns-clause-pipe
returns-clause-pipe c = goes-then c.part.ensures _ (ap (λ (p : Pipe). is_given_up p) (sym (changed-named c.part.ensures)) ∙ sym c.is_given_up.ensures ∙ c.if-not-is_given_up.false) c.drop_pipe.ensures
