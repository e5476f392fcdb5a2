use Rattle.kcall_core.proofs.Prelude.{IfNone, IfSome_then, None, Option, Some}
use Rattle.kcall_core.proofs.kernel.pipe.pipe_end_of.Goals as goal

-- what follows where there is no value
none-then : {T : Type 0} (o : Option T) {P Q : Type 0} → IfNone o P → (P → Q) → IfNone o Q
none-then None is follows = follows is
none-then (Some x) is follows = is

pub returns-clause-found : goal.returns-clause-found
returns-clause-found c = IfSome_then c.pipe_end.result c.pipe_end.ensures.found (λ e at. (c.kind-kind.result, c.kind-kind.ensures, at))

pub returns-clause-none : goal.returns-clause-none
returns-clause-none c = none-then c.pipe_end.result c.pipe_end.ensures.none (λ at. (c.kind-kind.result, c.kind-kind.ensures, at))
