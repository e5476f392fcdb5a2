use Rattle.std.proofs.Common.{rules}
use Rattle.pipe_core.specs.Pipe.{pipe_in}
use Rattle.pipe_core.proofs.writers.Goals as goal

pub returns-clause-value : goal.returns-clause-value
unfolding pipe_in
returns-clause-value c = search rules
