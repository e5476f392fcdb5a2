use Rattle.kernel_calls.proofs.laws.arguments_passed.Goals as goal
use Rattle.kernel_calls.proofs.Found as law

pub returns : goal.returns
returns c = record { at_most_three = law.at_most_three }
