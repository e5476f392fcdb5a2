use Rattle.kernel_calls.proofs.laws.numbers_and_names.Goals as goal
use Rattle.kernel_calls.proofs.Found as law

pub returns-clause-found_by_number : goal.returns-clause-found_by_number
returns-clause-found_by_number c = law.found_by_number

pub returns-clause-has_number : goal.returns-clause-has_number
returns-clause-has_number c = law.has_number

pub returns-clause-found_by_name : goal.returns-clause-found_by_name
returns-clause-found_by_name c = law.found_by_name

pub returns-clause-has_name : goal.returns-clause-has_name
returns-clause-has_name c = law.has_name
