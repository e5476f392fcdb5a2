use Rattle.kernel_calls.proofs.laws.calls_are_rows.Goals as goal
use Rattle.kernel_calls.proofs.Found as law

pub returns-clause-same_numbers : goal.returns-clause-same_numbers
returns-clause-same_numbers c = law.same_numbers

pub returns-clause-rows_of_calls : goal.returns-clause-rows_of_calls
returns-clause-rows_of_calls c = law.rows_of_calls

pub returns-clause-calls_of_rows : goal.returns-clause-calls_of_rows
returns-clause-calls_of_rows c = law.calls_of_rows

pub returns-clause-done_by_row : goal.returns-clause-done_by_row
returns-clause-done_by_row c = law.done_by_row

pub returns-clause-others_refused : goal.returns-clause-others_refused
returns-clause-others_refused c = law.others_refused
