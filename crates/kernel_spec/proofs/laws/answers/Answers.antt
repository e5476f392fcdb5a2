use Rattle.kernel_spec.proofs.laws.answers.Goals as goal
use Rattle.kernel_spec.proofs.rows.AnswersTell as law
use Rattle.kernel_spec.proofs.runs.Cuts as in-cuts
use Rattle.kernel_spec.proofs.rows.Late as in-late

pub returns-clause-refusals_change_nothing : goal.returns-clause-refusals_change_nothing
returns-clause-refusals_change_nothing c = law.refusals_change_nothing

pub returns-clause-in_call_where_blocked : goal.returns-clause-in_call_where_blocked
returns-clause-in_call_where_blocked c = law.in_call_where_blocked

pub returns-clause-blocked_is_in_call : goal.returns-clause-blocked_is_in_call
returns-clause-blocked_is_in_call c = law.blocked_is_in_call

pub returns-clause-only_waiters_are_in_calls : goal.returns-clause-only_waiters_are_in_calls
returns-clause-only_waiters_are_in_calls c = in-cuts.only_waiters_are_in_calls

pub returns-clause-only_broken_writes_fail_late : goal.returns-clause-only_broken_writes_fail_late
returns-clause-only_broken_writes_fail_late c = in-late.only_broken_writes_fail_late
