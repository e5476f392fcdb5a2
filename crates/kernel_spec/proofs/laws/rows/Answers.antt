use Rattle.kernel_spec.proofs.laws.rows.Goals as goal
use Rattle.kernel_spec.proofs.steps.AloneLawsHold as in-alone
use Rattle.kernel_spec.proofs.rows.RowLawsHold as hold
use Rattle.kernel_spec.proofs.steps.FamilyLawsHold as in-family
use Rattle.kernel_spec.proofs.steps.FileLawsHold as in-on-files

pub returns-clause-answer : goal.returns-clause-answer
returns-clause-answer c = in-alone.answer

pub returns-clause-waiting : goal.returns-clause-waiting
returns-clause-waiting c = in-alone.waiting

pub returns-clause-exec : goal.returns-clause-exec
returns-clause-exec c = hold.exec_law

pub returns-clause-fork : goal.returns-clause-fork
returns-clause-fork c = hold.fork_law

pub returns-clause-gone : goal.returns-clause-gone
returns-clause-gone c = in-family.gone_law

pub returns-clause-reap : goal.returns-clause-reap
returns-clause-reap c = in-family.reap_law

pub returns-clause-kill : goal.returns-clause-kill
returns-clause-kill c = hold.kill_law

pub returns-clause-pipe_read : goal.returns-clause-pipe_read
returns-clause-pipe_read c = in-on-files.pipe_read

pub returns-clause-pipe_write : goal.returns-clause-pipe_write
returns-clause-pipe_write c = in-on-files.pipe_write

pub returns-clause-file_read : goal.returns-clause-file_read
returns-clause-file_read c = hold.file_read_law

pub returns-clause-open : goal.returns-clause-open
returns-clause-open c = hold.open_law

pub returns-clause-pipe : goal.returns-clause-pipe
returns-clause-pipe c = hold.pipe_law

pub returns-clause-dup : goal.returns-clause-dup
returns-clause-dup c = hold.dup_law

pub returns-clause-dup_pipe : goal.returns-clause-dup_pipe
returns-clause-dup_pipe c = hold.dup_pipe_law

pub returns-clause-close : goal.returns-clause-close
returns-clause-close c = hold.close_law

pub returns-clause-close_pipe : goal.returns-clause-close_pipe
returns-clause-close_pipe c = hold.close_pipe_law
