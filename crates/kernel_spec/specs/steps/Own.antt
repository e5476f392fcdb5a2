-- What one step of a process comes to: what it answers, what it leaves to the process itself, and what it leaves to all.
use Rattle.std.specs.Prelude.{ℕ, ℤ, List, Option, None, Some}
use Rattle.xk_base.specs.declared.access.Cause.{Cause}
use Rattle.console_core.specs.Lists.{Console}
use Rattle.kernel_spec.specs.views.Words.{minus_one}
use Rattle.kernel_spec.specs.views.View.{View, Descriptors}

pub data Answer : Type 0 where
  -- an instruction is done
  Stepped : Answer
  -- a kernel call is done
  Called : (number : ℤ) (value : ℤ) → Answer
  -- it waits
  Blocked : (number : ℤ) → Answer
  -- the process is gone: by exit or a kill, or by a fault
  Exited : (status : ℤ) → Answer
  Faulted : Cause → Answer

-- the status of a process that is gone
abbrev pub gone_with : Answer → Option ℤ
gone_with (Exited status) = Some status
gone_with (Faulted cause) = Some minus_one
gone_with _ = None

-- what other processes can see of the step. Each descriptor that the view held is told as it is after the step, also where the step closed it
pub record Left : Type 0 where
  pub console : Console
  pub pids : List ℕ
  pub next_pid : ℕ
  pub free : ℕ
  pub descriptors : Descriptors

pub record Own : Type 0 where
  pub answer : Answer
  -- the process's next view; none where it is gone
  pub next : Option View
  -- the first view of a process that it made
  pub child : Option View
  pub left : Left
  -- the pid whose kill mark it set
  pub marked : Option ℕ

abbrev pub left_by : View → Left
left_by v = record { console = v.console; pids = v.pids; next_pid = v.next_pid; free = v.free; descriptors = v.descriptors }

-- the step ends in this view
abbrev pub goes_on : Answer → View → Own
goes_on answer v = record { answer = answer; next = Some v; child = None; left = left_by v; marked = None }
