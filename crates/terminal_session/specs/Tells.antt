-- What the exit status of a session tells.
use Rattle.std.specs.Prelude.{◌≡◌, ℕ, Result, Ok, Err, IfOk, OnOk}
use Rattle.program_files.specs.declared.failure.Failure.{Failure}
use Rattle.program_files.specs.Failures.{failure_status}
use Rattle.xv_session.specs.Recorded.{Recorded}
use Rattle.terminal_session.specs.declared.ending.End.{End}
use Rattle.terminal_session.specs.Statuses.{IsEndOf, end_status}

-- the exit status of a session that came to this
abbrev pub outcome_status : Result End Failure → ℕ
outcome_status (Ok end) = end_status end
outcome_status (Err failure) = failure_status failure

-- The session came to an end or to a failure, and the status is that of it. An end that is told is the session's own, as it is now; and then this is how it came there
pub record Tells (way : Type 0) (status : ℕ) (now : Recorded) : Type 0 where
  pub outcome : Result End Failure
  pub status_is : status ≡ outcome_status outcome
  pub end : IfOk outcome (IsEndOf now)
  pub came : OnOk outcome way
