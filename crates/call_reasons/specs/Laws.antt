-- What holds of the reasons.
use Rattle.std.specs.Prelude.{◌≡◌, ◌≢◌, ◌≤◌, ℕ, ℤ, true, false, List, Option, None, Some, Err, IsSome}
use Rattle.xk_base.specs.declared.access.Access.{Access}
use Rattle.xk_base.specs.declared.errors.ExecError.{ExecError}
use Rattle.xk_base.specs.declared.errors.ExecError.TheVariants as errors
use Rattle.xk_base.specs.declared.limits.TheConstants.{ADDRESS_END, ARG_BYTES, MAXARG, MAXPATH}
use Rattle.xk_base.specs.Loaded.{loaded}
use Rattle.proc_table.specs.declared.process.Call.{Call}
use Rattle.kernel_spec.specs.rows.Buffers.{may_touching, no_slashes, text_at, texts_at}
use Rattle.kernel_spec.specs.rows.Calls.{Exec, answered, perform, refused, row_of}
use Rattle.kernel_spec.specs.runs.Run.{World, Event, Outcome, Happens}
use Rattle.kernel_spec.specs.steps.Own.{Called}
use Rattle.kernel_spec.specs.steps.Step.{begun, call_in}
use Rattle.kernel_spec.specs.views.Programs.{program_named}
use Rattle.kernel_spec.specs.views.State.{ProgramFile}
use Rattle.kernel_spec.specs.views.View.{View, view}
use Rattle.kernel_spec.specs.views.Words.{minus_one}
use Rattle.call_reasons.specs.Facts.{Facts, facts_of}
use Rattle.call_reasons.specs.Last.{is_refusal, reason_asked}
use Rattle.call_reasons.specs.Reasons.{reason_of, reason_told}
use Rattle.call_reasons.specs.declared.reason.Reason.{Reason}
use Rattle.call_reasons.specs.declared.reason.Reason.TheVariants.{NotElf, BadHeader, LongWords}

-- the call is done in this view, and has this answer
abbrev pub Answers : Call → View → ℤ → Type 0
Answers c v value = (perform c v).answer ≡ Called c.number value

-- no address from 2^38 on is one of the process's memory
abbrev pub EndsLow : View → Type 0
EndsLow v = (access : Access) (address : ℕ) → ADDRESS_END ≤ address → may_touching access v.image address ≡ false

-- If there is a reason, the call is refused
abbrev pub ReasonsRefuse : Type 0
ReasonsRefuse = (c : Call) (v : View) → EndsLow v → IsSome (reason_of c v) → perform c v ≡ refused c v

-- If a call answers -1, there is a reason
abbrev pub RefusalsHaveReasons : Type 0
RefusalsHaveReasons = (c : Call) (v : View) → Answers c v minus_one → IsSome (reason_of c v)

-- What a machine shows tells the reason of a call that answers -1
abbrev pub ToldIsReason : Type 0
ToldIsReason = (c : Call) (v : View) → Answers c v minus_one → reason_told c (facts_of v) minus_one ≡ reason_of c v

-- Of any other answer none is told
abbrev pub OthersHaveNone : Type 0
OthersHaveNone = (c : Call) (f : Facts) (value : ℤ) → value ≢ minus_one → reason_told c f value ≡ None

-- After a call that was refused the same is told as before it
abbrev pub ToldAfterwards : Type 0
ToldAfterwards = (c : Call) (v : View) (value : ℤ) → reason_told c (facts_of (answered minus_one v)) value ≡ reason_told c (facts_of v) value

-- ---- of exec

-- the program and the texts that exec asks for, which can't be loaded for this error
pub record FailsToLoad (c : Call) (v : View) (error : ExecError) : Type 0 where
  pub path : List ℕ
  pub texts : List (List ℕ)
  pub program : ProgramFile
  pub path_is : text_at MAXPATH v.image c.a0 ≡ Some path
  pub texts_is : texts_at MAXARG ARG_BYTES v.image c.a1 ≡ Some texts
  pub program_is : program_named (no_slashes path) v.programs ≡ Some program
  pub fails : loaded program.bytes texts ≡ Err error

-- the error of loading that a reason tells, if it tells one
abbrev pub error_told : Reason → Option ExecError
error_told NotElf = Some errors.NotElf
error_told (BadHeader number) = Some (errors.BadSegment number)
error_told LongWords = Some errors.ArgsTooLong
error_told _ = None

-- If the reason of an exec tells an error, the program and the texts can't be loaded for that error
abbrev pub ErrorsAreCauses : Type 0
ErrorsAreCauses = (c : Call) (v : View) (reason : Reason) (error : ExecError) → row_of c.number ≡ Some Exec → reason_of c v ≡ Some reason → error_told reason ≡ Some error → FailsToLoad c v error

-- ---- of a run

-- the view in which a step's call is done: as it is, if that call goes on, else past the ECALL that begins it
abbrev pub past_ecall : View → Option Call → View
past_ecall v None = begun v
past_ecall v (Some c) = v

abbrev pub met : View → View
met v = past_ecall v v.call

-- the state shows why the call is refused that process p's step is on, and it is the reason of that call in the view in which the call is done
pub record ShowsReason (w : World) (p : ℕ) : Type 0 where
  pub before : View
  pub was : view w.state p ≡ Some before
  pub is : reason_asked w p ≡ reason_of (call_in before) (met before)
  pub some : IsSome (reason_asked w p)

-- If a call of a process is refused by an event, the state before it shows why
abbrev pub RefusedStepsHaveReasons : Type 0
RefusedStepsHaveReasons = (w t : World) (e : Event) (o : Outcome) (p : ℕ) → Happens w e o t → is_refusal p o ≡ true → ShowsReason w p
