-- What GDB is told of before it happens: a fault of a process that is let run, and the end of process 1.
use Rattle.std.specs.Prelude.{ℕ, ◌==◌, if◌then◌else◌, Option, None, Some}
use Rattle.xk_base.specs.declared.access.Cause.{Cause}
use Rattle.xk_base.specs.declared.access.Cause.TheVariants as causes
use Rattle.kernel_spec.specs.steps.Own.{Answer, Stepped, Called, Blocked, Exited, Faulted}
use Rattle.kernel_spec.specs.runs.Run as runs
use Rattle.kernel_spec.specs.runs.Run.{Outcome}
use Rattle.gdb_packets.specs.declared.answers.StopReason.{StopReason}
use Rattle.gdb_packets.specs.declared.answers.StopReason.TheVariants.{Trap, Illegal, Segmentation, Misaligned, End}
use Rattle.gdb_target.specs.LetRun.{lets, teller}
use Rattle.gdb_target.specs.declared.let_run.LetRun.{LetRun}
use Rattle.gdb_target.specs.declared.target.Stopped.{Stopped}

-- why a process stops that is about to make a fault of this cause
abbrev pub reason_of : Cause → StopReason
reason_of causes.Breakpoint = Trap
reason_of causes.IllegalInstruction = Illegal
reason_of causes.TargetMisaligned = Misaligned
reason_of causes.LoadMisaligned = Misaligned
reason_of causes.StoreMisaligned = Misaligned
reason_of causes.FetchPageFault = Segmentation
reason_of causes.LoadPageFault = Segmentation
reason_of causes.StorePageFault = Segmentation

-- the stop before the end of this process: only that of process 1 is told. It is the end of the run, so whoever is let run is told of it
abbrev pub end_told : LetRun → (p : ℕ) → Option Stopped
end_told let_run p = if p == 1 then Some (record { reason = End; pid = teller let_run p }) else None

-- the stop before a fault of this process: of one that isn't let run the fault isn't told, but the end of the run is
abbrev pub fault_told : LetRun → (p : ℕ) → Cause → Option Stopped
fault_told let_run p cause = if lets let_run p then Some (record { reason = reason_of cause; pid = p }) else end_told let_run p

-- the stop that is told before this answer of process p
abbrev pub stop_before : LetRun → (p : ℕ) → Answer → Option Stopped
stop_before let_run p Stepped = None
stop_before let_run p (Called number value) = None
stop_before let_run p (Blocked number) = None
stop_before let_run p (Exited status) = end_told let_run p
stop_before let_run p (Faulted cause) = fault_told let_run p cause

-- The stop that is told before this comes
abbrev pub told_before : LetRun → Outcome → Option Stopped
told_before let_run (runs.Step_of p answer) = stop_before let_run p answer
told_before let_run (runs.Turn p) = None
told_before let_run runs.Idle = None
told_before let_run runs.Ticked = None
told_before let_run (runs.Typed echo) = None
told_before let_run (runs.Sent byte) = None
told_before let_run runs.Halted = None
