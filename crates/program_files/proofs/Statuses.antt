-- The exit status tells how a run ended.
use Rattle.std.proofs.Common.{◌≡◌, ◌⊎◌, ℕ, zero, suc, ℤ, pos, negsuc, None, Some, Result, Ok, Err, OnOk, IfOk, IfErr, arith, refl, inl, inr, rules}
use Rattle.kernel_spec.specs.runs.Run.{World}
use Rattle.xk_base.specs.declared.errors.BootError.{BootError}
use Rattle.xk_base.specs.declared.errors.BootError.TheVariants.{BadConfig, BadPrograms, NoInit, Memory, Init}
use Rattle.xv_machine.specs.Boots.{Boots}
use Rattle.xv_machine.specs.declared.driving.DriveEnd.{DriveEnd}
use Rattle.xv_machine.specs.declared.driving.DriveEnd.TheVariants.{Halted, RoundsOver}
use Rattle.xv_machine.specs.declared.driving.DriveError.{DriveError}
use Rattle.xv_machine.specs.declared.driving.DriveError.TheVariants.{Read, Write}
use Rattle.xv_machine.specs.declared.driving.RunPlan.{RunPlan}
use Rattle.xv_machine.specs.Devices.{OneFailed}
use Rattle.xv_machine.specs.Drives.{Done, IsEndOf, OnRead, OnWrite}
use Rattle.xv_machine.specs.Meaning.{Meaning}
use Rattle.program_files.specs.Statuses.{Devices, Tells, exit_status, status_of}

-- a machine that has booted stands for the first world
pub booted-first : (frames : ℕ) (result : Result Meaning BootError) (wanted : Result World BootError) (m : Meaning)
    → Boots frames result wanted → result ≡ Ok m → wanted ≡ Ok m.world
booted-first frames result (Err BadConfig) m boots e = let bad : Err BadConfig ≡ Ok m = search rules in search rules
booted-first frames result (Err (BadPrograms i)) m boots e = search rules
booted-first frames result (Err NoInit) m boots e = search rules
booted-first frames result (Err Memory) m boots e = search rules
booted-first frames result (Err (Init x)) m boots e = search rules
booted-first frames result (Ok w) m boots e = search rules

module _ (plan : RunPlan) (old new : Meaning) (before after : Devices) where
  tells-halted : (status : ℤ) → Done plan before.source after.source old new before.sink after.sink → new.world.turns.halted ≡ Some status
      → Tells (exit_status status) plan old before after
  tells-halted (pos zero) done end = record {
    exited = λ _. (new, done, end);
    exited_otherwise = λ e. absurd (omega arith);
    rounds_over = λ e. absurd (omega arith);
    device_failed = λ e. absurd (omega arith);
    no_other = inl refl;
  }
  tells-halted (pos (suc n)) done end = record {
    exited = λ e. absurd (omega arith);
    exited_otherwise = λ _. (pos (suc n), (λ e. search rules), (new, done, end));
    rounds_over = λ e. absurd (omega arith);
    device_failed = λ e. absurd (omega arith);
    no_other = inr (inl refl);
  }
  tells-halted (negsuc n) done end = record {
    exited = λ e. absurd (omega arith);
    exited_otherwise = λ _. (negsuc n, (λ e. search rules), (new, done, end));
    rounds_over = λ e. absurd (omega arith);
    device_failed = λ e. absurd (omega arith);
    no_other = inr (inl refl);
  }

  tells-over : Done plan before.source after.source old new before.sink after.sink → new.world.turns.halted ≡ None → Tells 4 plan old before after
  tells-over done end = record {
    exited = λ e. absurd (omega arith);
    exited_otherwise = λ e. absurd (omega arith);
    rounds_over = λ _. (new, done, end);
    device_failed = λ e. absurd (omega arith);
    no_other = inr (inr (inl refl));
  }

  tells-failed : (OneFailed before.failed_reads after.failed_reads before.failed_writes after.failed_writes
      ⊎ OneFailed before.failed_writes after.failed_writes before.failed_reads after.failed_reads) → Tells 5 plan old before after
  tells-failed failed = record {
    exited = λ e. absurd (omega arith);
    exited_otherwise = λ e. absurd (omega arith);
    rounds_over = λ e. absurd (omega arith);
    device_failed = λ _. failed;
    no_other = inr (inr (inr refl));
  }

  -- the status of a machine that was driven
  pub tells : (end : Result DriveEnd DriveError)
      → OnOk end (Done plan before.source after.source old new before.sink after.sink)
      → IfOk end (λ e. IsEndOf e new)
      → IfErr end (λ e. OnRead e (OneFailed before.failed_reads after.failed_reads before.failed_writes after.failed_writes))
      → IfErr end (λ e. OnWrite e (OneFailed before.failed_writes after.failed_writes before.failed_reads after.failed_reads))
      → Tells (status_of end) plan old before after
  tells (Ok (Halted status)) done end read write = tells-halted status done end
  tells (Ok RoundsOver) done end read write = tells-over done end
  tells (Err Read) done end read write = tells-failed (inl read)
  tells (Err Write) done end read write = tells-failed (inr write)
