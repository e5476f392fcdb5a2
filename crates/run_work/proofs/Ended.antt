-- How a run with a budget ends.
use Rattle.std.proofs.Common.{◌≡◌, ◌⊎◌, ◌≤◌, ℕ, zero, suc, ℤ, pos, negsuc, List, None, Some, Result, Ok, Err, OnOk, IfOk, IfErr, String, inl, inr, arith, map, refl, rules}
use Rattle.std.specs.declared.alloc.Global.{Global}
use Rattle.std.proofs.lemmas.Bool.{cases_lt}
use Rattle.xk_base.specs.declared.program.Program.{Program}
use Rattle.kernel_spec.specs.views.State.{ProgramFile, named_file}
use Rattle.program_files.specs.Programs.{AreProgramsIn}
use Rattle.program_files.specs.Statuses.{Devices, IsPlainStatus, exit_status, status_of}
use Rattle.xv_machine.specs.declared.driving.DriveEnd.{DriveEnd}
use Rattle.xv_machine.specs.declared.driving.DriveEnd.TheVariants.{Halted, RoundsOver}
use Rattle.xv_machine.specs.declared.driving.DriveError.{DriveError}
use Rattle.xv_machine.specs.declared.driving.DriveError.TheVariants.{Read, Write}
use Rattle.xv_machine.specs.declared.driving.RunPlan.{RunPlan}
use Rattle.xv_machine.specs.declared.machine.Config.{Config}
use Rattle.xv_machine.specs.Devices.{OneFailed}
use Rattle.xv_machine.specs.Drives.{Done, IsEndOf, OnRead, OnWrite, StoppedByRead, StoppedByWrite}
use Rattle.xv_machine.specs.Meaning.{Meaning}
use Rattle.run_work.specs.Runs.{BrokenOff, EndsSo, IsRunStatus, IsStatusOfRun, ReadFailed, Says, WriteFailed}

module _ (plan : RunPlan) (booted ended : Meaning) (before after : Devices) where
  ended-halted : (status : ℤ) → Done plan before.source after.source booted ended before.sink after.sink → ended.world.turns.halted ≡ Some status
      → EndsSo (exit_status status) plan booted ended before after
  ended-halted (pos zero) done is = record {
    exited = λ _. (done, is);
    exited_otherwise = λ e. absurd (omega arith);
    rounds_over = λ e. absurd (omega arith);
    device_failed = λ e. absurd (omega arith);
    over = λ e. absurd (omega arith);
    no_other = inl refl;
  }
  ended-halted (pos (suc n)) done is = record {
    exited = λ e. absurd (omega arith);
    exited_otherwise = λ _. (pos (suc n), (λ e. search rules), (done, is));
    rounds_over = λ e. absurd (omega arith);
    device_failed = λ e. absurd (omega arith);
    over = λ e. absurd (omega arith);
    no_other = inr (inl refl);
  }
  ended-halted (negsuc n) done is = record {
    exited = λ e. absurd (omega arith);
    exited_otherwise = λ _. (negsuc n, (λ e. search rules), (done, is));
    rounds_over = λ e. absurd (omega arith);
    device_failed = λ e. absurd (omega arith);
    over = λ e. absurd (omega arith);
    no_other = inr (inl refl);
  }

  ended-rounds : Done plan before.source after.source booted ended before.sink after.sink → ended.world.turns.halted ≡ None → EndsSo 4 plan booted ended before after
  ended-rounds done is = record {
    exited = λ e. absurd (omega arith);
    exited_otherwise = λ e. absurd (omega arith);
    rounds_over = λ _. (done, is);
    device_failed = λ e. absurd (omega arith);
    over = λ e. absurd (omega arith);
    no_other = inr (inr (inl refl));
  }

  ended-failed : ReadFailed plan booted ended before after ⊎ WriteFailed plan booted ended before after → EndsSo 5 plan booted ended before after
  ended-failed failed = record {
    exited = λ e. absurd (omega arith);
    exited_otherwise = λ e. absurd (omega arith);
    rounds_over = λ e. absurd (omega arith);
    device_failed = λ _. failed;
    over = λ e. absurd (omega arith);
    no_other = inr (inr (inr (inl refl)));
  }

  -- the status of a machine that was driven
  pub ended-driven : (end : Result DriveEnd DriveError)
      → OnOk end (Done plan before.source after.source booted ended before.sink after.sink)
      → IfOk end (λ e. IsEndOf e ended)
      → IfErr end (λ e. OnRead e (StoppedByRead plan before.source after.source booted ended before.sink after.sink))
      → IfErr end (λ e. OnRead e (OneFailed before.failed_reads after.failed_reads before.failed_writes after.failed_writes))
      → IfErr end (λ e. OnWrite e (StoppedByWrite plan before.source after.source booted ended before.sink after.sink))
      → IfErr end (λ e. OnWrite e (OneFailed before.failed_writes after.failed_writes before.failed_reads after.failed_reads))
      → EndsSo (status_of end) plan booted ended before after
  ended-driven (Ok (Halted status)) done is unread read unwritten write = ended-halted status done is
  ended-driven (Ok RoundsOver) done is unread read unwritten write = ended-rounds done is
  ended-driven (Err Read) done is unread read unwritten write = ended-failed (inl (unread, read))
  ended-driven (Err Write) done is unread read unwritten write = ended-failed (inr (unwritten, write))

  -- and of one that was broken off
  pub ended-over : BrokenOff plan booted ended before after → EndsSo 6 plan booted ended before after
  ended-over broken = record {
    exited = λ e. absurd (omega arith);
    exited_otherwise = λ e. absurd (omega arith);
    rounds_over = λ e. absurd (omega arith);
    device_failed = λ e. absurd (omega arith);
    over = λ _. broken;
    no_other = inr (inr (inr (inr refl)));
  }

-- ---- exit statuses

-- each of these is 6 at most
most : (status : ℕ) → (status ≡ 0) ⊎ (status ≡ 3) ⊎ (status ≡ 4) ⊎ (status ≡ 5) ⊎ (status ≡ 6) → status ≤ 6
most status (inl a) = omega (arith, a)
most status (inr (inl a)) = omega (arith, a)
most status (inr (inr (inl a))) = omega (arith, a)
most status (inr (inr (inr (inl a)))) = omega (arith, a)
most status (inr (inr (inr (inr a)))) = omega (arith, a)

-- a run ends with 6 at most
pub says-run : (status : ℕ) (config : Config) (plan : RunPlan) (programs : List ProgramFile) (before after : Devices)
    → Says status config plan programs before after → IsRunStatus status
says-run status config plan programs before after says = elim (cases_lt status 7) [
  | inl less ↦ omega (arith, less)
  | inr more ↦ let (booted, ended, first, ends) = says (λ two. omega (arith, more, two)) in most status ends.no_other
]

-- so does a program whose words are refused
pub plain-run : (status : ℕ) → IsPlainStatus status → IsRunStatus status
plain-run status (inl a) = omega (arith, a)
plain-run status (inr (inl a)) = omega (arith, a)
plain-run status (inr (inr (inl a))) = omega (arith, a)
plain-run status (inr (inr (inr a))) = omega (arith, a)

-- and one that ends early
pub early-run : (status : ℕ) → (status ≡ 2) ⊎ (status ≡ 5) → IsRunStatus status
early-run status (inl a) = omega (arith, a)
early-run status (inr a) = omega (arith, a)

-- ---- of FILEs

-- their programs were run
pub files-run : (status : ℕ) (config : Config) (plan : RunPlan) (paths : List (String Global)) (programs : List Program) (before after : Devices)
    → AreProgramsIn paths programs → Says status config plan (map named_file programs) before after → IsStatusOfRun status config plan paths
files-run status config plan paths programs before after are says = λ other. (programs, before, after, are, says)

-- or they weren't
pub files-unrun : (status : ℕ) (config : Config) (plan : RunPlan) (paths : List (String Global)) → status ≡ 2 → IsStatusOfRun status config plan paths
files-unrun status config plan paths two = λ other. absurd (other two)
