-- The exit status tells how a record that was played ended.
use Rattle.std.proofs.Common.{◌≡◌, ◌⊎◌, ◌≤◌, ℕ, zero, suc, ℤ, pos, negsuc, List, None, Some, Result, Ok, Err, OnOk, IfOk, arith, refl, inl, inr, rules}
use Rattle.std.specs.Prelude.{OnErr}
use Rattle.std.proofs.lemmas.Bool.{cases_lt}
use Rattle.kernel_spec.specs.runs.Run.{Event}
use Rattle.kernel_spec.specs.views.State.{ProgramFile}
use Rattle.program_files.specs.Statuses.{exit_status}
use Rattle.xv_machine.specs.declared.devices.DeviceFault.{DeviceFault}
use Rattle.xv_machine.specs.Meaning.{Meaning}
use Rattle.xv_machine.specs.Stretches.{BrokeOff, Played, PlayedFirst}
use Rattle.recorded_runs.specs.Replays.{CountsFailure, IsEndOf, SaysReplay, Screen, TellsReplay, Unwritten, status_of}
use Rattle.recorded_runs.specs.declared.ending.RecordEnd.{RecordEnd}
use Rattle.recorded_runs.specs.declared.ending.RecordEnd.TheVariants.{Halted, Over}

module _ (events : List Event) (booted ended : Meaning) (before after : Screen) where
  halted : (status : ℤ) → Played events booted ended before.sink after.sink → ended.world.turns.halted ≡ Some status
      → TellsReplay (exit_status status) events booted ended before after
  halted (pos zero) played is = record {
    exited = λ _. (played, is);
    exited_otherwise = λ e. absurd (omega arith);
    record_over = λ e. absurd (omega arith);
    unwritten = λ e. absurd (omega arith);
    over_budget = λ e. absurd (omega arith);
    no_other = inl refl;
  }
  halted (pos (suc n)) played is = record {
    exited = λ e. absurd (omega arith);
    exited_otherwise = λ _. (pos (suc n), (λ e. search rules), (played, is));
    record_over = λ e. absurd (omega arith);
    unwritten = λ e. absurd (omega arith);
    over_budget = λ e. absurd (omega arith);
    no_other = inr (inl refl);
  }
  halted (negsuc n) played is = record {
    exited = λ e. absurd (omega arith);
    exited_otherwise = λ _. (negsuc n, (λ e. search rules), (played, is));
    record_over = λ e. absurd (omega arith);
    unwritten = λ e. absurd (omega arith);
    over_budget = λ e. absurd (omega arith);
    no_other = inr (inl refl);
  }

  over : Played events booted ended before.sink after.sink → ended.world.turns.halted ≡ None → TellsReplay 4 events booted ended before after
  over played is = record {
    exited = λ e. absurd (omega arith);
    exited_otherwise = λ e. absurd (omega arith);
    record_over = λ _. (played, is);
    unwritten = λ e. absurd (omega arith);
    over_budget = λ e. absurd (omega arith);
    no_other = inr (inr (inl refl));
  }

  unwritten : Unwritten events booted ended before after → TellsReplay 5 events booted ended before after
  unwritten broke = record {
    exited = λ e. absurd (omega arith);
    exited_otherwise = λ e. absurd (omega arith);
    record_over = λ e. absurd (omega arith);
    unwritten = λ _. broke;
    over_budget = λ e. absurd (omega arith);
    no_other = inr (inr (inr (inl refl)));
  }

  -- the status of a record that was played to its end, or to an event whose bytes couldn't be written
  pub tells-end : (end : Result RecordEnd DeviceFault)
      → OnOk end (Played events booted ended before.sink after.sink)
      → IfOk end (λ e. IsEndOf e ended)
      → OnErr end (BrokeOff events booted ended before.sink after.sink)
      → CountsFailure end before.failed_writes after.failed_writes
      → TellsReplay (status_of end) events booted ended before after
  tells-end (Ok (Halted status)) played is broke failures = halted status played is
  tells-end (Ok Over) played is broke failures = over played is
  tells-end (Err fault) played is broke failures = unwritten (broke, failures)

  -- and of one that was broken off
  pub tells-stopped : PlayedFirst events booted ended before.sink after.sink → after.failed_writes ≡ before.failed_writes → TellsReplay 6 events booted ended before after
  tells-stopped first failures = record {
    exited = λ e. absurd (omega arith);
    exited_otherwise = λ e. absurd (omega arith);
    record_over = λ e. absurd (omega arith);
    unwritten = λ e. absurd (omega arith);
    over_budget = λ _. (first, failures);
    no_other = inr (inr (inr (inr refl)));
  }

-- ---- exit statuses

not-above : (status : ℕ) → 7 ≤ status → (status ≡ 0) ⊎ (status ≡ 3) ⊎ (status ≡ 4) ⊎ (status ≡ 5) ⊎ (status ≡ 6) → ⊥
not-above status more (inl a) = omega (arith, more, a)
not-above status more (inr (inl a)) = omega (arith, more, a)
not-above status more (inr (inr (inl a))) = omega (arith, more, a)
not-above status more (inr (inr (inr (inl a)))) = omega (arith, more, a)
not-above status more (inr (inr (inr (inr a)))) = omega (arith, more, a)

-- a record that is played ends with 6 at most
pub says-most : (status frames trace : ℕ) (programs : List ProgramFile) (events : List Event) (before after : Screen)
    → SaysReplay status frames trace programs events before after → status ≤ 6
says-most status frames trace programs events before after says = elim (cases_lt status 7) [
  | inl less ↦ omega (arith, less)
  | inr more ↦
      let (booted, ended, first, tells) = says (λ two. omega (arith, more, two)) in
      absurd (not-above status (omega (arith, more)) tells.no_other)
]
