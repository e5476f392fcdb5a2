-- The exit status tells how a run ended.
use Rattle.std.proofs.Common.{◌≡◌, ◌⊎◌, ℕ, List, Ok, arith, inl, inr}
use Rattle.kernel_spec.specs.runs.First.{first}
use Rattle.kernel_spec.specs.views.State.{ProgramFile}
use Rattle.program_files.specs.Statuses.{Devices, Tells}
use Rattle.xv_machine.specs.declared.driving.RunPlan.{RunPlan}
use Rattle.xv_machine.specs.declared.machine.Config.{Config}
use Rattle.xv_machine.specs.Meaning.{Meaning}
use Rattle.xv_run.specs.Runs.{Says}

not-two : (status : ℕ) → (status ≡ 0) ⊎ (status ≡ 3) ⊎ (status ≡ 4) ⊎ (status ≡ 5) → status ≡ 2 → ⊥
not-two status (inl a) e = omega arith
not-two status (inr (inl a)) e = omega arith
not-two status (inr (inr (inl a))) e = omega arith
not-two status (inr (inr (inr a))) e = omega arith

-- a machine has booted, and the status tells how it was driven
pub says : (status : ℕ) (config : Config) (plan : RunPlan) (programs : List ProgramFile) (booted : Meaning) (before after : Devices)
    → first config.frames config.trace programs ≡ Ok booted.world → Tells status plan booted before after → Says status config plan programs before after
says status config plan programs booted before after boots told = record {
  refused = λ e. absurd (not-two status told.no_other e);
  driven = λ _. (booted, boots, told);
}
