-- Where nobody may run.
use Rattle.std.specs.Prelude.{ℕ}
use Rattle.kernel_spec.specs.runs.Run.{World}
use Rattle.kernel_spec.specs.waking.Wakes.{IsRunnable}

-- No process lives that doesn't sleep
abbrev pub NobodyMayRun : World → Type 0
NobodyMayRun w = (p : ℕ) → ¬ IsRunnable w p
