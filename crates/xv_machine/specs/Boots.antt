-- What boot answers.
use Rattle.std.specs.Prelude.{◌≡◌, ◌⊎◌, ℕ, [], Result, Ok, Err}
use Rattle.xk_base.specs.declared.errors.BootError.{BootError}
use Rattle.xk_base.specs.declared.errors.BootError.TheVariants.{BadConfig, BadPrograms, NoInit, Memory, Init}
use Rattle.kernel_spec.specs.runs.Run.{World}
use Rattle.xv_machine.specs.Meaning.{Meaning}

-- the machine stands for this world, in RAM of so many frames
abbrev pub Starts : ℕ → World → Result Meaning BootError → Type 0
Starts frames w (Err e) = ⊥
Starts frames w (Ok m) = (m.world ≡ w) × (m.frames.count ≡ frames)

-- no note is kept yet, and so many may be
abbrev pub HasEmptyTrace : ℕ → Meaning → Type 0
HasEmptyTrace room m = (m.notes ≡ []) × (m.room ≡ room)

-- the first world, or the first refusal; want of memory can come only where the programs were found good, and one is `init`
abbrev pub Boots : ℕ → Result Meaning BootError → Result World BootError → Type 0
Boots frames result (Err BadConfig) = result ≡ Err BadConfig
Boots frames result (Err (BadPrograms i)) = result ≡ Err (BadPrograms i)
Boots frames result (Err NoInit) = result ≡ Err NoInit
Boots frames result (Err Memory) = result ≡ Err Memory
Boots frames result (Err (Init e)) = (result ≡ Err (Init e)) ⊎ (result ≡ Err Memory)
Boots frames result (Ok w) = Starts frames w result ⊎ (result ≡ Err Memory)
