-- Worked cases of what an exit status says of a program that ends early.
use Rattle.std.proofs.Common.{◌≡◌, [], ◌∷◌, map, refl}
use Rattle.xk_base.specs.declared.errors.BootError.TheVariants as boots
use Rattle.program_files.specs.declared.failure.Failure.TheVariants.{Boot, OutOfMemory, TooManyEvents, Read, Write, Clock, RecordUnwritten, UnrecordableName}
use Rattle.program_files.specs.Failures.{failure_status, failure_of_boot}

refused : map failure_status (Boot boots.NoInit ∷ OutOfMemory ∷ TooManyEvents ∷ []) ≡ 2 ∷ 2 ∷ 2 ∷ []
refused = refl

devices : map failure_status (Read ∷ Write ∷ Clock ∷ RecordUnwritten ∷ UnrecordableName ∷ []) ≡ 5 ∷ 5 ∷ 5 ∷ 5 ∷ 5 ∷ []
devices = refl

-- too little memory for a boot is told as such, and any other refusal by its name
short_of_memory : failure_of_boot boots.Memory ≡ OutOfMemory
short_of_memory = refl

no_init : failure_of_boot boots.NoInit ≡ Boot boots.NoInit
no_init = refl
