-- Descriptors that share an open file.
use Rattle.std.specs.Prelude.{ℕ, Bool, false, nat_eq, Option, None, Some}
use Rattle.xk_base.specs.declared.limits.TheConstants.{NOFILE}
use Rattle.xk_base.specs.Words.{least_below}
use Rattle.kernel_spec.specs.views.State.{State}
use Rattle.kcall_core.specs.Observers.{descriptor_of}
use Rattle.kcall_core.specs.declared.kernel.observers.Descriptor.{Descriptor}

abbrev pub is_on : ℕ → Option Descriptor → Bool
is_on file None = false
is_on file (Some d) = nat_eq d.file file

-- descriptor d of process p is on this open file
abbrev pub names_file : State → (p file d : ℕ) → Bool
names_file s p file d = is_on file (descriptor_of s p d)

-- the first descriptor of process p that is on this open file; none where none is
abbrev pub first_with : State → (p file : ℕ) → Option ℕ
first_with s p file = least_below (names_file s p file) NOFILE
