-- There is room to count. All processes together have at most OPEN_FILES descriptors, and each count may go higher.
use Rattle.std.specs.Prelude.{◌≡◌, ◌≢◌, ℕ, ◌+◌, ◌<◌, Some, None}
use Rattle.std.specs.FinMap.{get}
use Rattle.xk_base.specs.declared.limits.TheConstants.{NPROC, NOFILE, OPEN_FILES}
use Rattle.hart_core.specs.declared.hart.Hart.{Hart}
use Rattle.pipe_core.specs.Pipe.{Pipe}
use Rattle.pipe_core.specs.declared.TheConstants.{END_COUNT_MAX}
use Rattle.file_table.specs.Named.{named_by}
use Rattle.file_table.specs.OpenFiles.{count_at, open_count}
use Rattle.file_table.specs.declared.open_file.End.{End}
use Rattle.file_table.specs.declared.open_file.TheConstants.{SHARERS_MAX}
use Rattle.proc_table.specs.Slots.{descriptors_at}
use Rattle.kernel_spec.specs.views.PipeEnds.{count_on}
use Rattle.kcall_core.specs.Kernel.{state_of}
use Rattle.kcall_core.specs.Whole.{IsWhole}
use Rattle.kcall_core.specs.declared.kernel.Kernel.{Kernel}

pub record HasRoom (k : Kernel) (h : Hart) : Type 0 where
  -- each open file, and each end of a pipe, may count one descriptor more
  pub sharers : (file n : ℕ) → count_at k.files file ≡ Some n → n < SHARERS_MAX
  pub ends : (i : ℕ) (x : Pipe) (end : End) → get (state_of k h).pipes i ≡ Some x → count_on end x < END_COUNT_MAX
  -- where a slot has a free descriptor, one file more may be opened, and where it has two, two
  pub one_file : (slot d : ℕ) → slot < NPROC → d < NOFILE → named_by (descriptors_at k.table slot) d ≡ None → open_count k.files < OPEN_FILES
  pub two_files : (slot d e : ℕ) → slot < NPROC → d < NOFILE → e < NOFILE → d ≢ e → named_by (descriptors_at k.table slot) d ≡ None → named_by (descriptors_at k.table slot) e ≡ None → open_count k.files + 1 < OPEN_FILES

-- so it is between two calls of the kernel
abbrev pub WholeHasRoom : Type 0
WholeHasRoom = (k : Kernel) (h : Hart) → IsWhole k h → HasRoom k h
