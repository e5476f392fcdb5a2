-- An open file gets one descriptor more: what becomes of the memories, and of the kernel.
use Rattle.std.specs.Prelude.{◌≡◌, ℕ, ◌<◌, Some, IsSome, set}
use Rattle.std.specs.FinMap.{get}
use Rattle.pipe_core.specs.declared.TheConstants.{END_COUNT_MAX}
use Rattle.file_table.specs.Named.{with_named}
use Rattle.file_table.specs.OpenFiles.{entry_at, open_file_at, count_at, with_sharer}
use Rattle.file_table.specs.declared.open_file.OpenFile.{OpenFile}
use Rattle.file_table.specs.declared.open_file.TheConstants.{SHARERS_MAX}
use Rattle.file_table.specs.declared.open_file.End.{End}
use Rattle.file_table.specs.declared.open_file.Target.{Target}
use Rattle.file_table.specs.declared.open_file.Target.TheVariants.{Console as Terminal, Program as File, Pipe as Pipe_end}
use Rattle.proc_table.specs.Slots.{descriptors_at}
use Rattle.kernel_spec.specs.views.PipeEnds.{joined, count_on}
use Rattle.kcall_core.specs.Holdings.{pipe_named}
use Rattle.kcall_core.specs.Memories.{pipes_of, PipeChanges, AreSound}
use Rattle.kcall_core.specs.declared.memories.Memories.{Memories}
use Rattle.kcall_core.specs.declared.kernel.Kernel.{Kernel}

-- one descriptor more is on the end of the pipe that this target is, if it is one
abbrev pub Joins : Target → Memories → Memories → Type 0
Joins Terminal old new = new ≡ old
Joins (File program offset) old new = new ≡ old
Joins (Pipe_end i end) old new = PipeChanges old new i (Some (joined (pipe_named (pipes_of old) i) end 1))

-- the open file may have one descriptor more: it is open, its count has room, and if it is an end of a pipe, that is there and has room
pub record MayShare (k : Kernel) (file : ℕ) : Type 0 where
  pub sound : AreSound k.memories
  pub opened : IsSome (entry_at k.files file)
  pub room : (n : ℕ) → count_at k.files file ≡ Some n → n < SHARERS_MAX
  pub there : (x : OpenFile) (i : ℕ) (end : End) → open_file_at k.files file ≡ Some x → x.target ≡ Pipe_end i end → IsSome (get (pipes_of k.memories) i)
  pub ends : (x : OpenFile) (i : ℕ) (end : End) → open_file_at k.files file ≡ Some x → x.target ≡ Pipe_end i end → count_on end (pipe_named (pipes_of k.memories) i) < END_COUNT_MAX

-- A descriptor of a slot, which was free, names the open file, which counts one more; so does the end of a pipe that it is
pub record IsShared (k : Kernel) (slot fd file : ℕ) (k' : Kernel) : Type 0 where
  pub table : k'.table ≡ record k.table { descriptors = set k.table.descriptors slot (with_named fd (Some file) (descriptors_at k.table slot)) }
  pub files : k'.files ≡ with_sharer file k.files
  pub memories : (x : OpenFile) → open_file_at k.files file ≡ Some x → Joins x.target k.memories k'.memories
  pub rest : k' ≡ record k { table = k'.table; files = k'.files; memories = k'.memories }
