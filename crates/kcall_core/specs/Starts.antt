-- The first process: what it is made of, and when it can't be made.
use Rattle.std.specs.Prelude.{◌≡◌, [], ◌∷◌, Result}
use Rattle.std.specs.FinMap.{empty}
use Rattle.xk_base.specs.declared.errors.ExecError.{ExecError}
use Rattle.xk_base.specs.Loaded.{Loaded, loaded}
use Rattle.console_core.specs.Lists.{empty_console}
use Rattle.file_table.specs.OpenFiles.{none_open}
use Rattle.proc_table.specs.Slots.{no_process}
use Rattle.kernel_spec.specs.views.Programs.{init_name, init_of, program_bytes}
use Rattle.kernel_spec.specs.views.State.{State}
use Rattle.kernel_spec.specs.runs.First.{first_state, first_turns}
use Rattle.kernel_spec.specs.runs.Run.{World}
use Rattle.kcall_core.specs.Memories.{pipes_of, free_of}
use Rattle.kcall_core.specs.Kernel.{frame_count, IsStopped}
use Rattle.kcall_core.specs.declared.kernel.Kernel.{Kernel}

-- a kernel before its first process: no process, no open file and no pipe yet, and all frames of RAM are free. Keys may have been typed, and the clock may have counted ticks
pub record HasNoProcess (k : Kernel) : Type 0 where
  pub table : k.table ≡ no_process 1
  pub current : IsStopped k
  pub files : k.files ≡ none_open
  pub pipes : pipes_of k.memories ≡ empty
  pub free : free_of k.memories ≡ frame_count k

-- a kernel as it is made: nothing is typed, and no tick was counted
pub record IsBlank (k : Kernel) : Type 0 where
  pub nobody : HasNoProcess k
  pub console : k.console ≡ empty_console
  pub clock : k.clock ≡ 0

-- the program `init` with its name as the one text
abbrev pub init_loaded : State → Result Loaded ExecError
init_loaded s = loaded (program_bytes (init_of s.programs)) (init_name ∷ [])

-- the world after: pid 1 has the frames that it costs, and the first turn; the console and the clock stay
abbrev pub started_world : Loaded → State → World
started_world l s = record { state = record (first_state s.free s.programs l) { console = s.console; clock = s.clock }; turns = first_turns }
