-- The state after boot, or why there is none (the xv6 book, "Code: starting xv6, the first process and system call").
use Rattle.std.specs.Prelude.{ℕ, ◌+◌, ◌-◌, false, if◌then◌else◌, List, [], ◌∷◌, Option, None, Some, Result, Ok, Err, nat_lt}
use Rattle.std.specs.FinMap.{empty, insert}
use Rattle.xk_base.specs.declared.limits.TheConstants.{NPROC, TRACE_MAX}
use Rattle.xk_base.specs.declared.errors.ExecError.{ExecError}
use Rattle.xk_base.specs.declared.errors.ExecError.TheVariants.{NoFrames}
use Rattle.xk_base.specs.declared.errors.BootError.{BootError}
use Rattle.xk_base.specs.declared.errors.BootError.TheVariants.{BadConfig, NoInit, Init}
use Rattle.xk_base.specs.Image.{price}
use Rattle.xk_base.specs.Loaded.{Loaded, loaded}
use Rattle.rv64i_core.specs.Registers.{Registers, fresh, put}
use Rattle.console_core.specs.Lists.{empty_console}
use Rattle.kernel_spec.specs.views.State.{ProgramFile, State}
use Rattle.kernel_spec.specs.views.Words.{SP, A0, A1}
use Rattle.kernel_spec.specs.views.NewKernel.{refusal}
use Rattle.kernel_spec.specs.views.Programs.{init_name, init_of}
use Rattle.kernel_spec.specs.views.Processes.{Live, Alive}
use Rattle.kernel_spec.specs.waking.Turns.{Turns}
use Rattle.kernel_spec.specs.runs.Run.{World}
use Rattle.std.specs.FinSet as set

-- all registers 0, but for the stack pointer and the arguments
abbrev pub first_regs : Loaded → Registers
first_regs l = put (put (put (fresh l.pc) SP l.sp) A0 l.argc) A1 l.sp

-- pid 1 has no parent and no descriptor in use
abbrev pub first_process : Loaded → Live
first_process l = record { regs = first_regs l; image = l.image; descriptors = empty; parent = None; killed = false; call = None }

abbrev pub first_state : (frames : ℕ) → List ProgramFile → Loaded → State
first_state frames programs l = record {
  processes = insert empty 1 (Alive (first_process l));
  files = empty;
  pipes = empty;
  console = empty_console;
  clock = 0;
  next_pid = 2;
  free = frames - price l.image - 1;
  programs = programs;
}

-- pid 1 is in slot 0, which has the first turn
abbrev pub first_turns : Turns
first_turns = record { slots = insert empty 1 0; sleepers = set.empty; last = NPROC - 1; current = None; halted = None }

-- what a program was loaded as, where so many free frames are enough for it and for its registers
abbrev pub within_frames : (free : ℕ) → Result Loaded ExecError → Result Loaded ExecError
within_frames free (Err e) = Err e
within_frames free (Ok l) = if nat_lt free (price l.image + 1) then Err NoFrames else Ok l

-- the world of what `init` was loaded as, or why there is none
abbrev pub first_loaded : (frames : ℕ) → List ProgramFile → Result Loaded ExecError → Result World BootError
first_loaded frames programs (Err e) = Err (Init e)
first_loaded frames programs (Ok l) = Ok (record { state = first_state frames programs l; turns = first_turns })

abbrev pub first_init : (frames : ℕ) → List ProgramFile → Option ProgramFile → Result World BootError
first_init frames programs None = Err NoInit
first_init frames programs (Some init) = first_loaded frames programs (within_frames frames (loaded init.bytes (init_name ∷ [])))

-- a refusal, and else what comes behind it
abbrev pub unless_refused : Option BootError → Result World BootError → Result World BootError
unless_refused None next = next
unless_refused (Some e) next = Err e

-- a machine of so many frames, whose trace keeps so many notes
unfoldable pub first : (frames trace : ℕ) → List ProgramFile → Result World BootError
first frames trace programs =
    if nat_lt TRACE_MAX trace then Err BadConfig
    else unless_refused (refusal frames programs) (first_init frames programs (init_of programs))
