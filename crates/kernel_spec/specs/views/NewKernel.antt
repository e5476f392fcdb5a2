-- The kernel before its first process, and why there may be none.
use Rattle.std.specs.Prelude.{ℕ, Bool, ◌||◌, if◌then◌else◌, nat_lt, List, Option, None, Some, option_map}
use Rattle.std.specs.FinMap.{empty}
use Rattle.xk_base.specs.declared.limits.TheConstants.{FRAMES_MIN, FRAMES_MAX}
use Rattle.xk_base.specs.declared.errors.BootError.{BootError}
use Rattle.xk_base.specs.declared.errors.BootError.TheVariants.{BadConfig, BadPrograms, Memory}
use Rattle.console_core.specs.Lists.{empty_console}
use Rattle.kernel_spec.specs.views.Programs.{first_bad}
use Rattle.kernel_spec.specs.views.State.{ProgramFile, State}

-- no process was made yet, and all frames are free
abbrev pub empty_state : (frames : ℕ) → List ProgramFile → State
empty_state frames programs = record {
  processes = empty;
  files = empty;
  pipes = empty;
  console = empty_console;
  clock = 0;
  next_pid = 1;
  free = frames;
  programs = programs;
}

-- RAM may not have so many frames
abbrev pub are_refused : (frames : ℕ) → Bool
are_refused frames = nat_lt frames FRAMES_MIN || nat_lt FRAMES_MAX frames

-- what is wrong with what a kernel is to be made of: the frames, else the least program that is refused
abbrev pub refusal : (frames : ℕ) → List ProgramFile → Option BootError
refusal frames programs = if are_refused frames then Some BadConfig else option_map BadPrograms (first_bad programs)

-- and where nothing is wrong, the host can have too little memory
abbrev pub or_memory : Option BootError → BootError
or_memory None = Memory
or_memory (Some e) = e
