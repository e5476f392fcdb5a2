-- What can be seen of a machine from outside: what its events gave, and what its observers answer.
use Rattle.std.specs.Prelude.{◌≡◌, ◌≤◌, ◌↔◌, ℕ, ℤ, ◌+◌, ◌-◌, ◌*◌, ◌^◌, Bool, false, List, length, map, Option, None, Some, is_some, Ok, Contains}
use Rattle.std.specs.FinMap.{get}
use Rattle.circular_buffer.specs.Buffer.{keep_last}
use Rattle.xk_base.specs.Frames.{copies}
use Rattle.xk_base.specs.Image.{some_below}
use Rattle.rv64i_core.specs.Registers.{Registers}
use Rattle.kernel_spec.specs.views.Words.{count_if}
use Rattle.kernel_spec.specs.views.Processes.{Child, Live}
use Rattle.kernel_spec.specs.views.State.{ProgramFile, State, live}
use Rattle.kernel_spec.specs.views.WellFormed.{cost, over_all}
use Rattle.kernel_spec.specs.runs.First.{first}
use Rattle.kernel_spec.specs.runs.Run.{World, Event, Outcome, out}
use Rattle.kernel_spec.specs.runs.Rounds.{events}
use Rattle.kernel_spec.specs.waking.Wakes.{IsPromised}
use Rattle.kcall_core.specs.Observers.{registers_of, byte_at, child_at}
use Rattle.kcall_core.specs.declared.kernel.observers.frame_uses.FrameUse.{FrameUse}
use Rattle.kcall_core.specs.declared.kernel.observers.frame_uses.FrameUse.TheVariants.{Free, Trapframe, Root, Upper, Lower, Page, Pipe}
use Rattle.xv_machine.specs.FrameUses.{IsUsed}
use Rattle.xv_machine.specs.Meaning.{Meaning}
use Rattle.xv_machine.specs.Notes.{notes_of}
use Rattle.xv_machine.specs.declared.trace.Note.{Note}

-- ---- what frames are used for

-- one of the `size` pages of this group of an image is there
abbrev pub has_part : (size place : ℕ) → Option Live → Bool
has_part size place None = false
has_part size place (Some l) = some_below size (λ k. is_some (get l.image.pages (size * place + k)))

abbrev pub has_page : (vpn : ℕ) → Option Live → Bool
has_page vpn None = false
has_page vpn (Some l) = is_some (get l.image.pages vpn)

-- How many of all frames have this use. A live process has a frame for its registers, a root, a table for each 2^18 pages and for each 512 pages of which one is there,
-- and a frame for each page; what is neither free nor a process's holds a pipe
abbrev pub count_used : (frames : ℕ) → State → FrameUse → ℕ
count_used frames s Free = s.free
count_used frames s (Trapframe pid) = count_if (is_some (live s pid))
count_used frames s (Root pid) = count_if (is_some (live s pid))
count_used frames s (Upper pid place) = count_if (has_part (2 ^ 18) place (live s pid))
count_used frames s (Lower pid place) = count_if (has_part 512 place (live s pid))
count_used frames s (Page pid vpn) = count_if (has_page vpn (live s pid))
count_used frames s Pipe = frames - (s.free + over_all s cost)

-- So many frames of the machine have this use: they stand in a list, each once
abbrev pub HaveUse : Meaning → FrameUse → ℕ → Type 0
HaveUse m role n = (fs : List ℕ) × (length fs ≡ n) × ((f : ℕ) → (copies f fs ≤ 1) × (Contains fs f ↔ IsUsed m f role))

-- ---- what is told

-- What is told of a machine. Which frame has a use isn't in it
pub record Told : Type 0 where
  -- what each event gave, from the first on
  pub outcomes : List Outcome
  -- the bytes that the console showed
  pub bytes : List ℕ
  -- what the observers answer then
  pub registers : (pid : ℕ) → Option Registers
  pub peek : (pid address : ℕ) → Option ℕ
  pub child_state : (pid child : ℕ) → Option Child
  pub free_frames : ℕ
  pub current : Option ℕ
  pub halted : Option ℤ
  -- the notes that are kept of the last events
  pub trace : List Note
  -- how many frames have a use
  pub frames : FrameUse → ℕ

-- what is told after these events, with what they gave, have led to the world w
abbrev pub told_of : (frames trace : ℕ) → List (Event × Outcome) → World → Told
told_of frames trace list w = record {
  outcomes = map (λ e. e.1) list;
  bytes = out list;
  registers = registers_of w.state;
  peek = byte_at w.state;
  child_state = child_at w.state;
  free_frames = w.state.free;
  current = w.turns.current;
  halted = w.turns.halted;
  trace = keep_last trace (notes_of list);
  frames = count_used frames w.state;
}

-- From the first world of so many frames, so long a trace and these programs, these events give this, by the definitions alone. There is one such answer and no other (`OutcomesAreDetermined`).
-- So it is a function, though it goes by runs: they leave open by which numbers the kernel keeps open files, pipes and frames, and these aren't told
abbrev pub OutcomesOf : (frames trace : ℕ) → List ProgramFile → List Event → Told → Type 0
OutcomesOf frames trace programs wanted told =
    (w : World) × (first frames trace programs ≡ Ok w)
    × ((t : World) × (list : List (Event × Outcome)) × IsPromised w list t × (events list ≡ wanted) × (told ≡ told_of frames trace list t))

-- A machine that has gone by this list has told this: what its events gave, and what its observers answer
pub record HasTold (list : List (Event × Outcome)) (m : Meaning) (told : Told) : Type 0 where
  pub outcomes : told.outcomes ≡ map (λ e. e.1) list
  pub bytes : told.bytes ≡ out list
  pub registers : (pid : ℕ) → registers_of m.world.state pid ≡ told.registers pid
  pub peek : (pid address : ℕ) → byte_at m.world.state pid address ≡ told.peek pid address
  pub child_state : (pid child : ℕ) → child_at m.world.state pid child ≡ told.child_state pid child
  pub free_frames : m.world.state.free ≡ told.free_frames
  pub current : m.world.turns.current ≡ told.current
  pub halted : m.world.turns.halted ≡ told.halted
  pub trace : m.notes ≡ told.trace
  pub frames : (role : FrameUse) → HaveUse m role (told.frames role)
