-- What is true of a machine after boot and after each event. Each frame of RAM is free, or has exactly one owner, who has it for one thing.
use Rattle.std.specs.Prelude.{◌≡◌, ℕ, ℤ, ◌+◌, ◌*◌, ◌^◌, ◌<◌, ◌≤◌, List, [], ◌∷◌, ◌++◌, length, Option, Some, None, IsSome, is_some}
use Rattle.std.specs.FinMap.{get, len, values}
use Rattle.xk_base.specs.Frames.{copies}
use Rattle.xk_base.specs.Image.{Image, some_below, price}
use Rattle.kernel_spec.specs.views.Words.{count_if}
use Rattle.kernel_spec.specs.views.Processes.{Live, Zombie}
use Rattle.kernel_spec.specs.views.State.{State, live}
use Rattle.kernel_spec.specs.waking.Turns.{Turns}
use Rattle.kernel_spec.specs.views.WellFormed.{WellFormed, HasSlots, sum_below}
use Rattle.kernel_spec.specs.waking.Wakes.{NoReadySleeper}
use Rattle.xv_machine.specs.Meaning.{Owned, Frames, Meaning}

-- ---- frames

-- all frames of a process: each as often as it is used
abbrev pub frames_of : Option Owned → List ℕ
frames_of None = []
frames_of (Some o) = o.trapframe ∷ (o.root ∷ (values o.uppers ++ (values o.lowers ++ values o.pages)))

-- how many owners and uses frame f has: it is free, a process has it for something, a pipe lies in it
abbrev pub uses : State → Frames → ℕ → ℕ
uses s frames f = copies f frames.free + sum_below s.next_pid (λ p. copies f (frames_of (get frames.owned p))) + count_if (is_some (get s.pipes f))

-- each page of the image has a frame, each table that leads to one has a frame, and nothing else has
pub record FitsImage (image : Image) (o : Owned) : Type 0 where
  pub pages : (v : ℕ) → is_some (get o.pages v) ≡ is_some (get image.pages v)
  -- table t of the last level is there where one of its 512 pages is
  pub lowers : (t : ℕ) → is_some (get o.lowers t) ≡ some_below 512 (λ k. is_some (get image.pages (512 * t + k)))
  -- and one of the level above where one of its 2^18 pages is
  pub uppers : (t : ℕ) → is_some (get o.uppers t) ≡ some_below (2 ^ 18) (λ k. is_some (get image.pages (2 ^ 18 * t + k)))
  -- they are as many as the image costs
  pub cost : price image ≡ 1 + len o.uppers + len o.lowers + len o.pages

-- a live process has a trapframe and the frames of its image; no other has a frame
abbrev pub HasFrames : Option Live → Option Owned → Type 0
HasFrames (Some l) (Some o) = FitsImage l.image o
HasFrames None None = Unit {0}
HasFrames _ _ = ⊥

-- ---- the end

-- process 1 is live; or it has ended with this status, and nothing runs
abbrev pub IsHalted : State → Turns → Option ℤ → Type 0
IsHalted s turns None = IsSome (live s 1)
IsHalted s turns (Some status) = (get s.processes 1 ≡ Some (Zombie None status)) × (turns.current ≡ None)

-- ---- all of it

pub record IsSoundMachine (m : Meaning) : Type 0 where
  -- counts, open files, pipes and parents are right; the free frames, those that the processes cost and the pipes are all frames
  pub well : WellFormed m.frames.count m.world.state
  -- each process has a slot of its own
  pub slots : HasSlots m.world.state m.world.turns
  -- no process sleeps that could go on
  pub unready : NoReadySleeper m.world
  pub halted : IsHalted m.world.state m.world.turns m.world.turns.halted
  -- a frame is free once, or used once
  pub once : (f : ℕ) → f < m.frames.count → uses m.world.state m.frames f ≡ 1
  -- nothing but a frame is free or used
  pub inside : (f : ℕ) → m.frames.count ≤ f → uses m.world.state m.frames f ≡ 0
  -- the state tells how many are free
  pub free : m.world.state.free ≡ length m.frames.free
  -- each process has the frames that it costs
  pub owned : (p : ℕ) → HasFrames (live m.world.state p) (get m.frames.owned p)
  -- the trace has room for the notes that it keeps
  pub kept : length m.notes ≤ m.room
