-- Worlds that can't be told apart: what isn't the same in them no process sees, which is the numbers by which the kernel keeps open files and pipes.
use Rattle.std.specs.Prelude.{◌≡◌, ℕ, Bool, IsSome}
use Rattle.std.specs.FinMap.{keys}
use Rattle.kernel_spec.specs.views.State.{State}
use Rattle.kernel_spec.specs.views.View.{view}
use Rattle.kernel_spec.specs.others.Quiet.{file_at, pipe_at, is_same}
use Rattle.kernel_spec.specs.waking.Turns.{Sleeps}
use Rattle.kernel_spec.specs.views.WellFormed.{AreShown, HasSlots}
use Rattle.kernel_spec.specs.runs.Run.{World}

-- descriptor d of process p and descriptor e of q are on the same open file, on the same pipe
abbrev pub meet_on_file : State → (p d q e : ℕ) → Bool
meet_on_file s p d q e = is_same (file_at s p d) (file_at s q e)

abbrev pub meet_on_pipe : State → (p d q e : ℕ) → Bool
meet_on_pipe s p d q e = is_same (pipe_at s p d) (pipe_at s q e)

-- Two worlds that can't be told apart: each process sees the same in both, and what all share and the turn part are the same
pub record AreAlike (v w : World) : Type 0 where
  -- who is live in one is live in the other
  pub views : (p : ℕ) → view v.state p ≡ view w.state p
  pub pids : keys v.state.processes ≡ keys w.state.processes
  pub console : v.state.console ≡ w.state.console
  pub clock : v.state.clock ≡ w.state.clock
  pub next_pid : v.state.next_pid ≡ w.state.next_pid
  pub free : v.state.free ≡ w.state.free
  pub programs : v.state.programs ≡ w.state.programs
  -- slots, who sleeps, whose turn was the last, who runs, and the end
  pub turns : v.turns ≡ w.turns
  -- two descriptors, also of two processes, are on one open file in both worlds or in neither; and so on one pipe
  pub files : (p d q e : ℕ) → meet_on_file v.state p d q e ≡ meet_on_file w.state p d q e
  pub pipes : (p d q e : ℕ) → meet_on_pipe v.state p d q e ≡ meet_on_pipe w.state p d q e

-- What is so after boot, and stays so: each process has a slot of its own, views show each descriptor in use, and who sleeps is live
pub record IsOrderly (w : World) : Type 0 where
  pub slots : HasSlots w.state w.turns
  pub shown : AreShown w.state
  pub sleepers : (p : ℕ) → Sleeps w.turns p → IsSome (view w.state p)
