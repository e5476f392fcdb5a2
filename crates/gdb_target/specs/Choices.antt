-- What GDB has chosen of a machine, and what it is told last.
use Rattle.std.specs.Prelude.{◌≡◌, ℕ, ◌⊎◌, Bool, Option, IsSome}
use Rattle.kernel_spec.specs.views.State.{State, live}
use Rattle.gdb_packets.specs.declared.answers.StopReason.{StopReason}
use Rattle.gdb_target.specs.Told.{state_of}
use Rattle.gdb_target.specs.declared.points.Points.{Points}
use Rattle.gdb_target.specs.declared.target.Stopped.{Stopped}
use Rattle.gdb_target.specs.declared.target.Target.{Target}

pub record Choices : Type 0 where
  pub program : ℕ
  pub points : Points
  pub looked_at : ℕ
  pub resumed : Option ℕ
  pub most : ℕ
  pub stopped : Stopped
  pub interrupted : Bool

abbrev pub choices : Target → Choices
choices t = record { program = t.program; points = t.points; looked_at = t.looked_at; resumed = t.resumed; most = t.most; stopped = t.stopped; interrupted = t.interrupted }

-- the process lives, or none does
abbrev pub IsAlive : State → ℕ → Type 0
IsAlive s p = IsSome (live s p) ⊎ ((q : ℕ) → ¬ IsSome (live s q))

-- This is the last stop from now on. Its process is the one that is looked at: this one if it lives, or else one that does. Nothing else changes
pub record StopsAt (old : Target) (reason : StopReason) (p : ℕ) (new : Target) : Type 0 where
  pub rest : new ≡ record old { stopped = new.stopped; looked_at = new.looked_at }
  pub reason_is : new.stopped.reason ≡ reason
  pub lives : IsAlive (state_of old) new.stopped.pid
  pub this : IsSome (live (state_of old) p) → new.stopped.pid ≡ p
  pub looked_at : new.looked_at ≡ new.stopped.pid
