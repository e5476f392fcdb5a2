-- Runs that a run got in a row.
use Rattle.std.specs.Prelude.{◌≡◌, ℕ, ◌+◌, ◌<◌, ◌&&◌, not, Bool, false, List, length, Some, is_some}
use Rattle.kernel_spec.specs.runs.Run.{Run, Outcome}
use Rattle.xv_session.specs.Answers.{Stopped}
use Rattle.xv_session.specs.Stops.{is_before_stop}
use Rattle.gdb_target.specs.Forth.{current_of, is_bare}
use Rattle.gdb_target.specs.PlayedBy.{is_run}
use Rattle.gdb_target.specs.Plan.{planned_at}
use Rattle.gdb_target.specs.Touches.{watches_uses}
use Rattle.gdb_target.specs.declared.played.Played.{Played}
use Rattle.gdb_target.specs.declared.reverse.Back.{Back}
use Rattle.gdb_target.specs.declared.reverse.Back.TheVariants as backs
use Rattle.gdb_target.specs.declared.target.Target.{Target}
use Rattle.gdb_target.specs.declared.target.Until.{Until}
use Rattle.gdb_target.specs.declared.target.Until.TheVariants.{Point, StepOf, AnyStep}

-- ---- a row

-- Runs were sent in a row, up to the first that leads to a stop or of which no done instruction came; and this came of the last
pub record RunsToStop (addresses bytes : List ℕ) (from : Played) (o : Outcome) (to : Played) : Type 0 where
  pub most : ℕ
  pub sent : ℕ
  pub met : Bool
  pub stopped : Stopped addresses bytes most sent met (Some o) from.session to.session
  -- they are the events of the run
  pub runs : (k : ℕ) → k < sent → planned_at from.plan (length from.session.events + k) ≡ Run

-- ---- where a row may start

-- a process runs, and doesn't stand before a stop; and no bytes are watched for reads, of which a row tells none
abbrev pub is_free : (bytes : List ℕ) → Target → Bool
is_free bytes t = (is_some (current_of t) && not (watches_uses t.points)) && not (is_before_stop t.points.breakpoints.items bytes t.run.session.machine.world)

-- there are points, and it is gone on up to one
abbrev pub starts_row : Until → (bytes : List ℕ) → Target → Bool
starts_row Point bytes t = not (is_bare t.points) && is_free bytes t
starts_row (StepOf p) bytes t = false
starts_row AnyStep bytes t = false

-- the next event is Run, and points are looked for
abbrev pub looks_at_row : Back → (bytes : List ℕ) → Target → Bool
looks_at_row (backs.Point let_run) bytes t = is_run (planned_at t.run.plan (length t.run.session.events)) && is_free bytes t
looks_at_row (backs.StepOf p) bytes t = false
