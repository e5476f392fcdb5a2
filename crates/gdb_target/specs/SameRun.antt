-- Two places of one run.
use Rattle.std.specs.Prelude.{◌≡◌, ℕ, ℤ, ◌+◌, List, length, Option, None, IsSome}
use Rattle.kernel_spec.specs.views.State.{ProgramFile}
use Rattle.gdb_target.specs.Plan.{Planned}
use Rattle.gdb_target.specs.declared.played.Played.{Played}

-- with what a run begins, which settles each place of it: frames, programs, and the events that it gets
pub record Beginning : Type 0 where
  pub frames : ℕ
  pub trace : ℕ
  pub programs : List ProgramFile
  pub plan : Planned

abbrev pub beginning : Played → Beginning
beginning run = record { frames = run.session.frames; trace = run.session.trace; programs = run.session.programs; plan = run.plan }

-- the status with which process 1 has ended, if it has
abbrev pub ended_with : Played → Option ℤ
ended_with run = run.session.machine.world.turns.halted

-- After the next event of the run process 1 has ended
pub record IsFollowedByEnd (run : Played) : Type 0 where
  pub after : Played
  pub same : beginning after ≡ beginning run
  pub next : length after.session.events ≡ length run.session.events + 1
  pub ends : IsSome (ended_with after)

-- By the next event of the run process 1 ends: before it, it hasn't ended, and after it, it has
pub record IsBeforeEnd (run : Played) : Type 0 where
  pub goes_on : ended_with run ≡ None
  pub follows : IsFollowedByEnd run
