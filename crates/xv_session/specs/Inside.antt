-- What the fields of a session stand for. Only this crate's private functions speak of them.
use Rattle.xv_session.specs.declared.session.Session.TheInside.{Inside}
use Rattle.xv_session.specs.LastStep.{IsLastStep}
use Rattle.xv_session.specs.Recorded.{Recorded, IsRecorded}

abbrev pub recorded : Inside → Recorded
recorded s = record {
  frames = s.config.frames;
  trace = s.config.trace;
  programs = s.followed.running.machine.world.state.programs;
  events = s.history.events;
  machine = s.followed.running.machine;
  names = s.followed.running.names;
}

-- its machine and names are those that its events lead to, and so is the process whose step was last
abbrev pub IsSessions : Inside → Type 0
IsSessions s = IsRecorded (recorded s) × IsLastStep (recorded s) s.followed.last
