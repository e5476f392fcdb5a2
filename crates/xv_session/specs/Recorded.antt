-- What a session stands for: with what its machine was booted, the events that the machine got since, what it is now, and which programs its processes run.
use Rattle.std.specs.Prelude.{◌≡◌, ℕ, List, Ok}
use Rattle.kernel_spec.specs.views.State.{ProgramFile}
use Rattle.kernel_spec.specs.runs.First.{first}
use Rattle.kernel_spec.specs.runs.Run.{World, Event, Outcome}
use Rattle.kernel_spec.specs.runs.Rounds.{events}
use Rattle.xv_machine.specs.Drives.{Goes}
use Rattle.xv_machine.specs.Meaning.{Meaning}
use Rattle.xv_machine.specs.Reached.{IsReached}
use Rattle.xv_session.specs.Names.{NamesGo, first_names}
use Rattle.xv_session.specs.declared.names.Named.{Named}
use Rattle.xv_session.specs.declared.running.Running.{Running}

pub record Recorded : Type 0 where
  -- frames of RAM, and how many notes the trace keeps
  pub frames : ℕ
  pub trace : ℕ
  -- the programs that the machine was booted with
  pub programs : List ProgramFile
  -- the events since boot, from the first on
  pub events : List Event
  pub machine : Meaning
  -- the live processes, and the programs that they run
  pub names : List Named

-- The machine m was booted with so many frames, a trace of so many notes and these programs, and has then gone by these events, whatever came of each
abbrev pub IsPlayed : (frames trace : ℕ) → List ProgramFile → List Event → Meaning → Type 0
IsPlayed frames trace programs wanted m = (list : List (Event × Outcome)) × (events list ≡ wanted) × IsReached frames trace programs list m

-- By these events and outcomes the world of a machine that was booted so goes to w, and the names from those at boot to these
abbrev pub AreNamed : (frames trace : ℕ) → List ProgramFile → List (Event × Outcome) → World → List Named → Type 0
AreNamed frames trace programs list w names = (booted : World) × (first frames trace programs ≡ Ok booted) × NamesGo booted list w (first_names programs) names

-- and its processes run these programs
abbrev pub IsLed : (frames trace : ℕ) → List ProgramFile → List Event → Running → Type 0
IsLed frames trace programs wanted r =
    (list : List (Event × Outcome)) × (events list ≡ wanted) × IsReached frames trace programs list r.machine × AreNamed frames trace programs list r.machine.world r.names

-- of a session, what goes on: its machine, and the names
abbrev pub running_of : Recorded → Running
running_of s = record { machine = s.machine; names = s.names }

-- The machine, and the programs that its processes run, are those that the session's events lead to
abbrev pub IsRecorded : Recorded → Type 0
IsRecorded s = IsLed s.frames s.trace s.programs s.events (running_of s)

-- The machine and the names go from old to new by these events, whatever comes of each
pub record GoesBy (wanted : List Event) (old new : Running) : Type 0 where
  pub list : List (Event × Outcome)
  pub goes : Goes old.machine list new.machine
  pub named : NamesGo old.machine.world list new.machine.world old.names new.names
  pub those : events list ≡ wanted
