-- A run on its way: wherever it stands, its machine has got the first events of its plan, and no other.
use Rattle.std.specs.Prelude.{◌≡◌, length, Bool, true, false}
use Rattle.kernel_spec.specs.runs.Run.{Event, Run, Tick, Key, Send}
use Rattle.xv_session.specs.Recorded.{Recorded}
use Rattle.gdb_target.specs.Plan.{Planned, first_events}

-- the session's machine has got the first events of the plan: as many as it has got
abbrev pub IsPlayedBy : Planned → Recorded → Type 0
IsPlayedBy plan s = s.events ≡ first_events plan (length s.events)

-- the event is Run
abbrev pub is_run : Event → Bool
is_run Run = true
is_run Tick = false
is_run (Key byte) = false
is_run Send = false
