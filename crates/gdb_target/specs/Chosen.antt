-- What GDB chooses: the process that it looks at, the one that it steps, and the points at which programs stop.
use Rattle.std.specs.Prelude.{◌≡◌, ℕ, nat_lt, Bool, true, false, ◌==◌, ◌&&◌, not, if◌then◌else◌, List, [], ◌∷◌, ◌++◌, filter, codes, Option, None, Some, is_some, IsSome, option_map, unwrap_or}
use Rattle.std.specs.List.{list_any}
use Rattle.kernel_spec.specs.views.State.{live}
use Rattle.gdb_packets.specs.Answers.{refusal}
use Rattle.gdb_packets.specs.declared.command.Command.{Command}
use Rattle.gdb_packets.specs.declared.command.Command.TheVariants as on
use Rattle.gdb_packets.specs.declared.command.Point.{Point}
use Rattle.gdb_packets.specs.declared.command.Point.TheVariants.{Breakpoint, Watchpoint, ReadWatchpoint, AccessWatchpoint}
use Rattle.gdb_packets.specs.declared.command.Resume.{Resume}
use Rattle.gdb_packets.specs.declared.command.Resume.TheVariants.{Continue, Step}
use Rattle.gdb_packets.specs.declared.command.Thread.{Thread}
use Rattle.gdb_packets.specs.declared.command.Thread.TheVariants.{All, Any, One}
use Rattle.gdb_target.specs.declared.let_run.LetRun.{LetRun}
use Rattle.gdb_target.specs.declared.let_run.LetRun.TheVariants as runs
use Rattle.gdb_target.specs.declared.points.Points.{Points}
use Rattle.gdb_target.specs.declared.points.TheConstants.{WATCHED_MOST}
use Rattle.gdb_target.specs.declared.points.Watched.{Watched}
use Rattle.gdb_target.specs.declared.target.Target.{Target}
use Rattle.gdb_target.specs.declared.target.Until.{Until}
use Rattle.gdb_target.specs.declared.target.Until.TheVariants.{StepOf, AnyStep}
use Rattle.gdb_target.specs.declared.target.Until.TheVariants as untils
use Rattle.gdb_target.specs.declared.target.Way.{Way}
use Rattle.gdb_target.specs.Seen.{IsNoThread}
use Rattle.gdb_target.specs.Stepping.{as_stepped}
use Rattle.gdb_target.specs.Told.{state_of}

-- ---- threads

-- the process that a choice of a thread means: the one that stopped, if no thread is named; none, if no live process has the number that is named
abbrev pub IsMeant : Target → Thread → Option ℕ → Type 0
IsMeant t All p = p ≡ Some t.stopped.pid
IsMeant t Any p = p ≡ Some t.stopped.pid
IsMeant t (One n) None = IsNoThread (state_of t) n
IsMeant t (One n) (Some p) = (p ≡ n) × IsSome (live (state_of t) n)

-- this process, if it lives
abbrev pub if_live : Target → ℕ → Option ℕ
if_live t p = if is_some (live (state_of t) p) then Some p else None

-- the process that steps if a command names none: the one that was chosen to run alone, or else the one that is looked at; none, if it doesn't live
abbrev pub chosen_for_steps : Target → Option ℕ
chosen_for_steps t = if_live t (unwrap_or t.resumed t.looked_at)

-- the process that a step of a thread means: that one, if no thread is named
abbrev pub IsStepped : Target → Thread → Option ℕ → Type 0
IsStepped t All p = p ≡ chosen_for_steps t
IsStepped t Any p = p ≡ chosen_for_steps t
IsStepped t (One n) None = IsNoThread (state_of t) n
IsStepped t (One n) (Some p) = (p ≡ n) × IsSome (live (state_of t) n)

-- until a step of this process, if there is one
abbrev pub step_of : Option ℕ → Option Until
step_of None = None
step_of (Some p) = Some (StepOf p)

abbrev pub IsUntilStep : Target → Thread → Option Until → Type 0
IsUntilStep t thread until = (p : Option ℕ) × IsStepped t thread p × (until ≡ step_of p)

-- Until when a command goes on; none if the process that is to step doesn't live
abbrev pub IsUntil : Target → Resume → Option Until → Type 0
IsUntil t Continue until = until ≡ Some untils.Point
IsUntil t (Step All) until = until ≡ Some AnyStep
IsUntil t (Step Any) until = IsUntilStep t Any until
IsUntil t (Step (One n)) until = IsUntilStep t (One n) until

-- this process alone, if there is one
abbrev pub alone : Option ℕ → Option LetRun
alone None = None
alone (Some p) = Some (runs.Alone p)

-- whom a command lets run that names no thread: the one that was chosen to run alone, or else all; none, if that one doesn't live
abbrev pub to_run : Target → Option ℕ → Option LetRun
to_run t None = Some runs.All
to_run t (Some p) = alone (if_live t p)

abbrev pub chosen_to_run : Target → Option LetRun
chosen_to_run t = to_run t t.resumed

-- whom a command lets run; none, if no live process has the number that it names
abbrev pub IsLetRun : Target → Thread → Option LetRun → Type 0
IsLetRun t All let_run = let_run ≡ Some runs.All
IsLetRun t Any let_run = let_run ≡ chosen_to_run t
IsLetRun t (One n) None = IsNoThread (state_of t) n
IsLetRun t (One n) (Some let_run) = (let_run ≡ runs.Alone n) × IsSome (live (state_of t) n)

abbrev pub both : Option Until → Option LetRun → Option Way
both None let_run = None
both (Some until) None = None
both (Some until) (Some let_run) = Some (record { until = until; let_run = let_run })

-- How a command goes on; not at all, if a process that it names doesn't live. A way up to a point may be one up to a step, which GDB makes by breakpoints
abbrev pub IsWay : Target → Resume → Thread → Option Way → Type 0
IsWay t how thread way =
    (until : Option Until) × (let_run : Option LetRun) × IsUntil t how until × IsLetRun t thread let_run × (way ≡ option_map (as_stepped t) (both until let_run))

-- the process that a choice of a thread lets run alone: none, if no thread is named
abbrev pub runner : Thread → (p : ℕ) → Option ℕ
runner All p = None
runner Any p = None
runner (One n) p = Some p

-- the process is chosen for commands that go on, or for those that look
abbrev pub chosen : Thread → (resumes : Bool) → ℕ → Target → Target
chosen thread true p t = record t { resumed = runner thread p }
chosen thread false p t = record t { looked_at = p }

-- A choice of a process that is there is answered by OK, and any other changes nothing
abbrev pub IsChosen : Option ℕ → Thread → (resumes : Bool) → (old new : Target) → (text : List ℕ) → Type 0
IsChosen None thread resumes old new text = (new ≡ old) × (text ≡ refusal 3)
IsChosen (Some p) thread resumes old new text = (new ≡ chosen thread resumes p old) × (text ≡ codes "OK")

-- ---- points

-- the same bytes are watched
abbrev pub is_same : Watched → Watched → Bool
is_same a b = (a.address == b.address) && (a.length == b.length)

-- one more, unless it is there
abbrev pub with_breakpoint : ℕ → List ℕ → List ℕ
with_breakpoint address points = if list_any (λ a. a == address) points then points else points ++ address ∷ []

abbrev pub with_watched : Watched → List Watched → List Watched
with_watched watched points = if list_any (λ w. is_same w watched) points then points else points ++ watched ∷ []

-- all others
abbrev pub without_breakpoint : ℕ → List ℕ → List ℕ
without_breakpoint address points = filter (λ a. not (a == address)) points

abbrev pub without_watched : Watched → List Watched → List Watched
without_watched watched points = filter (λ w. not (is_same w watched)) points

-- so many bytes, from an address on
abbrev pub bytes_at : (address length : ℕ) → Watched
bytes_at address length = record { address = address; length = length }

-- A point was put: the others are as they were
abbrev pub IsPut : Point → (address length : ℕ) → (old new : Points) → Type 0
IsPut Breakpoint address length old new = (new ≡ record old { breakpoints = new.breakpoints }) × (new.breakpoints.items ≡ with_breakpoint address old.breakpoints.items)
IsPut Watchpoint address length old new = (new ≡ record old { watched = new.watched }) × (new.watched.items ≡ with_watched (bytes_at address length) old.watched.items)
IsPut ReadWatchpoint address length old new = (new ≡ record old { read = new.read }) × (new.read.items ≡ with_watched (bytes_at address length) old.read.items)
IsPut AccessWatchpoint address length old new = (new ≡ record old { accessed = new.accessed }) × (new.accessed.items ≡ with_watched (bytes_at address length) old.accessed.items)

-- A point was taken away: the others are as they were
abbrev pub IsTaken : Point → (address length : ℕ) → (old new : Points) → Type 0
IsTaken Breakpoint address length old new = (new ≡ record old { breakpoints = new.breakpoints }) × (new.breakpoints.items ≡ without_breakpoint address old.breakpoints.items)
IsTaken Watchpoint address length old new = (new ≡ record old { watched = new.watched }) × (new.watched.items ≡ without_watched (bytes_at address length) old.watched.items)
IsTaken ReadWatchpoint address length old new = (new ≡ record old { read = new.read }) × (new.read.items ≡ without_watched (bytes_at address length) old.read.items)
IsTaken AccessWatchpoint address length old new = (new ≡ record old { accessed = new.accessed }) × (new.accessed.items ≡ without_watched (bytes_at address length) old.accessed.items)

-- nothing but points changed
abbrev pub PointsAlone : (old new : Target) → Type 0
PointsAlone old new = new ≡ record old { points = new.points }

-- a point is put and answered by OK
abbrev pub Puts : Point → (address length : ℕ) → (old new : Target) → (text : List ℕ) → Type 0
Puts point address length old new text = PointsAlone old new × IsPut point address length old.points new.points × (text ≡ codes "OK")

-- it watches too many bytes
abbrev pub is_too_long : Point → (length : ℕ) → Bool
is_too_long Breakpoint length = false
is_too_long Watchpoint length = nat_lt WATCHED_MOST length
is_too_long ReadWatchpoint length = nat_lt WATCHED_MOST length
is_too_long AccessWatchpoint length = nat_lt WATCHED_MOST length

-- A point that watches too many bytes is refused, and changes nothing
abbrev pub IsInsertedIf : (too_long : Bool) → Point → (address length : ℕ) → (old new : Target) → (text : List ℕ) → Type 0
IsInsertedIf true point address length old new text = (new ≡ old) × (text ≡ refusal 22)
IsInsertedIf false point address length old new text = Puts point address length old new text

abbrev pub IsInserted : Point → (address length : ℕ) → (old new : Target) → (text : List ℕ) → Type 0
IsInserted point address length old new text = IsInsertedIf (is_too_long point length) point address length old new text

-- ---- commands

-- What a command leaves of what GDB has chosen, and what it is answered if it chooses
abbrev pub Chooses : Target → Command → (new : Target) → (text : List ℕ) → Type 0
Chooses old (on.Choose thread resumes) new text = (p : Option ℕ) × IsMeant old thread p × IsChosen p thread resumes old new text
Chooses old (on.Insert point address length) new text = IsInserted point address length old new text
Chooses old (on.Remove point address length) new text = PointsAlone old new × IsTaken point address length old.points new.points × (text ≡ codes "OK")
Chooses old _ new text = new ≡ old
