-- The run that GDB begins with.
use Rattle.std.specs.Prelude.{◌≡◌, ◌⊎◌, ℕ, ◌<◌, ◌≤◌, nat_lt, Bool, false, not, if◌then◌else◌, List, [], ◌∷◌, ◌++◌, length, map, position, slice_get, Option, None, Some, option_map, unwrap_or, String, bytes_eq, codes, decimal, string_bytes}
use Rattle.std.specs.List.{concat}
use Rattle.std.specs.declared.alloc.Global.{Global}
use Rattle.kernel_spec.specs.views.State.{ProgramFile, named_file}
use Rattle.program_files.specs.Programs.{AreProgramsIn}
use Rattle.recorded_runs.specs.Cuts.{IsOfText}
use Rattle.recorded_runs.specs.declared.words.Replay.{Replay}
use Rattle.recorded_runs.specs.Places.{paths_at, places_of}
use Rattle.xk_base.specs.declared.program.Program.{Program}
use Rattle.xv_live.specs.Plays.{events_of_lines}
use Rattle.xv_record.specs.Told.{program_told, told_program}
use Rattle.xv_record.specs.declared.file.Record.{Record}
use Rattle.gdb_packets.specs.declared.answers.StopReason.TheVariants.{Trap}
use Rattle.gdb_target.specs.Choices.{IsAlive}
use Rattle.gdb_target.specs.Plan.{Planned}
use Rattle.gdb_target.specs.SameRun.{IsBeforeEnd, beginning, ended_with}
use Rattle.gdb_target.specs.Told.{state_of}
use Rattle.gdb_target.specs.declared.played.Played.{Played}
use Rattle.gdb_target.specs.declared.rounds.Rounds.{Rounds}
use Rattle.gdb_target.specs.declared.service.beginning.Beginning.{Beginning}
use Rattle.gdb_target.specs.declared.service.beginning.NamedFile.{NamedFile}
use Rattle.gdb_target.specs.declared.service.command_line.Settings.{Settings}
use Rattle.gdb_target.specs.declared.target.Target.{Target}

-- ---- the program that GDB has the symbols of

-- the program has this name
abbrev pub is_named : (name : List ℕ) → Program → Bool
is_named name p = bytes_eq p.name.items name

-- the first program that isn't `init`, or the first of all
abbrev pub first_other : List Program → ℕ
first_other programs = unwrap_or (position (λ (p : Program). not (is_named (codes "init") p)) programs) 0

-- the first of the name, if one is given; or else the first that isn't `init`
abbrev pub known : List Program → (name : Option (List ℕ)) → Option ℕ
known programs None = Some (first_other programs)
known programs (Some name) = position (is_named name) programs

-- It is that program, and the path at its place
pub record IsKnownBy (name : Option (String Global)) (programs : List Program) (paths : List (List ℕ)) (file : NamedFile) : Type 0 where
  pub program : known programs (option_map string_bytes name) ≡ Some file.program
  pub path : string_bytes file.path ≡ unwrap_or (slice_get paths file.program) []

-- ---- with what a run begins

-- of a record of so many events: its end, or the place after its first events, so many
abbrev pub IsPlaceIn : (count : ℕ) → (at : Option ℕ) → (place : ℕ) → Type 0
IsPlaceIn count None place = place ≡ count
IsPlaceIn count (Some n) place = (place ≡ n) × (n ≤ count)

-- more events are asked for than the record has
abbrev pub IsBeyond : (count : ℕ) → (at : Option ℕ) → Type 0
IsBeyond count None = ⊥
IsBeyond count (Some n) = count < n

-- The frames and the programs are those that were recorded; the events are the record's, and then those of the rounds; and GDB begins at the record's end, or after its first events
pub record IsBeginningOf (recorded : Record) (at : Option ℕ) (rounds : Rounds) (begin : Beginning) : Type 0 where
  pub frames : begin.frames ≡ recorded.frames
  pub programs : map program_told begin.programs.items ≡ map told_program recorded.programs.items
  pub plan : begin.plan ≡ record { recorded = events_of_lines recorded.events.items; keys = rounds.keys.items; quantum = rounds.quantum }
  pub place : IsPlaceIn (length (events_of_lines recorded.events.items)) at begin.place

-- Without a record the frames are those that were asked for, the programs those of the FILEs; the events are those of the rounds, and GDB begins at the boot
pub record IsAtBoot (settings : Settings) (rounds : Rounds) (begin : Beginning) : Type 0 where
  pub frames : begin.frames ≡ settings.frames
  pub programs : AreProgramsIn settings.files.items begin.programs.items
  pub file : IsKnownBy settings.file begin.programs.items (map string_bytes settings.files.items) begin.file
  pub plan : begin.plan ≡ record { recorded = []; keys = rounds.keys.items; quantum = rounds.quantum }
  pub place : begin.place ≡ 0

-- ---- keys

-- a line, and its end
abbrev pub line_typed : Option (String Global) → List ℕ
line_typed None = []
line_typed (Some line) = string_bytes line ++ 10 ∷ []

-- The keys are those of a file, none if no file is named, and after them the line that is given
pub record AreKeys (settings : Settings) (keys : List ℕ) : Type 0 where
  pub first : List ℕ
  pub none : settings.keys ≡ None → first ≡ []
  pub keys_are : keys ≡ first ++ line_typed settings.line

-- ---- the target

-- The run of these frames and programs, and with this plan, has come to the place; or, if process 1 ends before it, to where that happens next. Process 1 hasn't ended
pub record Begins (frames : ℕ) (programs : List ProgramFile) (plan : Planned) (place : ℕ) (run : Played) : Type 0 where
  pub is : beginning run ≡ record { frames = frames; trace = 0; programs = programs; plan = plan }
  pub there : (length run.session.events ≡ place) ⊎ IsBeforeEnd run
  pub goes_on : ended_with run ≡ None
  pub within : length run.session.events ≤ place

-- Nothing is chosen yet: there is no point, all are let run, and no interrupt came. What the console showed up to here isn't told, and no fault and no end was told
pub record IsFresh (t : Target) : Type 0 where
  pub breakpoints : t.points.breakpoints.items ≡ []
  pub watched : t.points.watched.items ≡ []
  pub resumed : t.resumed ≡ None
  pub interrupted : t.interrupted ≡ false
  pub shown : t.shown.items ≡ []
  pub noted : t.noted ≡ length t.run.session.events
  pub told : t.told ≡ None

-- A target that is told to have stopped for no other reason than a trap, at a process that lives; GDB knows the program by the file of this path
pub record IsTakenUp (program : ℕ) (path : List ℕ) (most : ℕ) (t : Target) : Type 0 where
  pub program_is : t.program ≡ program
  pub path_is : string_bytes t.path ≡ path
  pub most_is : t.most ≡ most
  pub reason : t.stopped.reason ≡ Trap
  pub lives : IsAlive (state_of t) t.stopped.pid
  pub looked_at : t.looked_at ≡ t.stopped.pid
  pub fresh : IsFresh t

-- The target of a run with this beginning, at the place at which GDB begins
pub record IsTargetOf (begin : Beginning) (most : ℕ) (t : Target) : Type 0 where
  pub begins : Begins begin.frames (map named_file begin.programs.items) begin.plan begin.place t.run
  pub taken_up : IsTakenUp begin.file.program (string_bytes begin.file.path) most t

-- It is that of a record, which some text has; each of its programs is that of the first FILE with the name
pub record IsReplayed (settings : Settings) (at : Option ℕ) (rounds : Rounds) (t : Target) : Type 0 where
  pub kept : Record
  pub text : IsOfText kept
  pub given : List Program
  pub files : AreProgramsIn settings.files.items given
  pub begin : Beginning
  pub of_record : IsBeginningOf kept at rounds begin
  pub file : IsKnownBy settings.file begin.programs.items (paths_at settings.files.items (places_of given kept.programs.items)) begin.file
  pub target : IsTargetOf begin settings.most t

-- It is that of the FILEs, at their boot
pub record IsBooted (settings : Settings) (rounds : Rounds) (t : Target) : Type 0 where
  pub begin : Beginning
  pub at_boot : IsAtBoot settings rounds begin
  pub target : IsTargetOf begin settings.most t

abbrev pub IsOf : Settings → Option Replay → Rounds → Target → Type 0
IsOf settings None rounds t = IsBooted settings rounds t
IsOf settings (Some replay) rounds t = IsReplayed settings replay.at rounds t

-- The target that the settings ask for: of the record, if one is to be played. Its rounds have the keys and the Runs that are asked for
pub record IsBegun (settings : Settings) (replay : Option Replay) (t : Target) : Type 0 where
  pub rounds : Rounds
  pub keys : AreKeys settings rounds.keys.items
  pub quantum : rounds.quantum ≡ settings.quantum
  pub target : IsOf settings replay rounds t

-- ---- what is told

-- that process 1 ends before the place that was asked for
abbrev pub end_note : (at place : ℕ) → List ℕ
end_note at place = if nat_lt at place then codes ", before init ends" else []

-- that GDB begins after so many of a record's events
abbrev pub note_of : (path : List ℕ) (at count : ℕ) (ends : List ℕ) → List ℕ
note_of path at count ends = concat (codes "xv_gdb: " ∷ path ∷ codes ": GDB begins after " ∷ decimal at ∷ codes " of its " ∷ decimal count ∷ codes " events" ∷ ends ∷ codes "\n" ∷ [])
