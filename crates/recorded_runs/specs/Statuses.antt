-- What the exit status says of a program that plays a record, if one is asked for, and else runs programs in rounds.
use Rattle.std.specs.Prelude.{◌≡◌, ◌≢◌, ◌⊎◌, ℕ, List, Option, None, Some, String, map}
use Rattle.std.specs.declared.alloc.Global.{Global}
use Rattle.kernel_spec.specs.views.State.{named_file}
use Rattle.program_files.specs.Programs.{AreProgramsIn}
use Rattle.xk_base.specs.declared.program.Program.{Program}
use Rattle.xv_record.specs.Chosen.{AreThere}
use Rattle.xv_record.specs.Told.{program_told, told_program}
use Rattle.xv_record.specs.declared.file.Record.{Record}
use Rattle.recorded_runs.specs.Asked.{IsAsked, IsRefused}
use Rattle.recorded_runs.specs.Cuts.{IsCutOfText, events_in}
use Rattle.recorded_runs.specs.Replays.{SaysReplay, Screen}
use Rattle.recorded_runs.specs.declared.words.Replay.{Replay}
use Rattle.recorded_runs.specs.declared.words.ReplayRefusal.{ReplayRefusal}
use Rattle.recorded_runs.specs.declared.words.ReplayWords.{ReplayWords}

-- A record was read, up to the event that is asked for. Its programs are there among those of the FILEs of these paths; they were booted as the record says, and the exit status says what came of its events
pub record PlayedAsked (status trace : ℕ) (asked : Replay) (paths : List (String Global)) : Type 0 where
  pub kept : Record
  pub cut : IsCutOfText asked.at kept
  pub files : List Program
  pub are_files : AreProgramsIn paths files
  pub are_there : AreThere files kept.programs.items
  pub programs : List Program
  pub recorded : map program_told programs ≡ map told_program kept.programs.items
  pub before : Screen
  pub after : Screen
  pub says : SaysReplay status kept.frames trace (map named_file programs) (events_in kept) before after

-- What the exit status says of a record that is asked for: any but 2 that it was played so
abbrev pub IsStatusOfReplay : (status trace : ℕ) → Replay → (paths : List (String Global)) → Type 0
IsStatusOfReplay status trace asked paths = status ≢ 2 → PlayedAsked status trace asked paths

-- what is meant: a run in rounds if no record is asked for, and else this of the record
abbrev pub Meant : (of_run : Type 0) → (of_replay : Replay → Type 0) → Option Replay → Type 0
Meant of_run of_replay None = of_run
Meant of_run of_replay (Some asked) = of_replay asked

-- What the exit status says if these are the words about a record: what is meant by what they ask for, or 1, that they are refused
abbrev pub IsAskedStatus : ReplayWords → (status : ℕ) → (of_run : Type 0) → (of_replay : Replay → Type 0) → Type 0
IsAskedStatus words status of_run of_replay =
    ((asked : Option Replay) × IsAsked words asked × Meant of_run of_replay asked)
    ⊎ ((why : ReplayRefusal) × IsRefused words why × (status ≡ 1))
