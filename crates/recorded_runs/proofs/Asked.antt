-- What the exit status says of a record that was asked for.
use Rattle.std.proofs.Common.{◌≡◌, ℕ, List, String, map}
use Rattle.std.specs.declared.alloc.Global.{Global}
use Rattle.kernel_spec.specs.views.State.{named_file}
use Rattle.program_files.specs.Programs.{AreProgramsIn}
use Rattle.xk_base.specs.declared.program.Program.{Program}
use Rattle.xv_record.specs.Chosen.{AreThere}
use Rattle.xv_record.specs.Told.{program_told, told_program}
use Rattle.xv_record.specs.declared.file.Record.{Record}
use Rattle.recorded_runs.specs.Cuts.{IsCutOfText, events_in}
use Rattle.recorded_runs.specs.Replays.{SaysReplay, Screen}
use Rattle.recorded_runs.specs.Statuses.{IsStatusOfReplay}
use Rattle.recorded_runs.specs.declared.words.Replay.{Replay}

-- the record was played
pub replayed : (status trace : ℕ) (asked : Replay) (paths : List (String Global)) (kept : Record) (files programs : List Program) (before after : Screen)
    → IsCutOfText asked.at kept → AreProgramsIn paths files → AreThere files kept.programs.items → map program_told programs ≡ map told_program kept.programs.items
    → SaysReplay status kept.frames trace (map named_file programs) (events_in kept) before after → IsStatusOfReplay status trace asked paths
replayed status trace asked paths kept files programs before after cut are there recorded says = λ other. record {
  kept = kept;
  cut = cut;
  files = files;
  are_files = are;
  are_there = there;
  programs = programs;
  recorded = recorded;
  before = before;
  after = after;
  says = says;
}

-- or it wasn't
pub unplayed : (status trace : ℕ) (asked : Replay) (paths : List (String Global)) → status ≡ 2 → IsStatusOfReplay status trace asked paths
unplayed status trace asked paths two = λ other. absurd (other two)
