-- Worked cases of what the exit status says if a record is asked for, or none.
use Rattle.std.proofs.Common.{◌≡◌, ℕ, List, Option, None, Some, String, arith, inl, inr, refl}
use Rattle.std.specs.declared.alloc.Global.{Global}
use Rattle.xv_record.specs.declared.file.Record.{Record}
use Rattle.recorded_runs.specs.Asked.{IsWritten}
use Rattle.recorded_runs.specs.Cuts.{IsCutOfText}
use Rattle.recorded_runs.specs.Statuses.{IsAskedStatus, IsStatusOfReplay}
use Rattle.recorded_runs.specs.declared.words.Replay.{Replay}
use Rattle.recorded_runs.specs.declared.words.ReplayRefusal.{ReplayRefusal}
use Rattle.recorded_runs.specs.declared.words.ReplayRefusal.TheVariants.{NoRecord, NoNumber, Beside}
use Rattle.recorded_runs.specs.declared.words.ReplayWords.{ReplayWords}

-- no word is about a record
abbrev none_asked : ReplayWords
none_asked = record { path = None; at = None; beside = None }

-- a path alone
abbrev path_asked : (path : String Global) → ReplayWords
path_asked path = record { path = Some path; at = None; beside = None }

-- a number without a path
abbrev number_asked : (number : String Global) → ReplayWords
number_asked number = record { path = None; at = Some number; beside = None }

-- without a record a run is meant
a_run_is_meant : (of_run : Type 0) → IsAskedStatus none_asked 0 of_run (λ asked. ⊥) → of_run
a_run_is_meant of_run (inl (None, is, holds)) = holds
a_run_is_meant of_run (inl (Some asked, is, holds)) = absurd holds
a_run_is_meant of_run (inr (NoRecord, is, one)) = absurd (omega (arith, one))
a_run_is_meant of_run (inr (NoNumber text, is, one)) = absurd (omega (arith, one))
a_run_is_meant of_run (inr (Beside name, is, one)) = absurd (omega (arith, one))

none_written : (at : Option ℕ) → IsWritten None at → at ≡ None
none_written None is = refl
none_written (Some n) is = absurd is

-- with one no run is meant, and what is said is said of this record, all of it
the_record_is_meant : (path : String Global) (of_replay : Replay → Type 0) → IsAskedStatus (path_asked path) 0 ⊥ of_replay → (asked : Replay) × (asked.at ≡ None) × of_replay asked
the_record_is_meant path of_replay (inl (None, is, holds)) = absurd holds
the_record_is_meant path of_replay (inl (Some asked, is, holds)) = (asked, none_written asked.at is.2, holds)
the_record_is_meant path of_replay (inr (NoRecord, is, one)) = absurd (omega (arith, one))
the_record_is_meant path of_replay (inr (NoNumber text, is, one)) = absurd (omega (arith, one))
the_record_is_meant path of_replay (inr (Beside name, is, one)) = absurd (omega (arith, one))

-- words that are refused end with 1, and nothing is played or run
refused_words_end_with_1 : (number : String Global) → IsAskedStatus (number_asked number) 1 ⊥ (λ asked. ⊥)
refused_words_end_with_1 number = inr (NoRecord, (refl, refl), refl)

refused_words_are_no_success : (number : String Global) → IsAskedStatus (number_asked number) 0 ⊥ (λ asked. ⊥) → ⊥
refused_words_are_no_success number (inl (None, is, holds)) = holds
refused_words_are_no_success number (inl (Some asked, is, holds)) = holds
refused_words_are_no_success number (inr (why, is, one)) = absurd (omega (arith, one))

-- what was played are the events that were asked for
so_many_are_played : (trace : ℕ) (asked : Replay) (paths : List (String Global)) → IsStatusOfReplay 0 trace asked paths → (kept : Record) × IsCutOfText asked.at kept
so_many_are_played trace asked paths says = let played = says (λ e. absurd (omega (arith, e))) in (played.kept, played.cut)

-- of a host out of memory nothing is said
nothing_is_said_by_2 : (trace : ℕ) (asked : Replay) (paths : List (String Global)) → IsStatusOfReplay 2 trace asked paths
nothing_is_said_by_2 trace asked paths = λ other. absurd (other refl)
