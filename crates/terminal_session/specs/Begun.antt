-- What the session of a conversation has got before the first word, and by what it goes on.
use Rattle.std.specs.Prelude.{◌≡◌, ℕ, [], Option, None, Some, map, ⊤}
use Rattle.recorded_runs.specs.Cuts.{IsCutOf, IsOfText, events_in}
use Rattle.recorded_runs.specs.declared.words.Replay.{Replay}
use Rattle.xv_debug.specs.motion.Plan.{Planned}
use Rattle.xv_record.specs.Told.{told_program}
use Rattle.xv_record.specs.declared.file.Record.{Record}
use Rattle.xv_session.specs.Recorded.{Recorded}
use Rattle.terminal_session.specs.Records.{told_file}
use Rattle.terminal_session.specs.declared.debugging.FollowedRecord.{FollowedRecord}

-- Some text has a record: these are all of its events, and the first of them, so many, or all
pub record IsFollowed (at : Option ℕ) (followed : FollowedRecord) : Type 0 where
  pub whole : Record
  pub text : IsOfText whole
  pub cut : IsCutOf at whole followed.kept
  pub events : followed.events ≡ events_in whole

-- if one is asked for
abbrev pub IsFollowedIf : Option Replay → Option FollowedRecord → Type 0
IsFollowedIf None None = ⊤
IsFollowedIf (Some asked) (Some followed) = IsFollowed asked.at followed
IsFollowedIf _ _ = ⊥

-- A machine of the record's frames and programs was booted, and it has got just the record's events, in order. (That it stands where they lead is true of each session.)
pub record IsOfRecord (r : Record) (s : Recorded) : Type 0 where
  pub frames : s.frames ≡ r.frames
  pub programs : map told_file s.programs ≡ map told_program r.programs.items
  pub events : s.events ≡ events_in r

-- With a record it has got the first of its events, and goes on by all of them; without one it has got no event
abbrev pub IsBegunBy : Option FollowedRecord → Planned → Recorded → Type 0
IsBegunBy None plan s = (s.events ≡ []) × (plan.recorded ≡ [])
IsBegunBy (Some followed) plan s = IsOfRecord followed.kept s × (plan.recorded ≡ followed.events)
