-- The events that a record's lines stand for, and what it is to play them.
use Rattle.std.specs.Prelude.{◌≡◌, ℕ, List, [], ◌∷◌, flat_map, replicate, Option}
use Rattle.kernel_spec.specs.runs.Run as runs
use Rattle.kernel_spec.specs.runs.Run.{Event}
use Rattle.kernel_spec.specs.runs.Rounds.{events}
use Rattle.xv_record.specs.declared.line.Line.{Line}
use Rattle.xv_record.specs.declared.line.Line.TheVariants.{Run, Tick, Send, Key}
use Rattle.xv_session.specs.Recorded.{Recorded}
use Rattle.xv_live.specs.Shown.{Shown}

abbrev pub events_of_line : Line → List Event
events_of_line (Run n) = replicate n runs.Run
events_of_line (Tick n) = replicate n runs.Tick
events_of_line (Send n) = replicate n runs.Send
events_of_line (Key b) = runs.Key b ∷ []

abbrev pub events_of_lines : List Line → List Event
events_of_lines lines = flat_map events_of_line lines

-- just these events were sent; the session keeps them, and what they show was written
pub record Plays (wanted : List Event) (old new : Recorded) (screen screen_after : Option (List ℕ)) : Type 0 where
  pub shown : Shown old new screen screen_after
  pub those : events shown.list ≡ wanted
