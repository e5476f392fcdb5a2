-- What words do to a session: they add events behind those that it has got.
use Rattle.std.specs.Prelude.{◌≡◌, ℕ, List, ◌++◌, replicate}
use Rattle.kernel_spec.specs.runs.Run as runs
use Rattle.kernel_spec.specs.runs.Run.{Event}
use Rattle.xv_session.specs.Recorded.{Recorded}
use Rattle.xv_session.specs.Answers.{stands}

-- The machine got these events behind those that it had, and no other: it is what they lead to
abbrev pub Adds : List Event → Recorded → Recorded → Type 0
Adds list old new = new ≡ stands old (old.events ++ list) new.machine new.names

-- So many Runs
abbrev pub AddsRuns : (count : ℕ) → Recorded → Recorded → Type 0
AddsRuns count old new = Adds (replicate count runs.Run) old new
