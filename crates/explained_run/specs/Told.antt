-- What is told of a run, and what is counted: of its events, one after another.
use Rattle.std.specs.Prelude.{◌≡◌, ℕ, ◌+◌, length, Bool, true, List, [], ◌∷◌, ◌++◌, Ok}
use Rattle.kernel_spec.specs.runs.First.{first}
use Rattle.kernel_spec.specs.runs.Run.{World, Event, Outcome}
use Rattle.kernel_spec.specs.views.State.{ProgramFile}
use Rattle.kernel_spec.specs.waking.Wakes.{Promised}
use Rattle.xv_session.specs.Names.{asked_in, first_names, names_after}
use Rattle.xv_session.specs.declared.names.Named.{Named}
use Rattle.xv_session.specs.declared.running.Running.{Running}
use Rattle.explained_run.specs.Counts.{done_in, tallied}
use Rattle.explained_run.specs.Lines.{told}
use Rattle.explained_run.specs.Seen.{place_of}
use Rattle.explained_run.specs.declared.choice.Choice.{Choice}
use Rattle.explained_run.specs.declared.counts.Count.{Count}

-- So many events led to the world w. It goes on to t by these, each as promised; the programs that processes run go from `names` to `after`; this is told of the events, and this is done by them
abbrev pub ToldOf : Choice → (events : ℕ) → World → List Named → List (Event × Outcome) → World → List Named → (text : List ℕ) → (done : List Count) → Type 0
ToldOf choice events w names [] t after text done = (t ≡ w) × (after ≡ names) × (text ≡ []) × (done ≡ [])
ToldOf choice events w names (e ∷ es) t after text done =
    (mid : World) × (rest : List ℕ) × (more : List Count) × Promised w e.0 e.1 mid
    × ToldOf choice (events + 1) mid (names_after (asked_in w) e.1 names) es t after rest more
    × (text ≡ told choice (place_of events) w names e.1 mid.state ++ rest)
    × (done ≡ done_in choice w names (names_after (asked_in w) e.1 names) e.1 ++ more)

-- A machine was booted with so many frames, a trace of so many notes and these programs, and events, so many of them, have led it to where it stands. If the text is complete, it is what is told of these events; if the rows are, they tally what is done by the same events
pub record IsTold (choice : Choice) (r : Running) (at : ℕ) (complete : Bool) (text : List ℕ) (counted : Bool) (counts : List Count) : Type 0 where
  pub frames : ℕ
  pub trace : ℕ
  pub programs : List ProgramFile
  pub booted : World
  pub boots : first frames trace programs ≡ Ok booted
  pub list : List (Event × Outcome)
  pub said : List ℕ
  pub done : List Count
  pub count : at ≡ place_of (length list)
  pub told : ToldOf choice 0 booted (first_names programs) list r.machine.world r.names said done
  pub lines_are : complete ≡ true → text ≡ said
  pub rows_are : counted ≡ true → counts ≡ tallied choice [] done
