-- Which process a word looks at.
use Rattle.std.specs.Prelude.{◌≡◌, ℕ, Bool, true, false, is_some, Option, None, Some}
use Rattle.kernel_spec.specs.views.State.{State, live}
use Rattle.xv_session.specs.LastStep.{IsLastStep}
use Rattle.xv_session.specs.Recorded.{Recorded}
use Rattle.xv_session.specs.Names.{place_in}
use Rattle.debug_views.specs.Focus.{IsLeastFrom}
use Rattle.xv_report.specs.Locations.{IsSourceOf}
use Rattle.xv_report.specs.declared.sources.ProgramSource.{ProgramSource}
use Rattle.xv_report.specs.declared.sources.Sources.{Sources}

-- the one whose step was last, if it lives, else the one of the least pid
abbrev pub IsLastOrLeast : (lives : Bool) → (last : Option ℕ) → State → Option ℕ → Type 0
IsLastOrLeast true last s answer = answer ≡ last
IsLastOrLeast false last s answer = IsLeastFrom s 1 answer

abbrev pub lives_in : State → Option ℕ → Bool
lives_in s None = false
lives_in s (Some p) = is_some (live s p)

abbrev pub IsRunningOr : (current last : Option ℕ) → State → Option ℕ → Type 0
IsRunningOr (Some p) last s answer = answer ≡ Some p
IsRunningOr None last s answer = IsLastOrLeast (lives_in s last) last s answer

-- The one that runs; if nobody runs, that. The session's events alone settle which it is
abbrev pub IsUsual : Recorded → Option ℕ → Type 0
IsUsual s answer = (last : Option ℕ) × IsLastStep s last × IsRunningOr s.machine.world.turns.current last s.machine.world.state answer

-- the one that the word names; if it names none, that
abbrev pub IsFocus : (named : Option ℕ) → Recorded → Option ℕ → Type 0
IsFocus (Some p) s answer = answer ≡ Some p
IsFocus None s answer = IsUsual s answer

-- the place of the program that a process runs
abbrev pub place_of : Recorded → Option ℕ → Option ℕ
place_of s None = None
place_of s (Some p) = place_in p s.names

-- the program of the process that a word looks at which names none
abbrev pub IsProgramLookedAt : Recorded → (place : Option ℕ) → Type 0
IsProgramLookedAt s place = (p : Option ℕ) × IsFocus None s p × (place ≡ place_of s p)

-- this is known of that program's source
abbrev pub IsSourceLookedAt : Option Sources → Recorded → ProgramSource → Type 0
IsSourceLookedAt known s source = (place : Option ℕ) × IsProgramLookedAt s place × IsSourceOf known s.machine.world.state.programs place source
