-- What the words do to a session: words that look leave it as it was; the others send events, or go back.
use Rattle.std.specs.Prelude.{◌≡◌, ◌≢◌, ◌⊎◌, ◌≤◌, ◌<◌, ◌-◌, ℕ, Bool, true, false, List, [], map, take, drop, length, min, replicate, Option, None, Some, IfSome}
use Rattle.kernel_spec.specs.runs.Run as runs
use Rattle.kernel_spec.specs.runs.Run.{Event, Outcome}
use Rattle.xv_session.specs.Answers.{WentBack}
use Rattle.xv_session.specs.Recorded.{Recorded}
use Rattle.xv_session.specs.declared.until.Condition.TheVariants as waits_for
use Rattle.debug_words.specs.declared.vocabulary.TheConstants.{EVENTS_MOST}
use Rattle.debug_words.specs.declared.vocabulary.Goal.{Goal}
use Rattle.debug_words.specs.declared.vocabulary.Goal.TheVariants.{Call, Pc, Store, Fault, Exit, Line}
use Rattle.debug_words.specs.declared.vocabulary.Word as words
use Rattle.debug_words.specs.declared.vocabulary.Word.TheVariants.{Step, Next, Back, Goto, BackUntil, Until, Run, Tick, Key, Send, ToMark, Finish, Continue, Quit}
use Rattle.debug_words.specs.Ranges.{IsInRange}
use Rattle.xv_debug.specs.motion.Aims.{aim_in}
use Rattle.xv_report.specs.declared.sources.Sources.{Sources}
use Rattle.xv_debug.specs.motion.Finishing.{IsFinishAim}
use Rattle.xv_debug.specs.motion.Backwards.{GoesBackUntil}
use Rattle.xv_debug.specs.motion.Lines.{IsLineOf}
use Rattle.xv_debug.specs.declared.motion.aiming.Aim.{Aim}
use Rattle.xv_debug.specs.declared.motion.aiming.Aim.TheVariants.{Nothing, On}
use Rattle.xv_debug.specs.motion.Clock.{HasAhead, NoneAhead, events_to_tick}
use Rattle.xv_debug.specs.motion.Plan.{Planned}
use Rattle.xv_debug.specs.motion.Ran.{Ran}
use Rattle.xv_debug.specs.motion.Reaching.{Reaches, IsRefusal, IsRefusedBy, Test, met_from}
use Rattle.xv_debug.specs.motion.Resting.{RestsIf}
use Rattle.xv_debug.specs.motion.Rounds.{RoundsLeave}
use Rattle.xv_debug.specs.motion.Sent.{Sends}
use Rattle.xv_debug.specs.declared.motion.journey.Stop.{Stop}
use Rattle.xv_debug.specs.declared.motion.journey.Stop.TheVariants.{Done, Met, Broken}
use Rattle.xv_debug.specs.declared.motion.output.Output.{Output}
use Rattle.xv_debug.specs.Focus.{IsFocus}
use Rattle.xv_debug.specs.declared.debugger.Next as behind_words
use Rattle.xv_debug.specs.declared.debugger.Next.TheVariants as ends

-- ---- what a goal waits for

abbrev pub at : (pc : ℕ) → Option ℕ → Option Aim
at pc None = None
at pc (Some p) = Some (On (waits_for.At p pc))

abbrev pub IsAimOf : Goal → Recorded → Option Aim → Type 0
IsAimOf (Call number) s answer = answer ≡ Some (On (waits_for.Call number))
IsAimOf (Pc address pid) s answer = (p : Option ℕ) × IsFocus pid s p × (answer ≡ at address p)
IsAimOf (Store address) s answer = answer ≡ Some (On (waits_for.StoreTo address))
IsAimOf Fault s answer = answer ≡ Some (On waits_for.Fault)
IsAimOf Exit s answer = answer ≡ Some (On waits_for.Exit)
IsAimOf Line s answer = (p : Option ℕ) × IsFocus None s p × IsLineOf p s.machine.world answer

-- ---- what the words leave; `may_end` says whether they may be broken off, and `plan` by what the run goes on

-- So many Runs were sent, or fewer, where nobody may run, it was broken off, or the session keeps no more events; and it is known what came of the last
pub record Steps (may_end : Bool) (count : ℕ) (old new : Recorded) : Type 0 where
  pub stop : Stop
  pub sent : ℕ
  pub last : Option Outcome
  pub ran : Ran sent last old new
  pub within : sent ≤ count
  pub all : stop ≡ Done → sent ≡ count
  pub broken : stop ≡ Broken → may_end ≡ true
  pub fewer : stop ≡ Broken → sent < count
  pub unmet : stop ≢ Met
  pub rests : RestsIf stop new.machine.world
  pub reason : IsRefusedBy stop new

-- Events were sent by the plan, up to the first Run that is what is waited for; or fewer than that, where the record has no event, nobody may go on, none waits for a tick and no key is left, it was broken off, the session keeps no more events, or `most` were sent
pub record SearchesWithin (may_end : Bool) (plan : Planned) (test : Test) (most : ℕ) (old new : Recorded) : Type 0 where
  pub stop : Stop
  pub sent : ℕ
  pub last : Option Outcome
  pub had : Output
  pub has : Output
  pub reaches : Reaches may_end plan test most stop sent last old new had has

-- all that a word may send, at most
abbrev pub Searches : (may_end : Bool) → (plan : Planned) → Test → (old new : Recorded) → Type 0
Searches may_end plan test old new = SearchesWithin may_end plan test EVENTS_MOST old new

-- up to this aim; where there is none, all stays
abbrev pub SearchesAim : (may_end : Bool) → (plan : Planned) → Option Aim → Recorded → Recorded → Type 0
SearchesAim may_end plan None old new = new ≡ old
SearchesAim may_end plan (Some aim) old new = Searches may_end plan (met_from old aim []) old new

-- up to a goal
pub record SearchesGoal (may_end : Bool) (plan : Planned) (goal : Goal) (old new : Recorded) : Type 0 where
  pub aim : Option Aim
  pub is : IsAimOf goal old aim
  pub searches : SearchesAim may_end plan aim old new

-- up to the end of the function in which the process that runs is, if it is known where that is, by what is known of the sources of programs
pub record Finishes (may_end : Bool) (plan : Planned) (old new : Recorded) : Type 0 where
  pub known : Option Sources
  pub aim : Option Aim
  pub is : IfSome aim (IsFinishAim known old)
  pub searches : SearchesAim may_end plan aim old new

-- These events were sent, or the first of them, where it was broken off, or the session keeps no more
pub record SendsFirst (may_end : Bool) (wanted : ℕ → List Event) (all : ℕ) (old new : Recorded) : Type 0 where
  pub sent : ℕ
  pub stop : Stop
  pub last : Option Outcome
  pub had : Output
  pub has : Output
  pub sends : Sends (wanted sent) last old new had has
  pub within : sent ≤ all
  pub whole : stop ≡ Done → sent ≡ all
  pub broken : stop ≡ Broken → may_end ≡ true
  pub fewer : stop ≡ Broken → sent < all
  pub refused : IsRefusal stop
  pub reason : IsRefusedBy stop new

-- Rounds were played
pub record Plays (may_end : Bool) (plan : Planned) (most : ℕ) (old new : Recorded) : Type 0 where
  pub stop : Stop
  pub had : Output
  pub has : Output
  pub leaves : RoundsLeave may_end plan.quantum most stop old new had has

-- It has gone back by so many events, to the boot where there were fewer; or it is as it was, where it was broken off, or the host had too little memory
abbrev pub GoesBack : (count : ℕ) → Recorded → Recorded → Type 0
GoesBack count old new = (new ≡ old) ⊎ WentBack (length old.events - count) old new

-- Events were sent by the plan, so many, whatever came of them; or fewer than that, where no event comes next, it was broken off, or the session keeps no more
abbrev pub GoesOn : (may_end : Bool) → (plan : Planned) → (most : ℕ) → (old new : Recorded) → Type 0
GoesOn may_end plan most old new = SearchesWithin may_end plan (met_from old Nothing []) most old new

-- as many as lead to the place after so many events, or all that a word may send
abbrev pub GoesOnTo : (may_end : Bool) → (plan : Planned) → (place : ℕ) → (old new : Recorded) → Type 0
GoesOnTo may_end plan place old new = GoesOn may_end plan (min (place - length old.events) EVENTS_MOST) old new

-- the one, if the record has an event for the place where the run is, and else the other
abbrev pub ByRecord : (plan : Planned) → Recorded → (along apart : Type 0) → Type 0
ByRecord plan s along apart = (HasAhead plan.recorded s.events → along) × (NoneAhead plan.recorded s.events → apart)

-- how many events the record has for it
abbrev pub events_ahead : Planned → Recorded → ℕ
events_ahead plan s = length plan.recorded - length s.events

-- On a record as many of its events were sent, to its end at most; and else so many Runs
abbrev pub StepsOn : (may_end : Bool) → (plan : Planned) → (count : ℕ) → (old new : Recorded) → Type 0
StepsOn may_end plan count old new = ByRecord plan old (GoesOn may_end plan (min count (events_ahead plan old)) old new) (Steps may_end count old new)

-- how many events the record has for it up to so many Ticks from there on
abbrev pub events_to_ticks : Planned → (ticks : ℕ) → Recorded → ℕ
events_to_ticks plan ticks s = events_to_tick ticks (drop (length s.events) plan.recorded)

-- On a record its events up to so many Ticks were sent, or as many of them as a word may send; and else rounds were played
abbrev pub PlaysOn : (may_end : Bool) → (plan : Planned) → (rounds : ℕ) → (old new : Recorded) → Type 0
PlaysOn may_end plan rounds old new = ByRecord plan old (GoesOn may_end plan (min (events_to_ticks plan rounds old) EVENTS_MOST) old new) (Plays may_end plan rounds old new)

-- It has gone to the place after so many events: back, or on
pub record GoesTo (may_end : Bool) (plan : Planned) (place : ℕ) (old new : Recorded) : Type 0 where
  pub back : place ≤ length old.events → GoesBack (length old.events - place) old new
  pub ahead : length old.events < place → GoesOnTo may_end plan place old new

-- It has gone back to the last Run that was this aim, if there is one
abbrev pub GoesBackTo : Option Aim → Recorded → Recorded → Type 0
GoesBackTo None old new = new ≡ old
GoesBackTo (Some aim) old new = (new ≡ old) ⊎ ((taken : Option ℕ) × GoesBackUntil aim taken old new)

-- that was a goal; or it is as it was, where it was broken off, or the host had too little memory
pub record SeeksBack (goal : Goal) (old new : Recorded) : Type 0 where
  pub aim : Option Aim
  pub is : IsAimOf goal old aim
  pub goes : GoesBackTo aim old new

-- What a word leaves
abbrev pub Does : (may_end : Bool) → (plan : Planned) → words.Word → Recorded → Recorded → Type 0
Does may_end plan (Step count) old new = StepsOn may_end plan count old new
Does may_end plan Next old new = Searches may_end plan (met_from old (aim_in old.machine.world) []) old new
Does may_end plan (Until goal) old new = SearchesGoal may_end plan goal old new
Does may_end plan (Run rounds) old new = PlaysOn may_end plan rounds old new
Does may_end plan (Tick count) old new = SendsFirst may_end (λ n. replicate n runs.Tick) count old new
Does may_end plan (Send count) old new = SendsFirst may_end (λ n. replicate n runs.Send) count old new
Does may_end plan (Key keys) old new = SendsFirst false (λ n. map runs.Key (take n keys.items)) (length keys.items) old new
Does may_end plan (Back count) old new = GoesBack count old new
Does may_end plan (Goto place) old new = GoesTo may_end plan place old new
Does may_end plan (BackUntil goal) old new = SeeksBack goal old new
Does may_end plan (ToMark marks) old new = Searches may_end plan (met_from old (On waits_for.Fault) marks.items) old new
Does may_end plan Finish old new = Finishes may_end plan old new
Does may_end plan _ old new = new ≡ old

-- Where the host had too little memory for its answer, it may have done nothing
abbrev pub DoesOrStays : (may_end : Bool) → (plan : Planned) → words.Word → Recorded → Recorded → Type 0
DoesOrStays may_end plan word old new = (new ≡ old) ⊎ Does may_end plan word old new

-- ---- what a line leaves

-- what comes behind the answer to a word
abbrev pub next_of : words.Word → behind_words.Next
next_of Continue = ends.Continues
next_of Quit = ends.Ends
next_of _ = ends.Stays

-- What some word leaves whose numbers are in their ranges. A line that is no word is answered as the word Nothing is, which does nothing
pub record DoesSome (may_end : Bool) (plan : Planned) (old new : Recorded) : Type 0 where
  pub word : words.Word
  pub in_range : IsInRange word
  pub does : Does may_end plan word old new

-- and what comes behind its answer
pub record Obeys (may_end : Bool) (plan : Planned) (old new : Recorded) (next : behind_words.Next) : Type 0 where
  pub word : words.Word
  pub in_range : IsInRange word
  pub does : Does may_end plan word old new
  pub behind : next ≡ next_of word
