-- What the answer to a word tells: what the word did, and where the run is then; or what it looks at.
use Rattle.std.specs.Prelude.{◌≡◌, ◌⊎◌, ◌-◌, ◌<◌, ◌≤◌, ℕ, Bool, false, List, [], ◌++◌, map, take, length, min, replicate, Option, None, Some, IfSome}
use Rattle.circular_buffer.specs.Buffer.{buffer}
use Rattle.kernel_spec.specs.runs.Run as runs
use Rattle.kernel_spec.specs.runs.Run.{Event, Outcome}
use Rattle.xv_session.specs.Answers.{IsUnplayedBy, WentBack}
use Rattle.xv_session.specs.Recorded.{Recorded}
use Rattle.xv_session.specs.declared.session.PlayError.{PlayError}
use Rattle.xv_session.specs.declared.until.Condition.TheVariants.{Fault}
use Rattle.debug_words.specs.declared.vocabulary.TheConstants.{EVENTS_MOST}
use Rattle.debug_words.specs.declared.vocabulary.Goal.{Goal}
use Rattle.debug_words.specs.declared.vocabulary.Word.{Word}
use Rattle.debug_words.specs.declared.vocabulary.Word.TheVariants.{Step, Next, Back, Goto, BackUntil, Until, Run, Tick, Key, Send, ToMark, Finish}
use Rattle.debug_views.specs.Written.{Writes}
use Rattle.xv_debug.specs.motion.Aims.{aim_in}
use Rattle.xv_report.specs.declared.sources.Sources.{Sources}
use Rattle.xv_debug.specs.motion.Finishing.{IsFinishAim}
use Rattle.xv_debug.specs.motion.Backwards.{GoesBackUntil}
use Rattle.xv_debug.specs.declared.motion.aiming.Aim.{Aim}
use Rattle.xv_debug.specs.declared.motion.aiming.Aim.TheVariants.{Nothing, On}
use Rattle.xv_debug.specs.motion.Plan.{Planned}
use Rattle.xv_debug.specs.motion.Reaching.{Test, met_from}
use Rattle.xv_debug.specs.declared.motion.journey.Stop.{Stop}
use Rattle.xv_debug.specs.declared.motion.output.Output.{Output}
use Rattle.xv_debug.specs.Effects.{ByRecord, IsAimOf, Plays, SearchesWithin, SendsFirst, Steps, events_ahead, events_to_ticks}
use Rattle.xv_debug.specs.LookText.{Shows}
use Rattle.xv_debug.specs.OutputText.{output_text}
use Rattle.xv_debug.specs.ReasonText.{IsReasonText}
use Rattle.xv_debug.specs.StopText.{back_text, journey_text, never, no_return, unplayed_text}
use Rattle.xv_debug.specs.WhereText.{IsWhereOf, nobody}

-- ---- words that send events

-- How many events were sent, what came of the last, and why no more; why the last was a refused call; what the console showed of them; and where the run is now
abbrev pub IsSentText : Word → Recorded → (sent : ℕ) → Stop → Option Outcome → (shown : List ℕ) → List ℕ → Type 0
IsSentText word s sent stop o shown text =
    (why : List ℕ) × IsReasonText s o why × ((rest : List ℕ) × IsWhereOf s None rest × (text ≡ journey_text word sent stop o ++ (why ++ (shown ++ rest))))

abbrev pub StepTells : (may_end : Bool) → Word → (count : ℕ) → (old new : Recorded) → (before after : List ℕ) → Type 0
StepTells may_end word count old new before after = (d : Steps may_end count old new) × Writes before after (IsSentText word new d.sent d.stop d.last [])

-- nothing was shown yet
abbrev pub IsEmpty : Output → Type 0
IsEmpty o = (o.last ≡ buffer [] 512) × (o.count ≡ 0)

abbrev pub SearchTellsWithin : (may_end : Bool) → (plan : Planned) → Word → Test → (most : ℕ) → (old new : Recorded) → (before after : List ℕ) → Type 0
SearchTellsWithin may_end plan word test most old new before after =
    (d : SearchesWithin may_end plan test most old new) × IsEmpty d.had × Writes before after (IsSentText word new d.sent d.stop d.last (output_text d.has))

abbrev pub SearchTells : (may_end : Bool) → (plan : Planned) → Word → Test → (old new : Recorded) → (before after : List ℕ) → Type 0
SearchTells may_end plan word test old new before after = SearchTellsWithin may_end plan word test EVENTS_MOST old new before after

-- of events that came by the plan, so many at most, whatever came of them
abbrev pub GoesOnTells : (may_end : Bool) → (plan : Planned) → Word → (most : ℕ) → (old new : Recorded) → (before after : List ℕ) → Type 0
GoesOnTells may_end plan word most old new before after = SearchTellsWithin may_end plan word (met_from old Nothing []) most old new before after

-- where there is no process of which it is asked, or it isn't known where the function ends, none is sent
abbrev pub AimTells : (may_end : Bool) → (plan : Planned) → Word → Option Aim → (why : List ℕ) → (old new : Recorded) → (before after : List ℕ) → Type 0
AimTells may_end plan word None why old new before after = (new ≡ old) × (after ≡ before ++ why)
AimTells may_end plan word (Some aim) why old new before after = SearchTells may_end plan word (met_from old aim []) old new before after

abbrev pub GoalTells : (may_end : Bool) → (plan : Planned) → Word → Goal → (old new : Recorded) → (before after : List ℕ) → Type 0
GoalTells may_end plan word goal old new before after = (aim : Option Aim) × IsAimOf goal old aim × AimTells may_end plan word aim nobody old new before after

abbrev pub FinishTells : (known : Option Sources) → (may_end : Bool) → (plan : Planned) → Word → (old new : Recorded) → (before after : List ℕ) → Type 0
FinishTells known may_end plan word old new before after = (aim : Option Aim) × IfSome aim (IsFinishAim known old) × AimTells may_end plan word aim no_return old new before after

abbrev pub SendsTell : (may_end : Bool) → Word → (wanted : ℕ → List Event) → (all : ℕ) → (old new : Recorded) → (before after : List ℕ) → Type 0
SendsTell may_end word wanted all old new before after =
    (d : SendsFirst may_end wanted all old new) × IsEmpty d.had × Writes before after (IsSentText word new d.sent d.stop d.last (output_text d.has))

-- of rounds nothing is told here of what came of the last event
abbrev pub RoundsTell : (may_end : Bool) → (plan : Planned) → Word → (rounds : ℕ) → (old new : Recorded) → (before after : List ℕ) → Type 0
RoundsTell may_end plan word rounds old new before after =
    (d : Plays may_end plan rounds old new) × IsEmpty d.had
    × ((o : Option Outcome) × Writes before after (IsSentText word new (length new.events - length old.events) d.stop o (output_text d.has)))

-- on a record of its events, and else of Runs, or of rounds
abbrev pub StepsOnTell : (may_end : Bool) → (plan : Planned) → Word → (count : ℕ) → (old new : Recorded) → (before after : List ℕ) → Type 0
StepsOnTell may_end plan word count old new before after =
    ByRecord plan old (GoesOnTells may_end plan word (min count (events_ahead plan old)) old new before after) (StepTells may_end word count old new before after)

abbrev pub PlaysOnTell : (may_end : Bool) → (plan : Planned) → Word → (rounds : ℕ) → (old new : Recorded) → (before after : List ℕ) → Type 0
PlaysOnTell may_end plan word rounds old new before after =
    ByRecord plan old (GoesOnTells may_end plan word (min (events_to_ticks plan rounds old) EVENTS_MOST) old new before after) (RoundsTell may_end plan word rounds old new before after)

-- ---- the word that goes back

-- how many events were taken back, and where the run is now
abbrev pub IsBackText : Recorded → (taken : ℕ) → List ℕ → Type 0
IsBackText s taken text = (rest : List ℕ) × IsWhereOf s None rest × (text ≡ back_text taken ++ rest)

-- It is as it was, and tells that it was broken off, which may happen, or that the host has too little memory
abbrev pub StaysTelling : (may_end : Bool) → (old new : Recorded) → (before after : List ℕ) → Type 0
StaysTelling may_end old new before after = (why : PlayError) × IsUnplayedBy may_end why × (new ≡ old) × (after ≡ before ++ unplayed_text why)

-- It has gone back by so many events, or to the boot, and tells by how many; or it stays
abbrev pub BackTells : (may_end : Bool) → (count : ℕ) → (old new : Recorded) → (before after : List ℕ) → Type 0
BackTells may_end count old new before after =
    (WentBack (length old.events - count) old new × Writes before after (IsBackText new (min count (length old.events)))) ⊎ StaysTelling may_end old new before after

-- It has gone to the place after so many events, back or on, and tells by how many
pub record GotoTells (may_end : Bool) (plan : Planned) (word : Word) (place : ℕ) (old new : Recorded) (before after : List ℕ) : Type 0 where
  pub back : place ≤ length old.events → BackTells may_end (length old.events - place) old new before after
  pub ahead : length old.events < place → GoesOnTells may_end plan word (min (place - length old.events) EVENTS_MOST) old new before after

-- it tells by how many events, or that there is no such place; or it stays
abbrev pub IsBackUntilText : Recorded → (taken : Option ℕ) → List ℕ → Type 0
IsBackUntilText s None text = text ≡ never
IsBackUntilText s (Some taken) text = IsBackText s taken text

abbrev pub BackUntilTells : (may_end : Bool) → Aim → (old new : Recorded) → (before after : List ℕ) → Type 0
BackUntilTells may_end aim old new before after =
    ((taken : Option ℕ) × GoesBackUntil aim taken old new × Writes before after (IsBackUntilText new taken)) ⊎ StaysTelling may_end old new before after

abbrev pub BackToTells : (may_end : Bool) → Option Aim → (old new : Recorded) → (before after : List ℕ) → Type 0
BackToTells may_end None old new before after = (new ≡ old) × (after ≡ before ++ nobody)
BackToTells may_end (Some aim) old new before after = BackUntilTells may_end aim old new before after

abbrev pub SeekBackTells : (may_end : Bool) → Goal → (old new : Recorded) → (before after : List ℕ) → Type 0
SeekBackTells may_end goal old new before after = (aim : Option Aim) × IsAimOf goal old aim × BackToTells may_end aim old new before after

-- ---- all words

-- What is written behind an answer, of the session as the word found it and as it left it; `shown` is where the memory that was shown last ends, `known` is what is known of the sources of programs, `may_end` says whether the word may be broken off, and `plan` by what the run goes on
abbrev pub Answers : (known : Option Sources) → (may_end : Bool) → (plan : Planned) → (shown : ℕ) → Word → (old new : Recorded) → (before after : List ℕ) → Type 0
Answers known may_end plan shown (Step count) old new before after = StepsOnTell may_end plan (Step count) count old new before after
Answers known may_end plan shown Next old new before after = SearchTells may_end plan Next (met_from old (aim_in old.machine.world) []) old new before after
Answers known may_end plan shown (Until goal) old new before after = GoalTells may_end plan (Until goal) goal old new before after
Answers known may_end plan shown (Run rounds) old new before after = PlaysOnTell may_end plan (Run rounds) rounds old new before after
Answers known may_end plan shown (Tick count) old new before after = SendsTell may_end (Tick count) (λ n. replicate n runs.Tick) count old new before after
Answers known may_end plan shown (Send count) old new before after = SendsTell may_end (Send count) (λ n. replicate n runs.Send) count old new before after
Answers known may_end plan shown (Key keys) old new before after = SendsTell false (Key keys) (λ n. map runs.Key (take n keys.items)) (length keys.items) old new before after
Answers known may_end plan shown (ToMark marks) old new before after = SearchTells may_end plan (ToMark marks) (met_from old (On Fault) marks.items) old new before after
Answers known may_end plan shown Finish old new before after = FinishTells known may_end plan Finish old new before after
Answers known may_end plan shown (BackUntil goal) old new before after = SeekBackTells may_end goal old new before after
Answers known may_end plan shown (Back count) old new before after = BackTells may_end count old new before after
Answers known may_end plan shown (Goto place) old new before after = GotoTells may_end plan (Goto place) place old new before after
Answers known may_end plan shown word old new before after = Shows shown old word before after
