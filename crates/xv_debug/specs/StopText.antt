-- What a word has sent, and why no more, as it is told.
use Rattle.std.specs.Prelude.{ℕ, Bool, true, false, List, [], ◌++◌, codes, decimal, Option, None, Some, option_map}
use Rattle.kernel_spec.specs.runs.Run.{Outcome}
use Rattle.xv_machine.specs.Events.{outcome_of}
use Rattle.xv_session.specs.declared.session.PlayError.{PlayError}
use Rattle.xv_session.specs.declared.session.PlayError.TheVariants as unplayed
use Rattle.xv_session.specs.declared.session.SessionError.{SessionError}
use Rattle.xv_session.specs.declared.session.SessionError.TheVariants.{Memory, Full}
use Rattle.debug_words.specs.Texts.{many}
use Rattle.debug_words.specs.declared.vocabulary.TheConstants.{EVENTS_MOST}
use Rattle.debug_words.specs.declared.vocabulary.Word.{Word}
use Rattle.debug_words.specs.declared.vocabulary.Word.TheVariants.{Step, Next, Until, Run, Finish, ToMark}
use Rattle.xv_debug.specs.declared.motion.journey.Journey.{Journey}
use Rattle.xv_debug.specs.declared.motion.journey.Stop.{Stop}
use Rattle.xv_debug.specs.declared.motion.journey.Stop.TheVariants.{Done, Met, Asleep, Halted, Broken, Refused}
use Rattle.xv_debug.specs.OutcomeText.{happened_text}

-- why the session took no more events
abbrev pub refusal_text : SessionError → List ℕ
refusal_text Memory = codes "the host has too little memory for more events\n"
refusal_text Full = codes "the session keeps 2^63 events, and no more\n"

-- where the rounds of the word `run` met what they stop at
abbrev pub met_text : Word → List ℕ
met_text (Run rounds) = codes "a process is gone by a fault: trace and back show more\n"
met_text _ = []

-- where a word has sent all that it may, and what it waits for hasn't come
abbrev pub not_yet : List ℕ
not_yet = codes "it has not come yet; a word sends " ++ decimal EVENTS_MOST ++ codes " events at most, and the same word goes on\n"

abbrev pub done_text : Word → List ℕ
done_text (Until goal) = not_yet
done_text Next = not_yet
done_text Finish = not_yet
done_text (ToMark marks) = not_yet
done_text _ = []

-- where a word was broken off
abbrev pub broken_text : List ℕ
broken_text = codes "it was broken off here: what was sent stays, and back goes back\n"

-- where all processes sleep: a word that goes by the clock stops there only if none sleeps up to a tick
abbrev pub asleep_text : Word → List ℕ
asleep_text (Step count) = codes "all processes sleep: tick moves the clock, key types\n"
asleep_text _ = codes "all processes sleep, and no tick wakes one: key types\n"

-- why a word sent no more
abbrev pub stop_text : Word → Stop → List ℕ
stop_text word Asleep = asleep_text word
stop_text word Halted = codes "the machine has halted: nothing runs any more, but back goes back\n"
stop_text word Broken = broken_text
stop_text word (Refused error) = refusal_text error
stop_text word Met = met_text word
stop_text word Done = done_text word

abbrev pub last_text : Option Outcome → List ℕ
last_text None = codes "\n"
last_text (Some o) = codes "; the last: " ++ happened_text o ++ codes "\n"

-- how many events a word has sent, what came of the last, and why no more
abbrev pub journey_text : Word → (sent : ℕ) → Stop → (last : Option Outcome) → List ℕ
journey_text word sent stop last = many sent (codes "event") ++ last_text last ++ stop_text word stop

-- and so of a journey
abbrev pub told_journey : Word → Journey → List ℕ
told_journey word j = journey_text word j.sent j.stop (option_map outcome_of j.last)

-- where it isn't known where a function ends
abbrev pub no_return : List ℕ
no_return = codes "no process runs whose function has a known return address: bt tells more\n"

-- how many events were taken back
abbrev pub back_text : (taken : ℕ) → List ℕ
back_text taken = many taken (codes "event") ++ codes " back\n"

-- where the record that a run was on has no event for it any more: a word that goes by the plan has come past its end; another one has sent an event that isn't the record's
abbrev pub off_text : (by_plan : Bool) → (recorded : ℕ) → List ℕ
off_text true recorded = codes "the record is over after " ++ many recorded (codes "event") ++ codes ": from there on the run has gone by the clock\n"
off_text false recorded = codes "the run has left the record: back leads onto it again\n"

-- why a word didn't go back
abbrev pub unplayed_text : PlayError → List ℕ
unplayed_text unplayed.Broken = codes "it was broken off, and nothing is changed\n"
unplayed_text unplayed.Memory = refusal_text Memory

-- where a goal never came before
abbrev pub never : List ℕ
never = codes "it never came before this place, and nothing is changed\n"
