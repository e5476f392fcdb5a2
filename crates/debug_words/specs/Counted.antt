-- Words behind which a number may stand.
use Rattle.std.specs.Prelude.{ℕ}
use Rattle.debug_words.specs.declared.reading.Counted.{Counted}
use Rattle.debug_words.specs.declared.reading.Counted.TheVariants.{Step, Run, Tick, Send, Processes, Trace}
use Rattle.debug_words.specs.declared.vocabulary.TheConstants.{EVENTS_MOST, ROUNDS_MOST, OFTEN_MOST, NOTES_MOST}
use Rattle.xk_base.specs.declared.limits.TheConstants.{PID_MAX}

-- the greatest number that may stand there
abbrev pub most_of : Counted → ℕ
most_of Step = EVENTS_MOST
most_of Run = ROUNDS_MOST
most_of Tick = OFTEN_MOST
most_of Send = OFTEN_MOST
most_of Processes = PID_MAX
most_of Trace = NOTES_MOST
