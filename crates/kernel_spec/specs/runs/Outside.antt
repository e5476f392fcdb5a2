-- What every process sees of an event that is no step.
use Rattle.std.specs.Prelude.{◌+◌, ◌%◌}
use Rattle.console_core.specs.Keys.{line}
use Rattle.kernel_spec.specs.views.View.{View}
use Rattle.kernel_spec.specs.runs.Run.{Event, Run, Tick, Key, Send, sent}
use Rattle.kernel_spec.specs.views.Words.{CLOCK_ROUND}

-- what every process sees of an event that is no step: a tick changes the clock, a key and a byte that is sent the console, a turn nothing; a byte is sent on a halted machine too
abbrev pub seen_outside : Event → View → View
seen_outside Run v = v
seen_outside Tick v = record v { clock = (v.clock + 1) % CLOCK_ROUND }
seen_outside (Key b) v = record v { console = (line v.console b).0 }
seen_outside Send v = record v { console = sent v.console }
