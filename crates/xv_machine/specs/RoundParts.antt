-- A round, part by part.
use Rattle.std.specs.Prelude.{List, flat_map, replicate}
use Rattle.kernel_spec.specs.runs.Run as runs
use Rattle.xv_machine.specs.Events.{event_of}
use Rattle.xv_machine.specs.declared.parts.RoundPart.{RoundPart}

-- the events of a part
abbrev pub events_of_part : RoundPart → List runs.Event
events_of_part part = replicate part.count (event_of part.event)

-- and of parts, one behind another
abbrev pub events_of_parts : List RoundPart → List runs.Event
events_of_parts parts = flat_map events_of_part parts
