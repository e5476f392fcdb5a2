use Rattle.std.proofs.Common.{◌≡◌, ◌++◌, drop}
use Rattle.std.specs.String.{string_bytes}
use Rattle.trace_picture.proofs.Letters.{bytes_from}
use Rattle.trace_picture.proofs.picture.push_bytes.Given as goal

abbrev pub invariant-loop-event : goal.invariant-loop-event
invariant-loop-event l = string_bytes l.text ++ bytes_from l.line l.axis.left l.axis.events l.base l.event l.free (drop l.event l.notes) ≡ string_bytes l.fn.text
    ++ bytes_from l.line l.axis.left l.axis.events l.base 0 0 l.notes
