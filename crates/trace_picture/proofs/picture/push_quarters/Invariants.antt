use Rattle.std.proofs.Common.{◌≡◌, ◌++◌, flat_map, take}
use Rattle.std.specs.String.{string_bytes}
use Rattle.trace_picture.specs.Svg.{number_text}
use Rattle.trace_picture.proofs.picture.push_quarters.Given as goal

abbrev pub invariant-loop-quarter : goal.invariant-loop-quarter
invariant-loop-quarter l = string_bytes l.text ≡ string_bytes l.fn.text ++ flat_map (number_text l.axis.left l.axis.events l.base) (take l.quarter-index l.quarters)
