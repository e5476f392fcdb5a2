use Rattle.std.proofs.Common.{◌≡◌, ◌++◌, drop, map}
use Rattle.std.specs.String.{string_bytes}
use Rattle.trace_picture.specs.Svg.{meanings}
use Rattle.trace_picture.proofs.picture.push_meanings.Given as goal

abbrev pub invariant-loop-class : goal.invariant-loop-class
invariant-loop-class l = string_bytes l.text ++ meanings l.place (map (λ c. c.now) (drop l.class-index l.classes)) ≡ string_bytes l.fn.text ++ meanings l.left (map (λ c. c.now) l.classes)
