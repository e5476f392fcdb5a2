use Rattle.std.proofs.Common.{◌≡◌, map, take}
use Rattle.grade_rules.specs.Choices.{pattern_with}
use Rattle.grade_rules.proofs.pattern.patterns_with.Given as goal

abbrev pub invariant-loop-pattern : goal.invariant-loop-pattern
invariant-loop-pattern l = l.those.items ≡ map (pattern_with l.choice) (take l.pattern-index l.patterns)
