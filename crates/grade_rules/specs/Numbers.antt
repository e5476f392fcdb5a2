-- Which numbers are meant.
use Rattle.std.specs.Prelude.{ℤ, int_le, Bool, true, not, ◌&&◌, ◌||◌}
use Rattle.std.specs.Ordering.{int_eq}
use Rattle.grade_rules.specs.declared.numbers.Numbers.{Numbers}
use Rattle.grade_rules.specs.declared.numbers.Numbers.TheVariants.{Any, Within, Either, Not}

-- a number is one of them
abbrev pub has : Numbers → ℤ → Bool
has Any number = true
has (Within least most) number = int_le least number && int_le number most
has (Either one other) number = int_eq number one || int_eq number other
has (Not other) number = not (int_eq number other)
