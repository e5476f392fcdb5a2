-- Which notes a pattern fits.
use Rattle.std.specs.Prelude.{pos, Bool, false, ◌&&◌, List}
use Rattle.std.specs.List.{list_any}
use Rattle.grade_rules.specs.declared.note.Note.{Note}
use Rattle.grade_rules.specs.declared.note.Note.TheVariants as note
use Rattle.grade_rules.specs.declared.pattern.Pattern.{Pattern}
use Rattle.grade_rules.specs.declared.pattern.Pattern.TheVariants.{Turn, Called, Blocked, Exited, Faulted}
use Rattle.grade_rules.specs.Numbers.{has}
use Rattle.grade_rules.specs.Givens.{takes}

-- a note is of the pattern's kind, each of its numbers is one of those that the pattern has in that place, and what its call was given is as the pattern asks
abbrev pub fits : Pattern → Note → Bool
fits (Turn who) (note.Turn pid) = has who (pos pid)
fits (Called who call answers asking) (note.Called pid number value given) = has who (pos pid) && has call number && has answers value && takes asking given
fits (Blocked who call asking) (note.Blocked pid number given) = has who (pos pid) && has call number && takes asking given
fits (Exited who ends) (note.Exited pid status) = has who (pos pid) && has ends status
fits (Faulted who whys) (note.Faulted pid cause) = has who (pos pid) && has whys (pos cause)
fits _ _ = false

-- one of the patterns fits
abbrev pub fits_one_of : List Pattern → Note → Bool
fits_one_of patterns n = list_any (λ pattern. fits pattern n) patterns
