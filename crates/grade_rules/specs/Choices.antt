-- Letters that stand for pipes.
use Rattle.std.specs.Prelude.{ℕ, nat_le, ◌==◌, Bool, true, false, not, ◌&&◌, ◌||◌}
use Rattle.std.specs.List.{list_any}
use Rattle.grade_rules.specs.declared.asking.Asking.{Asking}
use Rattle.grade_rules.specs.declared.pattern.Pattern.{Pattern}
use Rattle.grade_rules.specs.declared.pattern.Pattern.TheVariants.{Turn, Called, Blocked, Exited, Faulted}
use Rattle.grade_rules.specs.declared.pipes.TheConstants.{FIRST_PIPES}
use Rattle.grade_rules.specs.declared.pipes.Choice.{Choice}
use Rattle.grade_rules.specs.declared.pipes.Letter.{Letter}
use Rattle.grade_rules.specs.declared.pipes.Letter.TheVariants.{A, B, C}
use Rattle.grade_rules.specs.declared.pipes.Pipes.{Pipes}
use Rattle.grade_rules.specs.declared.pipes.Pipes.TheVariants as pipes
use Rattle.grade_rules.specs.declared.rule.Rule.{Rule}
use Rattle.grade_rules.specs.declared.rule.Rule.TheVariants.{Count, NoneOf, Before, InOrder, Exactly}

-- ---- what may be chosen

-- a pipe is one of the first of the run
abbrev pub is_first : (pipe : ℕ) → Bool
is_first pipe = nat_le 1 pipe && nat_le pipe FIRST_PIPES

-- three letters stand for three of them
abbrev pub is_choice : Choice → Bool
is_choice choice =
    is_first choice.a && is_first choice.b && is_first choice.c && not (choice.a == choice.b) && not (choice.a == choice.c) && not (choice.b == choice.c)

abbrev pub stands_for : Choice → Letter → ℕ
stands_for choice A = choice.a
stands_for choice B = choice.b
stands_for choice C = choice.c

-- ---- what is meant by a choice: the pipe that a letter stands for is put in its place

abbrev pub pipes_with : Choice → Pipes → Pipes
pipes_with choice pipes.Any = pipes.Any
pipes_with choice (pipes.Only number) = pipes.Only number
pipes_with choice (pipes.Called letter) = pipes.Only (stands_for choice letter)

abbrev pub asking_with : Choice → Asking → Asking
asking_with choice asking = record asking { pipe = pipes_with choice asking.pipe }

abbrev pub pattern_with : Choice → Pattern → Pattern
pattern_with choice (Turn who) = Turn who
pattern_with choice (Called who call answers asking) = Called who call answers (asking_with choice asking)
pattern_with choice (Blocked who call asking) = Blocked who call (asking_with choice asking)
pattern_with choice (Exited who ends) = Exited who ends
pattern_with choice (Faulted who whys) = Faulted who whys

-- ---- what names letters

abbrev pub is_letter : Pipes → Bool
is_letter pipes.Any = false
is_letter (pipes.Only number) = false
is_letter (pipes.Called letter) = true

abbrev pub has_letter : Pattern → Bool
has_letter (Turn who) = false
has_letter (Called who call answers asking) = is_letter asking.pipe
has_letter (Blocked who call asking) = is_letter asking.pipe
has_letter (Exited who ends) = false
has_letter (Faulted who whys) = false

abbrev pub names_letters : Rule → Bool
names_letters (Count pattern least most) = has_letter pattern
names_letters (NoneOf patterns) = list_any has_letter patterns.items
names_letters (Before first next) = has_letter first || has_letter next
names_letters (InOrder steps edges) = list_any has_letter steps.items
names_letters (Exactly of wanted) = list_any has_letter of.items || list_any has_letter wanted.items
