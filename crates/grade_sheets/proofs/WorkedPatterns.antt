-- Worked cases of what an exercise's texts stand for.
use Rattle.grade_sheets.proofs.Prelude.{codes, None, refl, Some, ◌≡◌, ◌^◌}
use Rattle.std.specs.Prelude.{pos, negsuc, ◌-◌}
use Rattle.grade_rules.specs.declared.asking.Things.TheVariants as things
use Rattle.grade_rules.specs.declared.given.Thing.TheVariants.{ReadEnd, WriteEnd}
use Rattle.grade_rules.specs.declared.numbers.Numbers.TheVariants.{Any, Within, Either, Not}
use Rattle.grade_rules.specs.declared.pipes.Letter.TheVariants.{B}
use Rattle.grade_rules.specs.declared.pipes.Pipes.TheVariants as pipes
use Rattle.grade_rules.specs.declared.pattern.Pattern.TheVariants.{Turn, Called, Blocked, Exited}
use Rattle.kernel_calls.specs.Table.{call_named}
use Rattle.grade_sheets.specs.Notation.{anything, argument_of, first_of, integer_of, numbers_of, only, pattern_of}

-- ---- numbers

a_sign : integer_of (codes "-12") ≡ Some (negsuc 11)
a_sign = refl

the_least : integer_of (codes "-9223372036854775808") ≡ Some (negsuc (2 ^ 63 - 1))
the_least = refl

too_large : integer_of (codes "9223372036854775808") ≡ None
too_large = refl

each : numbers_of (codes "*") ≡ Some Any
unfolding numbers_of call_named
each = refl

all_but_one : numbers_of (codes "!1") ≡ Some (Not (pos 1))
unfolding numbers_of call_named
all_but_one = refl

by_name : numbers_of (codes "read") ≡ Some (only (pos 5))
unfolding numbers_of call_named
by_name = refl

above : numbers_of (codes ">2") ≡ Some (Within (pos 3) (pos (2 ^ 63 - 1)))
unfolding numbers_of call_named
above = refl

from : numbers_of (codes ">=2") ≡ Some (Within (pos 2) (pos (2 ^ 63 - 1)))
unfolding numbers_of call_named
from = refl

below_zero : numbers_of (codes "<0") ≡ Some (Within (negsuc (2 ^ 63 - 1)) (negsuc 0))
unfolding numbers_of call_named
below_zero = refl

-- both ends belong to an interval, which isn't empty
an_interval : numbers_of (codes "3..3") ≡ Some (Within (pos 3) (pos 3))
unfolding numbers_of call_named
an_interval = refl

no_interval : numbers_of (codes "4..3") ≡ None
unfolding numbers_of call_named
no_interval = refl

one_dot : numbers_of (codes "3.4") ≡ None
unfolding numbers_of call_named
one_dot = refl

one_of_two : numbers_of (codes "fork|13") ≡ Some (Either (pos 1) (pos 13))
unfolding numbers_of call_named
one_of_two = refl

-- an argument is no call
no_name : argument_of (codes "read") ≡ None
no_name = refl

-- ---- lines

a_turn : pattern_of (codes "turn 3") ≡ Some (Turn (only (pos 3)))
unfolding numbers_of call_named
a_turn = refl

an_exit : pattern_of (codes "exit 1 !0") ≡ Some (Exited (only (pos 1)) (Not (pos 0)))
unfolding numbers_of call_named
an_exit = refl

a_call : pattern_of (codes "call 1 fork *") ≡ Some (Called (only (pos 1)) (only (pos 1)) Any anything)
unfolding numbers_of call_named
a_call = refl

-- two blanks part three words
two_blanks : pattern_of (codes "turn  3") ≡ None
unfolding numbers_of call_named
two_blanks = refl

-- a number too many, and a kind that has no line
too_long : pattern_of (codes "turn 1 2") ≡ None
unfolding numbers_of call_named
too_long = refl

no_kind : pattern_of (codes "tick 1") ≡ None
unfolding numbers_of call_named
no_kind = refl

-- ---- what a call was given: words at the end may be left out, and the first may name a thing
on_a_pipe : pattern_of (codes "call 1 read 0 given read-end * >0")
    ≡ Some (Called (only (pos 1)) (only (pos 5)) (only (pos 0))
    (record { first = Any; second = Any; third = Within (pos 1) (pos (2 ^ 63 - 1)); byte = Any; on = things.Only ReadEnd; pipe = pipes.Any }))
unfolding numbers_of call_named
on_a_pipe = refl

not_on_one : pattern_of (codes "block * read given !read-end")
    ≡ Some (Blocked Any (only (pos 5)) (record { first = Any; second = Any; third = Any; byte = Any; on = things.Not ReadEnd; pipe = pipes.Any }))
unfolding numbers_of call_named
not_on_one = refl

nothing_given : pattern_of (codes "call 1 read 0 given") ≡ None
unfolding numbers_of call_named
nothing_given = refl

five_given : pattern_of (codes "call 1 read 0 given 1 2 3 4 5") ≡ None
unfolding numbers_of call_named
five_given = refl

-- no turn is given anything
given_to_a_turn : pattern_of (codes "turn 1 given 1") ≡ None
unfolding numbers_of call_named
given_to_a_turn = refl

-- ---- which pipe is meant, by a letter or by its number
by_a_letter : first_of (Some (codes "write-end@b")) ≡ Some (record { numbers = Any; on = things.Only WriteEnd; pipe = pipes.Called B })
by_a_letter = refl

by_its_number : first_of (Some (codes "read-end@12")) ≡ Some (record { numbers = Any; on = things.Only ReadEnd; pipe = pipes.Only 12 })
by_its_number = refl

from_one_on : first_of (Some (codes "read-end@0")) ≡ None
from_one_on = refl

three_letters : first_of (Some (codes "read-end@d")) ≡ None
three_letters = refl

-- all but one pipe can't be asked for, nor which console
no_other_pipe : first_of (Some (codes "!read-end@a")) ≡ None
no_other_pipe = refl

no_console : first_of (Some (codes "console@1")) ≡ None
no_console = refl
