-- Worked cases of the definitions.
use Rattle.std.specs.Prelude.{◌≡◌, pos, negsuc, true, false, [], ◌∷◌, refl}
use Rattle.grade_rules.specs.declared.asking.Asking.{Asking}
use Rattle.grade_rules.specs.declared.asking.Things.TheVariants as things
use Rattle.grade_rules.specs.declared.given.Given.{Given}
use Rattle.grade_rules.specs.declared.given.Thing.TheVariants.{Nothing, Console, ReadEnd, WriteEnd}
use Rattle.grade_rules.specs.declared.note.Note.TheVariants as note
use Rattle.grade_rules.specs.declared.numbers.Numbers.TheVariants.{Any, Within, Either, Not}
use Rattle.grade_rules.specs.declared.pipes.Choice.{Choice}
use Rattle.grade_rules.specs.declared.pipes.Letter.TheVariants.{B}
use Rattle.grade_rules.specs.declared.pipes.Pipes.TheVariants as pipes
use Rattle.grade_rules.specs.declared.pattern.Pattern.TheVariants.{Called, Exited, Faulted}
use Rattle.grade_rules.specs.Numbers.{has}
use Rattle.grade_rules.specs.Choices.{is_choice, asking_with}
use Rattle.grade_rules.specs.Givens.{takes}
use Rattle.grade_rules.specs.Patterns.{fits}
use Rattle.grade_rules.specs.Rules.{are_these}

-- whatever a call was given
anything : Asking
anything = record { first = Any; second = Any; third = Any; byte = Any; on = things.Any; pipe = pipes.Any }

-- of a close of descriptor 1, which names the second pipe's write end; and of a read of a byte by descriptor 0, the first pipe's read end, into 0x3000
closed : Given
closed = record { first = pos 1; second = pos 0; third = pos 0; byte = negsuc 0; on = WriteEnd; pipe = 2 }

read : Given
read = record { first = pos 0; second = pos 12288; third = pos 1; byte = negsuc 0; on = ReadEnd; pipe = 1 }

-- `call 1 close *` is a close by process 1, whatever it answers and was given, and none by process 2
closes : fits (Called (Within (pos 1) (pos 1)) (Within (pos 21) (pos 21)) Any anything) (note.Called 1 (pos 21) (pos 0) closed) ≡ true
unfolding anything closed
closes = refl

closes_not : fits (Called (Within (pos 1) (pos 1)) (Within (pos 21) (pos 21)) Any anything) (note.Called 2 (pos 21) (pos 0) closed) ≡ false
unfolding anything closed
closes_not = refl

-- a sleep in a call is no call
sleeps : fits (Called Any (Within (pos 21) (pos 21)) Any anything) (note.Blocked 1 (pos 21) closed) ≡ false
unfolding anything closed
sleeps = refl

-- `given write-end` is of a close of that end; and neither of one of the console, nor of a read
gives : takes (record anything { on = things.Only WriteEnd }) closed ≡ true
unfolding anything closed
gives = refl

gives_another : takes (record anything { on = things.Only Console }) closed ≡ false
unfolding anything closed
gives_another = refl

gives_not : takes (record anything { on = things.Not ReadEnd }) read ≡ false
unfolding anything read
gives_not = refl

gives_nothing : takes (record anything { on = things.Not Nothing }) read ≡ true
unfolding anything read
gives_nothing = refl

-- `given 0 * >0`: the third number is that of the bytes, and the first that of the descriptor
gives_bytes : takes (record anything { first = Within (pos 0) (pos 0); third = Not (pos 0) }) read ≡ true
unfolding anything read
gives_bytes = refl

gives_no_byte : takes (record anything { second = Within (pos 0) (pos 0); third = Not (pos 0) }) read ≡ false
unfolding anything read
gives_no_byte = refl

-- `given * * * 30` is of no read
gives_a_byte : takes (record anything { byte = Within (pos 30) (pos 30) }) read ≡ false
unfolding anything read
gives_a_byte = refl

-- `given write-end@2` is of the second pipe's end, and `write-end@1` isn't
gives_second : takes (record anything { on = things.Only WriteEnd; pipe = pipes.Only 2 }) closed ≡ true
unfolding anything closed
gives_second = refl

gives_first : takes (record anything { on = things.Only WriteEnd; pipe = pipes.Only 1 }) closed ≡ false
unfolding anything closed
gives_first = refl

-- `given write-end@b` is of it, if b is the second pipe, and isn't, if b is the first
chosen : Choice
chosen = record { a = 1; b = 2; c = 3 }

turned : Choice
turned = record { a = 2; b = 1; c = 3 }

gives_b : takes (asking_with chosen (record anything { on = things.Only WriteEnd; pipe = pipes.Called B })) closed ≡ true
unfolding anything closed chosen
gives_b = refl

gives_another_b : takes (asking_with turned (record anything { on = things.Only WriteEnd; pipe = pipes.Called B })) closed ≡ false
unfolding anything closed turned
gives_another_b = refl

-- two letters stand for two pipes, each for one of the first four
two_of_them : is_choice (record { a = 4; b = 2; c = 1 }) ≡ true
two_of_them = refl

one_for_two : is_choice (record { a = 1; b = 2; c = 1 }) ≡ false
one_for_two = refl

fifth : is_choice (record { a = 1; b = 2; c = 5 }) ≡ false
fifth = refl

no_pipe : is_choice (record { a = 0; b = 2; c = 1 }) ≡ false
no_pipe = refl

-- `fault !1 13|15`
faults : fits (Faulted (Not (pos 1)) (Either (pos 13) (pos 15))) (note.Faulted 2 15) ≡ true
faults = refl

faults_not : fits (Faulted (Not (pos 1)) (Either (pos 13) (pos 15))) (note.Faulted 1 15) ≡ false
faults_not = refl

-- `-1..3` has both its ends
first_of_them : has (Within (negsuc 0) (pos 3)) (negsuc 0) ≡ true
first_of_them = refl

last_of_them : has (Within (negsuc 0) (pos 3)) (pos 3) ≡ true
last_of_them = refl

-- two notes are as two patterns say, in their order, and no third may come
two : are_these (Exited Any (Within (pos 7) (pos 7)) ∷ Exited Any Any ∷ []) (note.Exited 2 (pos 7) ∷ note.Exited 1 (pos 0) ∷ []) ≡ true
two = refl

two_turned : are_these (Exited Any (Within (pos 7) (pos 7)) ∷ Exited Any Any ∷ []) (note.Exited 1 (pos 0) ∷ note.Exited 2 (pos 7) ∷ []) ≡ false
two_turned = refl

one_more : are_these (Exited Any Any ∷ []) (note.Exited 2 (pos 7) ∷ note.Exited 1 (pos 0) ∷ []) ≡ false
one_more = refl
