-- How an exercise writes which notes it asks for: as a line of a trace, in which a number may be left open, and behind the word `given` what a call has to be given. A text stands for a pattern, or for none.
use Rattle.std.specs.Prelude.{ℕ, ◌+◌, ◌-◌, ◌^◌, ◌+ℤ◌, ◌==◌, ◌&&◌, ℤ, pos, negsuc, int_le, int_lt, nat_le, nat_lt, Bool, if◌then◌else◌, List, [], ◌∷◌, ◌++◌, length, take, drop, slice_get, slice_index, unsigned_abs, codes, bytes_eq}
use Rattle.std.specs.Prelude.{Option, None, Some}
use Rattle.std.specs.Char.{is_ascii_alphabetic}
use Rattle.std.specs.List.{list_any, before_first, after_first, position, slice_split}
use Rattle.std.specs.Option.{option_and_then}
use Rattle.std.specs.Str.Parse.{signed_digits_value, without_leading_sign}
use Rattle.kernel_calls.specs.Table.{call_named, entry_of}
use Rattle.kernel_calls.specs.declared.call.KernelCall.{KernelCall}
use Rattle.grade_rules.specs.declared.asking.Asking.{Asking}
use Rattle.grade_rules.specs.declared.asking.Things.{Things}
use Rattle.grade_rules.specs.declared.asking.Things.TheVariants as things
use Rattle.grade_rules.specs.declared.given.Thing.{Thing}
use Rattle.grade_rules.specs.declared.given.Thing.TheVariants.{Nothing, Console, File, ReadEnd, WriteEnd}
use Rattle.grade_rules.specs.declared.numbers.Numbers.{Numbers}
use Rattle.grade_rules.specs.declared.numbers.Numbers.TheVariants.{Any, Within, Either, Not}
use Rattle.grade_rules.specs.declared.pipes.Letter.TheVariants.{A, B, C}
use Rattle.grade_rules.specs.declared.pipes.Pipes.{Pipes}
use Rattle.grade_rules.specs.declared.pipes.Pipes.TheVariants as pipes
use Rattle.grade_rules.specs.declared.pattern.Pattern.{Pattern}
use Rattle.grade_rules.specs.declared.pattern.Pattern.TheVariants.{Turn, Called, Blocked, Exited, Faulted}
use Rattle.grade_sheets.specs.Numbers.{is_numeral}
use Rattle.grade_sheets.specs.declared.notation.First.{First}

-- ---- words and marks

-- a blank (32) parts two words
abbrev pub words : List ℕ → List (List ℕ)
words text = slice_split (λ b. b == 32) text

abbrev pub is_word : List ℕ → (word : List ℕ) → Bool
is_word name word = bytes_eq word name

-- a word begins with a mark
abbrev pub begins_with : (mark : ℕ) → List ℕ → Bool
begins_with mark word = nat_lt 0 (length word) && slice_index word 0 == mark

-- a mark stands somewhere in a word
abbrev pub has_mark : (mark : ℕ) → List ℕ → Bool
has_mark mark word = list_any (λ b. b == mark) word

-- what stands before the first of these marks, and after it
abbrev pub before_mark : (mark : ℕ) → List ℕ → List ℕ
before_mark mark word = before_first (λ b. b == mark) word

abbrev pub after_mark : (mark : ℕ) → List ℕ → List ℕ
after_mark mark word = after_first (λ b. b == mark) word

-- ---- one number

-- from -2^63 to 2^63 - 1: negsuc k is -(k + 1)
abbrev pub LEAST : ℤ
LEAST = negsuc (2 ^ 63 - 1)

abbrev pub MOST : ℤ
MOST = pos (2 ^ 63 - 1)

abbrev pub is_in_64_bits : ℤ → Bool
is_in_64_bits (pos n) = nat_lt n (2 ^ 63)
is_in_64_bits (negsuc k) = nat_lt k (2 ^ 63)

-- the number that a word is: decimal digits, with a sign or without, in 64 bits
abbrev pub integer_of : List ℕ → Option ℤ
integer_of word = if is_numeral (without_leading_sign word) && is_in_64_bits (signed_digits_value 10 word) then Some (signed_digits_value 10 word) else None

abbrev pub number_or : Option KernelCall → (other : Option ℤ) → Option ℤ
number_or None other = other
number_or (Some call) other = Some (pos (entry_of call).number)

-- the same, or the number of the kernel call whose name the word is
abbrev pub number_named : List ℕ → Option ℤ
number_named word = number_or (call_named word) (integer_of word)

-- ---- which numbers a word stands for

abbrev pub only : ℤ → Numbers
only number = Within number number

-- the number alone
abbrev pub only_if : Option ℤ → Option Numbers
only_if None = None
only_if (Some number) = Some (only number)

-- each other number
abbrev pub not_if : Option ℤ → Option Numbers
not_if None = None
not_if (Some number) = Some (Not number)

-- one of the two
abbrev pub either_if : Option ℤ → Option ℤ → Option Numbers
either_if (Some one) (Some other) = Some (Either one other)
either_if _ _ = None

-- from the one to the other, both with it: there is one at least
abbrev pub interval_if : Option ℤ → Option ℤ → Option Numbers
interval_if (Some least) (Some most) = if int_le least most then Some (Within least most) else None
interval_if _ _ = None

-- from a number on, with it or without it
abbrev pub from_if : Option ℤ → Option Numbers
from_if None = None
from_if (Some least) = Some (Within least MOST)

abbrev pub above_if : Option ℤ → Option Numbers
above_if None = None
above_if (Some below) = if int_lt below MOST then Some (Within (below +ℤ pos 1) MOST) else None

-- up to a number, with it or without it
abbrev pub up_to_if : Option ℤ → Option Numbers
up_to_if None = None
up_to_if (Some most) = Some (Within LEAST most)

abbrev pub below_if : Option ℤ → Option Numbers
below_if None = None
below_if (Some above) = if int_lt LEAST above then Some (Within LEAST (above +ℤ negsuc 0)) else None

-- the two ends of N..M, of which `rest` is what stands after the first dot (46)
abbrev pub interval_of : (least rest : List ℕ) → Option Numbers
interval_of least rest = if begins_with 46 rest then interval_if (integer_of least) (integer_of (drop 1 rest)) else None

-- what stands after > is N, or =N (61 is =)
abbrev pub greater_of : List ℕ → Option Numbers
greater_of bound = if begins_with 61 bound then from_if (integer_of (drop 1 bound)) else above_if (integer_of bound)

-- and so after <
abbrev pub less_of : List ℕ → Option Numbers
less_of bound = if begins_with 61 bound then up_to_if (integer_of (drop 1 bound)) else below_if (integer_of bound)

-- * is each number, !N (33) each but N, N..M those from N to M, N|M (124) one of the two, >N (62), >=N, <N (60), <=N those that lie so, and N is N. In place of a number may stand a kernel call's name, but for N..M and for those that lie above or below
unfoldable pub numbers_of : List ℕ → Option Numbers
numbers_of word =
    if is_word (codes "*") word then Some Any
    else (if begins_with 33 word then not_if (number_named (drop 1 word))
    else (if has_mark 46 word then interval_of (before_mark 46 word) (after_mark 46 word)
    else (if has_mark 124 word then either_if (number_named (before_mark 124 word)) (number_named (after_mark 124 word))
    else (if begins_with 62 word then greater_of (drop 1 word)
    else (if begins_with 60 word then less_of (drop 1 word) else only_if (number_named word))))))

-- ---- a line

-- whatever a call was given
abbrev pub anything : Asking
anything = record { first = Any; second = Any; third = Any; byte = Any; on = things.Any; pipe = pipes.Any }

-- a line of a kind and one number, of two numbers, of three
abbrev pub pattern_of_one : (kind : List ℕ) → Numbers → Option Pattern
pattern_of_one kind who = if is_word (codes "turn") kind then Some (Turn who) else None

abbrev pub pattern_of_two : (kind : List ℕ) → Numbers → Numbers → Option Pattern
pattern_of_two kind who what =
    if is_word (codes "block") kind then Some (Blocked who what anything)
    else (if is_word (codes "exit") kind then Some (Exited who what) else (if is_word (codes "fault") kind then Some (Faulted who what) else None))

abbrev pub pattern_of_three : (kind : List ℕ) → Numbers → Numbers → Numbers → Option Pattern
pattern_of_three kind who call answers = if is_word (codes "call") kind then Some (Called who call answers anything) else None

-- the pattern of a line: turn P, block P C, exit P S, fault P S, or call P C A
abbrev pub pattern_of_line : List (List ℕ) → Option Pattern
pattern_of_line (kind ∷ who ∷ []) = option_and_then (pattern_of_one kind) (numbers_of who)
pattern_of_line (kind ∷ who ∷ what ∷ []) = option_and_then (λ p. option_and_then (pattern_of_two kind p) (numbers_of what)) (numbers_of who)
pattern_of_line (kind ∷ who ∷ call ∷ answers ∷ []) =
    option_and_then (λ p. option_and_then (λ n. option_and_then (pattern_of_three kind p n) (numbers_of answers)) (numbers_of call)) (numbers_of who)
pattern_of_line _ = None

-- ---- what a call has to be given

-- the end of a pipe that a word names
abbrev pub end_of : List ℕ → Option Thing
end_of word = if is_word (codes "read-end") word then Some ReadEnd else (if is_word (codes "write-end") word then Some WriteEnd else None)

-- the thing that a word names
abbrev pub thing_of : List ℕ → Option Thing
thing_of word =
    if is_word (codes "nothing") word then Some Nothing
    else (if is_word (codes "console") word then Some Console
    else (if is_word (codes "file") word then Some File else end_of word))

abbrev pub only_thing : Option Thing → Option Things
only_thing None = None
only_thing (Some one) = Some (things.Only one)

abbrev pub but_thing : Option Thing → Option Things
but_thing None = None
but_thing (Some other) = Some (things.Not other)

-- the things that a word stands for: one, or with ! before it all else
abbrev pub things_of : List ℕ → Option Things
things_of word = if begins_with 33 word then but_thing (thing_of (drop 1 word)) else only_thing (thing_of word)

-- the numbers of an argument: no word with a letter, so no call's name, stands for any
abbrev pub argument_of : List ℕ → Option Numbers
argument_of word = if list_any is_ascii_alphabetic word then None else numbers_of word

-- if it is left out, it is each number
abbrev pub argument_if : Option (List ℕ) → Option Numbers
argument_if None = Some Any
argument_if (Some word) = argument_of word

-- the pipe of a number from 1 on
abbrev pub numbered : Option ℤ → Option Pipes
numbered None = None
numbered (Some number) = if int_le (pos 1) number then Some (pipes.Only (unsigned_abs number)) else None

-- which pipe a word means: one by a letter, or by its number
abbrev pub pipe_of : List ℕ → Option Pipes
pipe_of word =
    if is_word (codes "a") word then Some (pipes.Called A)
    else (if is_word (codes "b") word then Some (pipes.Called B) else (if is_word (codes "c") word then Some (pipes.Called C) else numbered (integer_of word)))

-- an end of a pipe that is meant
abbrev pub end_on : Option Thing → Option Pipes → Option First
end_on (Some end) (Some pipe) = Some (record { numbers = Any; on = things.Only end; pipe = pipe })
end_on _ _ = None

abbrev pub first_on : Option Things → (numbers : Option Numbers) → Option First
first_on (Some on) numbers = Some (record { numbers = Any; on = on; pipe = pipes.Any })
first_on None None = None
first_on None (Some numbers) = Some (record { numbers = numbers; on = things.Any; pipe = pipes.Any })

-- the first argument: an end of one pipe, with @ (64) between them; what a descriptor has to name; or numbers
abbrev pub first_word : List ℕ → Option First
first_word word = if has_mark 64 word then end_on (end_of (before_mark 64 word)) (pipe_of (after_mark 64 word)) else first_on (things_of word) (argument_of word)

abbrev pub first_of : Option (List ℕ) → Option First
first_of None = None
first_of (Some word) = first_word word

abbrev pub asking_with : Option First → (second third byte : Option Numbers) → Option Asking
asking_with (Some first) (Some second) (Some third) (Some byte) =
    Some (record { first = first.numbers; second = second; third = third; byte = byte; on = first.on; pipe = first.pipe })
asking_with _ _ _ _ = None

-- three arguments and the first byte of a write, of which those at the end may be left out
abbrev pub asking_of : List (List ℕ) → Option Asking
asking_of list =
    if nat_le (length list) 4 then asking_with (first_of (slice_get list 0)) (argument_if (slice_get list 1)) (argument_if (slice_get list 2)) (argument_if (slice_get list 3)) else None

-- ---- all of it

-- the pattern, of a call alone, or of a sleep in one, that was given this
abbrev pub with_asking : Pattern → Asking → Option Pattern
with_asking (Called who call answers any) asking = Some (Called who call answers asking)
with_asking (Blocked who call any) asking = Some (Blocked who call asking)
with_asking _ asking = None

abbrev pub with_both : Option Pattern → Option Asking → Option Pattern
with_both (Some line) (Some asking) = with_asking line asking
with_both _ _ = None

-- words, of which the one at a place, if there is a place, is `given`
abbrev pub pattern_at : (place : Option ℕ) → List (List ℕ) → Option Pattern
pattern_at None list = pattern_of_line list
pattern_at (Some place) list = with_both (pattern_of_line (take place list)) (asking_of (drop (place + 1) list))

abbrev pub pattern_of_words : List (List ℕ) → Option Pattern
pattern_of_words list = pattern_at (position (is_word (codes "given")) list) list

-- the pattern that a text stands for: a line, and behind the first word `given`, if there is one, what its call has to be given
abbrev pub pattern_of : List ℕ → Option Pattern
pattern_of text = pattern_of_words (words text)
