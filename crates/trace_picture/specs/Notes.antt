-- Which note a line of a trace tells. A line is a word for what happened and its numbers, which are decimal, with a blank between them.
use Rattle.std.specs.Prelude.{ℕ, ◌-◌, ◌^◌, ◌==◌, ◌&&◌, ℤ, pos, negsuc, nat_lt, Bool, if◌then◌else◌, List, [], ◌∷◌, length, codes, bytes_eq, Option, None, Some, option_map}
use Rattle.std.specs.List.{slice_split}
use Rattle.std.specs.Option.{option_and_then}
use Rattle.std.specs.Str.{all_ascii_digits}
use Rattle.std.specs.Str.Parse.{digits_value, signed_digits_value, without_leading_plus, without_leading_sign}
use Rattle.trace_picture.specs.declared.note.Note.{Note}
use Rattle.trace_picture.specs.declared.note.Note.TheVariants.{Turn, Step, Call, Block, Exit, Fault, Idle, Tick, Key, Sent}

-- ---- words and numbers

-- a blank (32) parts two words
abbrev pub is_blank : ℕ → Bool
is_blank byte = byte == 32

abbrev pub words : List ℕ → List (List ℕ)
words line = slice_split is_blank line

-- one decimal digit or more, and nothing else
abbrev pub is_numeral : List ℕ → Bool
is_numeral digits = nat_lt 0 (length digits) && all_ascii_digits digits

abbrev pub if_below : (limit : ℕ) → (digits : List ℕ) → Option ℕ
if_below limit digits = if is_numeral digits && nat_lt (digits_value 10 digits) limit then Some (digits_value 10 digits) else None

-- the number of so many bits that a word is; a plus may stand before it
abbrev pub unsigned : (bits : ℕ) → (word : List ℕ) → Option ℕ
unsigned bits word = if_below (2 ^ bits) (without_leading_plus word)

-- it has so many bits, one of which is the sign: negsuc k is -(k + 1)
abbrev pub has_bits : (bits : ℕ) → ℤ → Bool
has_bits bits (pos n) = nat_lt n (2 ^ (bits - 1))
has_bits bits (negsuc k) = nat_lt k (2 ^ (bits - 1))

-- the same of a number that may have a minus
abbrev pub signed : (bits : ℕ) → (word : List ℕ) → Option ℤ
signed bits word =
    if is_numeral (without_leading_sign word) && has_bits bits (signed_digits_value 10 word) then Some (signed_digits_value 10 word) else None

-- ---- a line of words: P is a pid, N a call's number, V its answer, S a status, C a cause, B a byte and E how many bytes its echo has

-- `idle`, `tick`
abbrev pub note_of_one : (kind : List ℕ) → Option Note
note_of_one kind = if bytes_eq kind (codes "idle") then Some Idle else if bytes_eq kind (codes "tick") then Some Tick else None

-- `turn P`, `step P`, `sent B`
abbrev pub note_of_two : (kind word : List ℕ) → Option Note
note_of_two kind word =
    if bytes_eq kind (codes "turn") then option_map Turn (unsigned 32 word)
    else if bytes_eq kind (codes "step") then option_map Step (unsigned 32 word)
    else if bytes_eq kind (codes "sent") then option_map Sent (unsigned 8 word)
    else None

-- `block P N`, `exit P S`, `fault P C`
abbrev pub note_of_process : (kind : List ℕ) → (pid : ℕ) → (word : List ℕ) → Option Note
note_of_process kind pid word =
    if bytes_eq kind (codes "block") then option_map (Block pid) (signed 32 word)
    else if bytes_eq kind (codes "exit") then option_map (Exit pid) (signed 32 word)
    else if bytes_eq kind (codes "fault") then option_map (Fault pid) (unsigned 32 word)
    else None

-- `key B E`
abbrev pub note_of_key : (byte echo : List ℕ) → Option Note
note_of_key byte echo = option_and_then (λ _. option_map Key (unsigned 8 byte)) (unsigned 32 echo)

abbrev pub note_of_three : (kind first second : List ℕ) → Option Note
note_of_three kind first second =
    if bytes_eq kind (codes "key") then note_of_key first second else option_and_then (λ pid. note_of_process kind pid second) (unsigned 32 first)

-- `call P N V`
abbrev pub note_of_call : (pid number answer : List ℕ) → Option Note
note_of_call pid number answer =
    option_and_then (λ p. option_and_then (λ n. option_map (Call p n) (signed 64 answer)) (signed 32 number)) (unsigned 32 pid)

abbrev pub note_of_four : (kind first second third : List ℕ) → Option Note
note_of_four kind first second third = if bytes_eq kind (codes "call") then note_of_call first second third else None

abbrev pub note_of_words : List (List ℕ) → Option Note
note_of_words (kind ∷ []) = note_of_one kind
note_of_words (kind ∷ word ∷ []) = note_of_two kind word
note_of_words (kind ∷ first ∷ second ∷ []) = note_of_three kind first second
note_of_words (kind ∷ first ∷ second ∷ third ∷ []) = note_of_four kind first second third
note_of_words _ = None

-- the note that a line tells: none if it is no line of a trace, or shows nothing, as `sent none` and `halted`
abbrev pub note_of_line : (line : List ℕ) → Option Note
note_of_line line = note_of_words (words line)
