-- A line of the source: its label, its word and the word's operands, each as bytes; and what a register's
-- name and a number stand for.
use Rattle.std.specs.Prelude.{codes, ℕ, ◌+◌, ◌-◌, ◌*◌, ◌^◌, min, Bool, true, false, not, ◌&&◌, ◌||◌, ◌==◌, nat_eq, nat_lt, nat_le, if◌then◌else◌, List, [], ◌∷◌, length, take, drop, map, slice_index, fold, Option, Some, None}
use Rattle.std.specs.List.{prefix_len, suffix_len, list_all, starts_with}
use Rattle.std.specs.Option.{option_map}
use Rattle.std.specs.Str.{bytes_eq}
use Rattle.std.specs.Char.{digit_value, is_digit}
use Rattle.uasm_core.specs.declared.words.Form.{Form}
use Rattle.uasm_core.specs.WordTable.{word_table, register_table}
use Rattle.uasm_core.specs.declared.numeral.Number.{Number}
use Rattle.uasm_core.specs.declared.scan.Quote.{Quote}
use Rattle.uasm_core.specs.declared.scan.Quote.TheVariants.{Outside, Inside, Escaped}

-- Bytes that have a name (ASCII).

abbrev pub tab : ℕ
tab = 9

abbrev pub line_feed : ℕ
line_feed = 10

abbrev pub space : ℕ
space = 32

abbrev pub quote_mark : ℕ
quote_mark = 34

abbrev pub hash_mark : ℕ
hash_mark = 35

abbrev pub left_bracket : ℕ
left_bracket = 40

abbrev pub right_bracket : ℕ
right_bracket = 41

abbrev pub comma : ℕ
comma = 44

abbrev pub full_stop : ℕ
full_stop = 46

abbrev pub colon : ℕ
colon = 58

abbrev pub backslash : ℕ
backslash = 92

abbrev pub underscore : ℕ
underscore = 95

-- Where a byte stands: outside a text in quotes, in it, or behind a backslash in it.

-- it stands outside a text in quotes
abbrev pub is_outside : Quote → Bool
is_outside Outside = true
is_outside Inside = false
is_outside Escaped = false

-- where the byte behind b stands, if b stands there
abbrev pub after : Quote → ℕ → Quote
after Outside b = if b == quote_mark then Inside else Outside
after Inside b = if b == quote_mark then Outside else if b == backslash then Escaped else Inside
after Escaped b = Inside

-- the line up to the first # that stands outside a text
abbrev pub code_from : Quote → List ℕ → List ℕ
code_from q [] = []
code_from q (b ∷ bs) = if is_outside q && b == hash_mark then [] else b ∷ code_from (after q b) bs

-- a byte in front of the first part
abbrev pub onto_first : ℕ → List (List ℕ) → List (List ℕ)
onto_first b [] = (b ∷ []) ∷ []
onto_first b (p ∷ ps) = (b ∷ p) ∷ ps

-- the parts round the commas that stand outside a text
abbrev pub pieces_from : Quote → List ℕ → List (List ℕ)
pieces_from q [] = [] ∷ []
pieces_from q (b ∷ bs) = if is_outside q && b == comma then [] ∷ pieces_from Outside bs else onto_first b (pieces_from (after q b) bs)

-- Bytes by their kind.

-- a space or a tab
abbrev pub is_blank : ℕ → Bool
is_blank b = b == space || b == tab

-- A to Z, a to z, or _
abbrev pub is_letter : ℕ → Bool
is_letter b = (nat_le 65 b && nat_le b 90) || (nat_le 97 b && nat_le b 122) || b == underscore

-- 0 to 9
abbrev pub is_decimal : ℕ → Bool
is_decimal b = nat_le 48 b && nat_le b 57

-- a byte of a label
abbrev pub is_name_byte : ℕ → Bool
is_name_byte b = is_letter b || is_decimal b

-- a byte of a word, which may also hold dots
abbrev pub is_word_byte : ℕ → Bool
is_word_byte b = is_name_byte b || b == full_stop

-- without the blanks at the front
abbrev pub without_front_blanks : List ℕ → List ℕ
without_front_blanks bs = drop (prefix_len is_blank bs) bs

-- without the blanks at both ends
abbrev pub trimmed : List ℕ → List ℕ
trimmed bs = let front = without_front_blanks bs in take (length front - suffix_len is_blank front) front

-- a letter or _, then letters, digits and _
abbrev pub is_label : List ℕ → Bool
is_label bs = is_letter (slice_index bs 0) && list_all is_name_byte bs

-- The parts of a line.

-- a label, if there is one, a word and its operands
pub record Parts : Type 0 where
  pub label : Option (List ℕ)
  -- nothing where the line has no word
  pub word : List ℕ
  pub operands : List (List ℕ)

-- the operands in the bytes behind the word: none where these are blank
abbrev pub operands_of : List ℕ → List (List ℕ)
operands_of bs = if nat_eq (length (trimmed bs)) 0 then [] else map trimmed (pieces_from Outside bs)

-- the word and the operands in the bytes behind the label
abbrev pub unlabelled : Option (List ℕ) → List ℕ → Parts
unlabelled label bs =
    let code = without_front_blanks bs in
    let n = prefix_len is_word_byte code in
    record { label = label; word = take n code; operands = operands_of (drop n code) }

-- where the label at the front ends, if there is one: a colon follows it at once
unfoldable pub label_end : List ℕ → Option ℕ
label_end code = let n = prefix_len is_name_byte code in if is_label (take n code) && slice_index code n == colon then Some n else None

-- the parts of a line whose label ends there
abbrev pub parts_by : List ℕ → Option ℕ → Parts
parts_by code (Some n) = unlabelled (Some (take n code)) (drop (n + 1) code)
parts_by code None = unlabelled None code

-- the parts of a line, without its comment
abbrev pub parts_of : List ℕ → Parts
parts_of line = let code = without_front_blanks (code_from Outside line) in parts_by code (label_end code)

-- What parts stand for.

-- what a table has beside a name
abbrev pub looked_up : {T : Type 0} → List (List ℕ × T) → List ℕ → Option T
looked_up [] name = None
looked_up (e ∷ es) name = if bytes_eq e.0 name then Some e.1 else looked_up es name

-- the form of a word, if the language has it
unfoldable pub form_of : List ℕ → Option Form
form_of word = looked_up word_table word

-- the number of the register of that name
unfoldable pub register_of : List ℕ → Option ℕ
register_of name = looked_up register_table name

-- the number that digits in a base write, the first digit the highest
abbrev pub number_in : ℕ → List ℕ → ℕ
number_in base digits = fold (λ n d. n * base + digit_value d) 0 digits

-- digits of a base, one or more. All numbers from 2^64 on count as 2^64: each range ends below it.
abbrev pub digits_of : ℕ → List ℕ → Option ℕ
digits_of base bs = if nat_lt 0 (length bs) && list_all (λ b. is_digit b base) bs then Some (min (number_in base bs) (2 ^ 64)) else None

-- decimal digits, or 0x and hexadecimal digits
abbrev pub magnitude_of : List ℕ → Option ℕ
magnitude_of bs = if starts_with nat_eq bs (codes "0x") then digits_of 16 (drop 2 bs) else digits_of 10 bs

-- a number with its sign
abbrev pub signed : Bool → ℕ → Number
signed negative n = record { negative = negative; magnitude = n }

-- it begins with a minus sign
abbrev pub has_sign : List ℕ → Bool
has_sign bs = starts_with nat_eq bs (codes "-")

-- what stands behind the minus sign, if there is one
abbrev pub without_sign : List ℕ → List ℕ
without_sign bs = if has_sign bs then drop 1 bs else bs

-- a number, with or without a minus sign
abbrev pub number_of : List ℕ → Option Number
number_of bs = option_map (signed (has_sign bs)) (magnitude_of (without_sign bs))

-- number(register): the number and the register's number
abbrev pub place_of : List ℕ → Option (List ℕ × List ℕ)
place_of bs =
    let n = prefix_len (λ b. not (b == left_bracket)) bs in
    if nat_lt (n + 1) (length bs) && slice_index bs (length bs - 1) == right_bracket
    then Some (trimmed (take n bs), trimmed (let inner = drop (n + 1) bs in take (length inner - 1) inner))
    else None

-- what stands for the byte behind a backslash: n, t and 0 (110, 116, 48), and the two that stand for themselves
abbrev pub escape_of : ℕ → Option ℕ
escape_of b = if b == 110 then Some line_feed else if b == 116 then Some tab else if b == 48 then Some 0 else if b == backslash then Some backslash else if b == quote_mark then Some quote_mark else None

-- a byte in front of the text
abbrev pub with_front : ℕ → Option (List ℕ) → Option (List ℕ)
with_front b text = option_map (λ t. b ∷ t) text

-- the text whose rest behind the first quote is given: it ends with the closing quote
abbrev pub text_from : Quote → List ℕ → Option (List ℕ)
text_from q [] = if is_outside q then Some [] else None
text_from Outside (b ∷ bs) = None
text_from Inside (b ∷ bs) = if b == quote_mark then text_from Outside bs else if b == backslash then text_from Escaped bs else with_front b (text_from Inside bs)
text_from Escaped (b ∷ bs) = elim (escape_of b) [ Some c ↦ with_front c (text_from Inside bs) | None ↦ None ]

-- the text in quotes, which is all there is
abbrev pub text_of : List ℕ → Option (List ℕ)
text_of [] = None
text_of (b ∷ bs) = if b == quote_mark then text_from Inside bs else None
