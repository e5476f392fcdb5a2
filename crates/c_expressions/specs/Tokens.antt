-- The names, numbers and signs of a text (C17, section 6.4), with a minus before a number as its sign.
use Rattle.std.specs.Prelude.{◌≡◌, ◌<◌, length, ℕ, suc, false, ◌+◌, ◌-◌, ◌*◌, ◌^◌, ◌%◌, ◌==◌, ◌&&◌, ◌||◌, Bool, nat_lt, nat_le, if◌then◌else◌, List, [], ◌∷◌, Option, Some, None}
use Rattle.std.specs.Borrow.{Bor}
use Rattle.c_expressions.specs.declared.tokens.First.{First}
use Rattle.c_expressions.specs.declared.tokens.Token.{Token}
use Rattle.c_expressions.specs.declared.tokens.Token.TheVariants.{Name, Number, Dot, Arrow, Left, Right, Open, Close, Star, And}

-- ---- how a text is parted

-- a byte lies from one to another
abbrev pub lies_in : (low high byte : ℕ) → Bool
lies_in low high byte = nat_le low byte && nat_le byte high

-- words have digits, letters and underscores (95)
abbrev pub is_of_word : ℕ → Bool
is_of_word byte = lies_in 48 57 byte || (lies_in 65 90 byte || (lies_in 97 122 byte || byte == 95))

-- blanks (32) and tabs (9) stand between tokens
abbrev pub is_blank : ℕ → Bool
is_blank byte = byte == 32 || byte == 9

pub data Piece : Type 0 where
  Word : (word : List ℕ) → Piece
  -- a word behind a minus
  Negative : (word : List ℕ) → Piece
  -- ->
  Leads : Piece
  Blank : Piece
  Sign : (byte : ℕ) → Piece

-- a byte of a word begins the word that stands behind it, or is one alone
abbrev pub before_word : ℕ → List Piece → List Piece
before_word byte [] = Word (byte ∷ []) ∷ []
before_word byte (Word word ∷ pieces) = Word (byte ∷ word) ∷ pieces
before_word byte (Negative word ∷ pieces) = Word (byte ∷ []) ∷ Negative word ∷ pieces
before_word byte (Leads ∷ pieces) = Word (byte ∷ []) ∷ Leads ∷ pieces
before_word byte (Blank ∷ pieces) = Word (byte ∷ []) ∷ Blank ∷ pieces
before_word byte (Sign sign ∷ pieces) = Word (byte ∷ []) ∷ Sign sign ∷ pieces

-- a minus (45) belongs to the word right behind it, or to a `>` (62); else it stands alone
abbrev pub minus_before : List Piece → List Piece
minus_before [] = Sign 45 ∷ []
minus_before (Word word ∷ pieces) = Negative word ∷ pieces
minus_before (Negative word ∷ pieces) = Sign 45 ∷ Negative word ∷ pieces
minus_before (Leads ∷ pieces) = Sign 45 ∷ Leads ∷ pieces
minus_before (Blank ∷ pieces) = Sign 45 ∷ Blank ∷ pieces
minus_before (Sign sign ∷ pieces) = if sign == 62 then Leads ∷ pieces else Sign 45 ∷ Sign sign ∷ pieces

abbrev pub before : ℕ → List Piece → List Piece
before byte pieces =
    if is_of_word byte then before_word byte pieces
    else (if is_blank byte then Blank ∷ pieces
    else (if byte == 45 then minus_before pieces else Sign byte ∷ pieces))

abbrev pub pieces : List ℕ → List Piece
pieces [] = []
pieces (byte ∷ bytes) = before byte (pieces bytes)

-- ---- numbers

-- the value of a digit, in a base of 10 or 16
abbrev pub digit_value : ℕ → Option ℕ
digit_value byte =
    if lies_in 48 57 byte then Some (byte - 48)
    else (if lies_in 97 102 byte then Some (byte - 97 + 10) else (if lies_in 65 70 byte then Some (byte - 65 + 10) else None))

abbrev pub below : (base : ℕ) → Option ℕ → Option ℕ
below base (Some value) = if nat_lt value base then Some value else None
below base None = None

abbrev pub digit_of : (base byte : ℕ) → Option ℕ
digit_of base byte = below base (digit_value byte)

-- a number, with one more digit behind it; none from 2 ^ 64 on
abbrev pub with_digit : (base number : ℕ) → Option ℕ → Option ℕ
with_digit base number (Some digit) = if nat_lt (number * base + digit) (2 ^ 64) then Some (number * base + digit) else None
with_digit base number None = None

abbrev pub number_on : (base : ℕ) → Option ℕ → List ℕ → Option ℕ
number_on base None digits = None
number_on base (Some number) [] = Some number
number_on base (Some number) (byte ∷ digits) = number_on base (with_digit base number (digit_of base byte)) digits

-- the number that digits write, the highest first; none if another byte is among them
abbrev pub number_of : (base : ℕ) → (digits : List ℕ) → Option ℕ
number_of base digits = number_on base (Some 0) digits

-- ---- tokens

-- a text without the place where it stands
abbrev pub text_of : List ℕ → Bor (List ℕ)
text_of text = record { ref_ptr = (0, 0); now = text }

abbrev pub as_number : Option ℕ → Option Token
as_number (Some number) = Some (Number number)
as_number None = None

-- behind `0x` or `0X` (120, 88) stand hexadecimal digits, one at least
abbrev pub some_digits : List ℕ → Option (List ℕ)
some_digits [] = None
some_digits (digit ∷ digits) = Some (digit ∷ digits)

abbrev pub hexadecimal : List ℕ → Option (List ℕ)
hexadecimal [] = None
hexadecimal (first ∷ []) = None
hexadecimal (first ∷ mark ∷ digits) = if first == 48 && (mark == 120 || mark == 88) then some_digits digits else None

-- a word is a number if it begins with a digit, and else a name
abbrev pub plain_token : List ℕ → Option Token
plain_token [] = None
plain_token (byte ∷ bytes) = if lies_in 48 57 byte then as_number (number_of 10 (byte ∷ bytes)) else Some (Name (text_of (byte ∷ bytes)))

abbrev pub token_by : (word : List ℕ) → Option (List ℕ) → Option Token
token_by word (Some digits) = as_number (number_of 16 digits)
token_by word None = plain_token word

abbrev pub word_token : List ℕ → Option Token
word_token word = token_by word (hexadecimal word)

-- a number below zero, in two's complement
abbrev pub negative : Option Token → Option Token
negative (Some (Number number)) = Some (Number ((2 ^ 64 - number) % 2 ^ 64))
negative _ = None

-- . [ ] ( ) * &
abbrev pub sign_token : ℕ → Option Token
sign_token byte =
    if byte == 46 then Some Dot
    else (if byte == 91 then Some Left
    else (if byte == 93 then Some Right
    else (if byte == 40 then Some Open
    else (if byte == 41 then Some Close
    else (if byte == 42 then Some Star
    else (if byte == 38 then Some And else None))))))

abbrev pub then_tokens : Option Token → Option (List Token) → Option (List Token)
then_tokens (Some token) (Some tokens) = Some (token ∷ tokens)
then_tokens (Some token) None = None
then_tokens None tokens = None

abbrev pub tokens_of : List Piece → Option (List Token)
tokens_of [] = Some []
tokens_of (Word word ∷ pieces) = then_tokens (word_token word) (tokens_of pieces)
tokens_of (Negative word ∷ pieces) = then_tokens (negative (word_token word)) (tokens_of pieces)
tokens_of (Leads ∷ pieces) = then_tokens (Some Arrow) (tokens_of pieces)
tokens_of (Blank ∷ pieces) = tokens_of pieces
tokens_of (Sign byte ∷ pieces) = then_tokens (sign_token byte) (tokens_of pieces)

-- the tokens of a text, if each piece of it is one
abbrev pub tokens_in : List ℕ → Option (List Token)
tokens_in text = tokens_of (pieces text)

-- a token, without the place where its text stands
abbrev pub seen : Token → Token
seen (Name name) = Name (text_of name.now)
seen (Number number) = Number number
seen Dot = Dot
seen Arrow = Arrow
seen Left = Left
seen Right = Right
seen Open = Open
seen Close = Close
seen Star = Star
seen And = And

-- ---- what stands first

-- so many bytes of a word stand first
abbrev pub word_length : List ℕ → ℕ
word_length [] = 0
word_length (byte ∷ bytes) = if is_of_word byte then suc (word_length bytes) else 0

-- what is read first is this token, if it is one, and the tokens of the others stand behind it
abbrev pub first_and : Option Token → Option (List Token) → Option (List Token)
first_and (Some token) tokens = then_tokens (Some (seen token)) tokens
first_and None tokens = tokens

abbrev pub begins_with : (first : ℕ) → List ℕ → Bool
begins_with first [] = false
begins_with first (byte ∷ bytes) = byte == first

abbrev pub begins_word : List ℕ → Bool
begins_word [] = false
begins_word (byte ∷ bytes) = is_of_word byte

-- this stands first in a text: its tokens are this one, if it is one, and those of the rest, which is shorter
pub record IsFirst (text : List ℕ) (first : First) : Type 0 where
  pub parts : tokens_in text ≡ first_and first.token (tokens_in first.rest.now)
  pub shorter : length first.rest.now < length text

-- a token as a list
abbrev pub as_list : Option Token → List Token
as_list (Some token) = token ∷ []
as_list None = []
