-- Texts of values.
use Rattle.std.specs.Prelude.{◌≡◌, ℕ, ◌+◌, ◌-◌, ◌/◌, ◌%◌, ◌^◌, ◌==◌, ◌&&◌, ◌||◌, Bool, nat_lt, nat_le, if◌then◌else◌, false, List, [], ◌∷◌, ◌++◌, Option, Some, None, option_map, codes, ℤ}
use Rattle.std.specs.Fmt.{decimal, digits, signed_decimal}
use Rattle.std.specs.Int.{cast_unsigned, cast_signed, w64}
use Rattle.debug_info.specs.Numbers.{highest_of, signed_of, unsigned_of}
use Rattle.debug_info.specs.Spots.{after, number_at}
use Rattle.debug_info.specs.declared.places.Place.{Place}
use Rattle.debug_info.specs.declared.places.Place.TheVariants.{Memory, Register, Value, OptimizedOut, Unknown}
use Rattle.debug_info.specs.declared.scalars.Field.{Field}
use Rattle.debug_info.specs.declared.scalars.Scalar.{Scalar}
use Rattle.debug_info.specs.declared.scalars.Scalar.TheVariants.{Base, Pointer, Enumeration, Turned, Other}
use Rattle.debug_info.specs.declared.spots.Spot.{Spot}

-- ---- characters, as the C language writes them between quotes

-- the letter that stands for a code after a backslash: \a \b \t \n \v \f \r
abbrev pub letter_of : ℕ → Option (List ℕ)
letter_of byte =
    if byte == 7 then Some (codes "a")
    else (if byte == 8 then Some (codes "b")
    else (if byte == 9 then Some (codes "t")
    else (if byte == 10 then Some (codes "n")
    else (if byte == 11 then Some (codes "v")
    else (if byte == 12 then Some (codes "f")
    else (if byte == 13 then Some (codes "r") else None))))))

-- a character from the blank to the tilde is shown
abbrev pub is_shown : ℕ → Bool
is_shown byte = nat_le 32 byte && nat_le byte 126

-- the quote, and the backslash (92), have a backslash before them
abbrev pub is_quoted : (quote byte : ℕ) → Bool
is_quoted quote byte = byte == quote || byte == 92

-- a backslash (92), and three octal digits
abbrev pub octal_text : ℕ → List ℕ
octal_text byte = 92 ∷ decimal (byte / 64) ++ decimal (byte / 8 % 8) ++ decimal (byte % 8)

-- by a letter, by itself, or by its number in octal
abbrev pub character_by : (quote byte : ℕ) → Option (List ℕ) → List ℕ
character_by quote byte (Some letter) = 92 ∷ letter
character_by quote byte None =
    if is_shown byte then (if is_quoted quote byte then 92 ∷ byte ∷ [] else byte ∷ []) else octal_text byte

unfoldable pub character_text : (quote byte : ℕ) → List ℕ
character_text quote byte = character_by quote byte (letter_of byte)

-- ---- numbers of a base type (DWARF 5, section 7.8)

-- a character, and the quote (39) after it
unfoldable pub quoted_text : ℕ → List ℕ
quoted_text byte = character_text 39 byte ++ codes "'"

-- a code, and its character between quotes: the one of the lowest byte
unfoldable pub code_text : ℤ → List ℕ
code_text code = signed_decimal code ++ codes " '" ++ quoted_text (cast_unsigned w64 code % 256)

-- a character has 8 bits at most
abbrev pub short_code_text : (highest : ℕ) → ℤ → List ℕ
short_code_text highest code = if nat_lt 128 highest then codes "<unknown type>" else code_text code

abbrev pub truth_text : ℕ → List ℕ
truth_text n = if n == 0 then codes "false" else (if n == 1 then codes "true" else decimal n)

-- 0x and hexadecimal digits
abbrev pub hexadecimal : ℕ → List ℕ
hexadecimal n = codes "0x" ++ digits 16 false n

-- Encodings: boolean (2), float (4), signed (5), signed character (6), unsigned (7), unsigned character (8). A number has the bits up to its highest one, so also a field of characters has no more
abbrev pub number_text : (encoding highest number : ℕ) → List ℕ
number_text encoding highest number =
    if encoding == 2 then truth_text (unsigned_of highest number)
    else (if encoding == 4 then codes "bits " ++ hexadecimal (unsigned_of highest number)
    else (if encoding == 5 then signed_decimal (signed_of highest number)
    else (if encoding == 6 then short_code_text highest (signed_of highest number)
    else (if encoding == 7 then decimal (unsigned_of highest number)
    else (if encoding == 8 then short_code_text highest (cast_signed w64 (unsigned_of highest number))
    else codes "<unknown type>")))))

-- a text is put after another one
abbrev pub Adds : (text old new : List ℕ) → Type 0
Adds text old new = new ≡ old ++ text

-- the same, if it is said which
abbrev pub AddsIf : Option (List ℕ) → (old new : List ℕ) → Type 0
AddsIf None old new = Unit {0}
AddsIf (Some text) old new = Adds text old new

-- the name of a number in an enumeration is not said here
abbrev pub scalar_text : Scalar → (highest number : ℕ) → Option (List ℕ)
scalar_text (Base encoding) highest number = Some (number_text encoding highest number)
scalar_text Pointer highest number = Some (hexadecimal number)
scalar_text Enumeration highest number = None
scalar_text Turned highest number = Some (codes "<not known here>")
scalar_text Other highest number = Some (codes "<unknown type>")

-- ---- numbers that are read

-- of a number that may not be there
abbrev pub read_text : Scalar → (highest : ℕ) → Option ℕ → Option (List ℕ)
read_text scalar highest (Some number) = scalar_text scalar highest number
read_text scalar highest None = Some (codes "<not there>")

-- a number has 1, 2, 4 or 8 bytes
abbrev pub is_size : ℕ → Bool
is_size size = size == 1 || (size == 2 || (size == 4 || size == 8))

-- of so many bytes
abbrev pub value_text : Scalar → (size : ℕ) → (memory : ℕ → Option ℕ) → Spot → Option (List ℕ)
value_text scalar size memory spot =
    if is_size size
    then read_text scalar (highest_of size) (number_at memory spot size) else Some (codes "<not known here>")

-- of a field of so many bits, after so many bits of a structure: it begins in one of its bytes, and its bytes have 64 bits at most
abbrev pub field_text : Scalar → Field → (memory : ℕ → Option ℕ) → Spot → Option (List ℕ)
field_text scalar field memory spot =
    if field.bits == 0 || nat_lt (64 - field.place % 8) field.bits then Some (codes "<not known here>")
    else read_text scalar (2 ^ (field.bits - 1))
    (option_map (λ n. n / 2 ^ (field.place % 8)) (number_at memory (after (field.place / 8) spot) ((field.place % 8 + field.bits + 7) / 8)))

-- ---- values without bytes

-- what is told of a value in a register: if it isn't known, that
abbrev pub unless_known : Option ℕ → Option (List ℕ)
unless_known (Some value) = None
unless_known None = Some (codes "<not known here>")

-- what is told in place of a value that has no bytes
abbrev pub placeless_text : (registers : ℕ → Option ℕ) → Place → Option (List ℕ)
placeless_text registers OptimizedOut = Some (codes "<optimized out>")
placeless_text registers Unknown = Some (codes "<not known here>")
placeless_text registers (Memory address) = None
placeless_text registers (Register number) = unless_known (registers number)
placeless_text registers (Value number) = None

-- what is told of a value whose place gives no bytes: it is nowhere, or it isn't known where
abbrev pub told_placeless : Place → List ℕ
told_placeless OptimizedOut = codes "<optimized out>"
told_placeless _ = codes "<not known here>"

-- a text is this one, if it is said which
abbrev pub IsText : Option (List ℕ) → List ℕ → Type 0
IsText None text = Unit {0}
IsText (Some said) text = text ≡ said
