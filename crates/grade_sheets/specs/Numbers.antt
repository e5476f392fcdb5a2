-- Numbers that stand alone in lines.
use Rattle.std.specs.Prelude.{ℕ, ◌+◌, ◌<◌, ◌≤◌, ◌^◌, Bool, ◌&&◌, nat_lt, ◌==◌, if◌then◌else◌, List, length, flat_map, Option, None, Some, slice_index}
use Rattle.std.specs.Char.{is_digit}
use Rattle.std.specs.List.{list_all, slice_split}
use Rattle.std.specs.Option.{option_to_list}
use Rattle.std.specs.Str.Parse.{without_leading_plus, digits_value}
use Rattle.grade_sheets.specs.Blanks.{without_blanks}

-- one decimal digit or more, and nothing else
abbrev pub is_numeral : List ℕ → Bool
is_numeral digits = nat_lt 0 (length digits) && list_all (λ c. is_digit c 10) digits

-- the number that digits are, if it is below 2^64
abbrev pub number_of : List ℕ → Option ℕ
number_of digits = if is_numeral digits && nat_lt (digits_value 10 digits) (2 ^ 64) then Some (digits_value 10 digits) else None

-- the number that stands alone in a line: blanks around it don't count, nor does a plus before it
abbrev pub number_in : List ℕ → Option ℕ
number_in line = number_of (without_leading_plus (without_blanks line))

abbrev pub ends_line : ℕ → Bool
ends_line byte = byte == 10

-- the number that a line has, if it has one
abbrev pub if_number : List ℕ → List ℕ
if_number line = option_to_list (number_in line)

-- the numbers that stand alone in lines, in their order
abbrev pub numbers_in : List ℕ → List ℕ
numbers_in shown = flat_map if_number (slice_split ends_line shown)

-- two numbers or more, each of which is at least so much above the one before it
pub record AreRising (least : ℕ) (numbers : List ℕ) : Type 0 where
  pub two : 2 ≤ length numbers
  pub each : (place : ℕ) → place + 1 < length numbers → slice_index numbers place + least ≤ slice_index numbers (place + 1)
