-- The forms in which a student may write a line: blanks, marks around it, and capitals don't count.
use Rattle.std.specs.Prelude.{ℕ, ◌-◌, Bool, not, if◌then◌else◌, ◌||◌, ◌==◌, List, [], ◌∷◌, length, take, drop, flat_map}
use Rattle.std.specs.Char.{is_ascii_whitespace}
use Rattle.std.specs.List.{prefix_len, suffix_len}

-- a blank, or a mark by which Markdown heads, stresses or quotes: # (35), * (42), > (62), _ (95), ` (96)
abbrev pub is_mark : ℕ → Bool
is_mark b = is_ascii_whitespace b || (b == 35 || (b == 42 || (b == 62 || (b == 95 || b == 96))))

-- the same, or a mark by which it begins the item of a list: + (43), - (45); * is among the others
abbrev pub is_item_mark : ℕ → Bool
is_item_mark b = is_mark b || (b == 43 || b == 45)

-- the same as the first, or a mark that ends a sentence or a part of one: , (44), . (46), ; (59)
abbrev pub is_end_mark : ℕ → Bool
is_end_mark b = is_mark b || (b == 44 || (b == 46 || b == 59))

-- without such bytes at the beginning, or at the end
abbrev pub without_marks : List ℕ → List ℕ
without_marks text = drop (prefix_len is_mark text) text

abbrev pub without_item : List ℕ → List ℕ
without_item text = drop (prefix_len is_item_mark text) text

abbrev pub without_end_marks : List ℕ → List ℕ
without_end_marks text = take (length text - suffix_len is_end_mark text) text

-- what a line means, if it says one thing alone
abbrev pub plain : List ℕ → List ℕ
plain line = without_end_marks (without_item line)

-- the first word of a text: what stands before its first blank
abbrev pub is_no_blank : ℕ → Bool
is_no_blank b = not (is_ascii_whitespace b)

abbrev pub word_of : List ℕ → List ℕ
word_of text = take (prefix_len is_no_blank text) text

-- without the commas in it: `1,023` is 1023
abbrev pub unless_comma : ℕ → List ℕ
unless_comma b = if b == 44 then [] else b ∷ []

abbrev pub without_commas : List ℕ → List ℕ
without_commas word = flat_map unless_comma word
