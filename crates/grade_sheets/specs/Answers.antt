-- Questions and their answers in a text: lines `QUESTION: ANSWER`.
use Rattle.std.specs.Prelude.{◌≡◌, ℕ, Bool, true, List, length, nat_lt, ◌&&◌, ◌||◌, ◌==◌, count_by}
use Rattle.std.specs.Char.{is_ascii_digit}
use Rattle.std.specs.List.{list_any, list_all, before_first, after_first}
use Rattle.std.specs.Str.{str_eq_ignore_ascii_case}
use Rattle.std.specs.Str.Lines.{lines}
use Rattle.grade_sheets.specs.Forms.{without_marks, without_end_marks, plain, word_of, without_commas}

abbrev pub is_colon : ℕ → Bool
is_colon b = b == 58

-- what a line asks: what stands before its first colon, without the marks around it
abbrev pub question_of : List ℕ → List ℕ
question_of line = plain (before_first is_colon line)

-- what it answers: what stands after that colon, without the marks around it
abbrev pub whole_answer : List ℕ → List ℕ
whole_answer line = without_end_marks (without_marks (after_first is_colon line))

-- or the first word of that, so that an explanation may follow, and without commas, so that a number may have them
abbrev pub short_answer : List ℕ → List ℕ
short_answer line = without_commas (without_end_marks (word_of (without_marks (after_first is_colon line))))

-- a line has a colon, and asks this, in capitals or not
abbrev pub asks : (question line : List ℕ) → Bool
asks question line = list_any is_colon line && str_eq_ignore_ascii_case (question_of line) question

-- it asks this, and this is its whole answer or its short one, in capitals or not
abbrev pub says : (question answer line : List ℕ) → Bool
says question answer line =
    asks question line && (str_eq_ignore_ascii_case (whole_answer line) answer || str_eq_ignore_ascii_case (short_answer line) answer)

-- the text has one answer to the question, and it is this one
pub record IsOnlyAnswer (question answer text : List ℕ) : Type 0 where
  pub one : count_by (asks question) (lines text) ≡ 1
  pub this : list_any (says question answer) (lines text) ≡ true

-- digits, one or more
abbrev pub are_digits : List ℕ → Bool
are_digits text = nat_lt 0 (length text) && list_all is_ascii_digit text

-- a line has a colon, and a number stands in the place of its question
abbrev pub asks_by_number : List ℕ → Bool
asks_by_number line = list_any is_colon line && are_digits (question_of line)

-- how many lines of a text do so
abbrev pub numbered : List ℕ → ℕ
numbered text = count_by asks_by_number (lines text)
