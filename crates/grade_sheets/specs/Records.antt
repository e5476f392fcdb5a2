-- A submission's line in a table of results.
use Rattle.std.specs.Prelude.{ℕ, List, [], ◌∷◌, codes, string_bytes}
use Rattle.std.specs.Fmt.{decimal}
use Rattle.csv.specs.Writing.{default_writer, row_text}
use Rattle.grade_sheets.specs.declared.grade.Grade.{Grade}
use Rattle.grade_sheets.specs.declared.grade.Standing.{Standing}
use Rattle.grade_sheets.specs.declared.grade.Standing.TheVariants.{Right, Wrong, Fault, Loops, Waits, Floods, TooMuch, Budget, Refused}

-- the word for what a submission comes to
abbrev pub word_of : Standing → List ℕ
word_of Right = codes "right"
word_of Wrong = codes "wrong"
word_of Fault = codes "fault"
word_of Loops = codes "loops"
word_of Waits = codes "waits"
word_of Floods = codes "floods"
word_of TooMuch = codes "too much"
word_of Budget = codes "budget"
word_of Refused = codes "refused"

-- its fields: the submission's name, its points, of how many, what it comes to, and why
abbrev pub fields_of_line : (name : List ℕ) → Grade → List (List ℕ)
fields_of_line name grade = name ∷ decimal grade.points ∷ decimal grade.of ∷ word_of grade.standing ∷ string_bytes grade.reason ∷ []

-- the line, as CSV has it
abbrev pub line_of : (name : List ℕ) → Grade → List ℕ
line_of name grade = row_text default_writer (fields_of_line name grade)
