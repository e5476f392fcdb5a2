-- When a run has what is asked of it, and what its marks say.
use Rattle.std.specs.Prelude.{◌≡◌, ◌↔◌, ◌≤◌, ℕ, Bool, IsTrue, is_none, List, [], ◌∷◌, string_bytes}
use Rattle.std.specs.List.{list_all}
use Rattle.std.specs.Fmt.{signed_decimal}
use Rattle.std.specs.Str.Iter.{HasSubslice}
use Rattle.grade_rules.specs.Judged.{HoldsOf}
use Rattle.grade_sheets.specs.declared.asked.Answer.{Answer}
use Rattle.grade_sheets.specs.declared.asked.Answer.TheVariants as answer
use Rattle.grade_sheets.specs.declared.asked.Asked.{Asked}
use Rattle.grade_sheets.specs.declared.asked.Check.{Check}
use Rattle.grade_sheets.specs.declared.asked.Check.TheVariants.{Status, Shown, Shows, Rise, Numbers, Line, Numbered, Predicts, Notes}
use Rattle.grade_rules.specs.declared.ending.End.{End}
use Rattle.grade_rules.specs.declared.ending.End.TheVariants.{Exited}
use Rattle.grade_sheets.specs.Answers.{IsOnlyAnswer, numbered}
use Rattle.grade_sheets.specs.Numbers.{numbers_in, AreRising}
use Rattle.grade_sheets.specs.Predictions.{IsPredicted}
use Rattle.grade_sheets.specs.declared.judging.Seen.{Seen}
use Rattle.grade_sheets.specs.declared.judging.Mark.{Mark}

-- a text has one answer to a question, and that is the status of a run that ended so: none if it didn't exit
abbrev pub IsStatusSaid : (question text : List ℕ) → End → Type 0
IsStatusSaid question text (Exited status) = IsOnlyAnswer question (signed_decimal status) text
IsStatusSaid question text _ = ⊥

-- what was handed in has one answer to a question, and the right one
abbrev pub IsSaid : (question : List ℕ) → Answer → Seen → Type 0
IsSaid question (answer.Text wanted) seen = IsOnlyAnswer question (string_bytes wanted) seen.handed_in.now
IsSaid question answer.Status seen = IsStatusSaid question seen.handed_in.now seen.end

-- The answer to whether a run has one thing: its exit has this status, it shows just this text, it shows this text somewhere, it shows numbers that rise, it shows these numbers and no others, what was handed in answers a question, asks by numbers so often at most, or is what was to be predicted, and its notes keep a rule
abbrev pub IsAnswered : Check → Seen → Bool → Type 0
IsAnswered (Status wanted) seen has = IsTrue has ↔ (seen.end ≡ Exited wanted)
IsAnswered (Shown wanted) seen has = IsTrue has ↔ (string_bytes wanted ≡ seen.shown.now)
IsAnswered (Shows part) seen has = IsTrue has ↔ HasSubslice seen.shown.now (string_bytes part)
IsAnswered (Rise least) seen has = IsTrue has ↔ AreRising least (numbers_in seen.shown.now)
IsAnswered (Numbers wanted) seen has = IsTrue has ↔ (wanted.items ≡ numbers_in seen.shown.now)
IsAnswered (Line question wanted) seen has = IsTrue has ↔ IsSaid (string_bytes question) wanted seen
IsAnswered (Numbered most) seen has = IsTrue has ↔ (numbered seen.handed_in.now ≤ most)
IsAnswered (Predicts words most) seen has = IsTrue has ↔ IsPredicted words.items most seen
IsAnswered (Notes rule texts) seen has = IsTrue has ↔ HoldsOf rule seen.notes.now

-- an answer for each thing, in their order
abbrev pub AreEachAnswered : List Check → Seen → List Bool → Type 0
AreEachAnswered [] seen [] = Unit {0}
AreEachAnswered [] seen (has ∷ rest) = ⊥
AreEachAnswered (check ∷ checks) seen [] = ⊥
AreEachAnswered (check ∷ checks) seen (has ∷ rest) = IsAnswered check seen has × AreEachAnswered checks seen rest

-- the answer to whether a run has all of several things
pub record AreAnswered (checks : List Check) (seen : Seen) (has : Bool) : Type 0 where
  pub answers : List Bool
  pub each : AreEachAnswered checks seen answers
  pub all : has ≡ list_all (λ b. b) answers

-- The mark for a rule: with its points, and a reason exactly if the run doesn't have all that the rule asks
pub record IsMarked (asked : Asked) (seen : Seen) (mark : Mark) : Type 0 where
  pub points : mark.points ≡ asked.points
  pub answer : AreAnswered asked.checks.items seen (is_none mark.why)

-- a mark for each thing that is asked, in their order
abbrev pub AreMarked : List Asked → Seen → List Mark → Type 0
AreMarked [] seen [] = Unit {0}
AreMarked [] seen (mark ∷ marks) = ⊥
AreMarked (one ∷ asked) seen [] = ⊥
AreMarked (one ∷ asked) seen (mark ∷ marks) = IsMarked one seen mark × AreMarked asked seen marks
