-- What a run comes to, and what a submission does.
use Rattle.std.specs.Prelude.{◌≡◌, ℕ, Bool, true, false, List, [], ◌∷◌, map, is_none, Option, None, Some, string_bytes}
use Rattle.std.specs.List.{list_any, list_all}
use Rattle.grade_rules.specs.declared.note.Note.{Note}
use Rattle.grade_rules.specs.declared.note.Note.TheVariants as note
use Rattle.grade_rules.specs.declared.pattern.Pattern.{Pattern}
use Rattle.grade_rules.specs.declared.pattern.Pattern.TheVariants as shapes
use Rattle.grade_rules.specs.declared.rule.Rule.{Rule}
use Rattle.grade_rules.specs.declared.rule.Rule.TheVariants.{Count, NoneOf, Before, InOrder, Exactly}
use Rattle.grade_sheets.specs.Grades.{AreMarked}
use Rattle.grade_sheets.specs.Points.{asked_for, points_for}
use Rattle.grade_sheets.specs.declared.asked.Asked.{Asked}
use Rattle.grade_sheets.specs.declared.asked.Check.{Check}
use Rattle.grade_sheets.specs.declared.asked.Check.TheVariants.{Line, Numbered, Predicts, Notes}
use Rattle.grade_sheets.specs.declared.grade.RunGrade.{RunGrade}
use Rattle.grade_sheets.specs.declared.grade.Standing.{Standing}
use Rattle.grade_sheets.specs.declared.grade.Standing.TheVariants.{Right, Wrong, Fault, Loops, Waits, Floods, TooMuch, Budget, Refused}
use Rattle.grade_rules.specs.declared.ending.End.{End}
use Rattle.grade_rules.specs.declared.ending.End.TheVariants as ends
use Rattle.grade_sheets.specs.declared.judging.Mark.{Mark}
use Rattle.grade_sheets.specs.declared.judging.Seen.{Seen}

abbrev pub is_fault : Note → Bool
is_fault (note.Faulted pid cause) = true
is_fault _ = false

abbrev pub is_on_faults : Pattern → Bool
is_on_faults (shapes.Faulted who whys) = true
is_on_faults _ = false

-- a rule asks for faults
abbrev pub names_faults : Rule → Bool
names_faults (Count pattern least most) = is_on_faults pattern
names_faults (NoneOf patterns) = false
names_faults (Before first next) = false
names_faults (InOrder steps edges) = list_any is_on_faults steps.items
names_faults (Exactly of wanted) = list_any is_on_faults wanted.items

-- of what is asked: a run that has it may have faults, by its rule, or since the programs aren't the student's
abbrev pub check_may_fault : Check → Bool
check_may_fault (Line question wanted) = true
check_may_fault (Numbered most) = true
check_may_fault (Predicts words most) = true
check_may_fault (Notes rule texts) = names_faults rule
check_may_fault _ = false

abbrev pub may_fault : Asked → Bool
may_fault one = list_any check_may_fault one.checks.items

-- the run has what the mark is for
abbrev pub has : Mark → Bool
has mark = is_none mark.why

-- a run that ends, and doesn't have all: a fault that isn't asked for is named
abbrev pub ended : (may_fault faulted : Bool) → Standing
ended false true = Fault
ended false false = Wrong
ended true faulted = Wrong

-- what a run comes to, by whether it has all that is asked, may have faults, has one, and by its end
abbrev pub standing_of : (is_right may_fault faulted : Bool) → End → Standing
standing_of true may_fault faulted e = Right
standing_of false may_fault faulted (ends.Exited status) = ended may_fault faulted
standing_of false may_fault faulted ends.Waits = Waits
standing_of false may_fault faulted ends.Floods = Floods
standing_of false may_fault faulted ends.Computes = Loops
standing_of false may_fault faulted ends.TooManyNotes = TooMuch
standing_of false may_fault faulted ends.TooMuchShown = TooMuch
standing_of false may_fault faulted ends.OverBudget = Budget

-- what is told of a run
pub record IsGraded (asked : List Asked) (seen : Seen) (grade : RunGrade) : Type 0 where
  pub marks : AreMarked asked seen grade.marks.items
  pub standing : grade.standing ≡ standing_of (list_all has grade.marks.items) (list_any may_fault asked) (list_any is_fault seen.notes.now) seen.end

-- What is told of a run that can't be made: it is refused, and there is a mark for each thing that is asked, in their order, for what it isn't given
pub record IsUngraded (asked : List Asked) (grade : RunGrade) : Type 0 where
  pub marks : map points_for grade.marks.items ≡ map asked_for asked
  pub none : list_any has grade.marks.items ≡ false
  pub standing : grade.standing ≡ Refused

-- what runs come to together: what the first comes to that isn't right
abbrev pub unless_right : Standing → Standing → Standing
unless_right Right next = next
unless_right Wrong next = Wrong
unless_right Fault next = Fault
unless_right Loops next = Loops
unless_right Waits next = Waits
unless_right Floods next = Floods
unless_right TooMuch next = TooMuch
unless_right Budget next = Budget
unless_right Refused next = Refused

abbrev pub first_standing : List RunGrade → Standing
first_standing [] = Right
first_standing (run ∷ runs) = unless_right run.standing (first_standing runs)

-- why the first run that isn't right couldn't be made, if it couldn't
abbrev pub refusal_or : Standing → (cause : List ℕ) → (next : Option (List ℕ)) → Option (List ℕ)
refusal_or Right cause next = next
refusal_or Refused cause next = Some cause
refusal_or Wrong cause next = None
refusal_or Fault cause next = None
refusal_or Loops cause next = None
refusal_or Waits cause next = None
refusal_or Floods cause next = None
refusal_or TooMuch cause next = None
refusal_or Budget cause next = None

abbrev pub first_refusal : List RunGrade → Option (List ℕ)
first_refusal [] = None
first_refusal (run ∷ runs) = refusal_or run.standing (string_bytes run.cause) (first_refusal runs)
