-- When a rule holds, and what a judgement of it says.
use Rattle.std.specs.Prelude.{◌≡◌, ◌<◌, ◌≤◌, List, length, filter, map, take, count_by, Bool, true, false, ℕ}
use Rattle.grade_rules.specs.declared.note.Note.{Note}
use Rattle.grade_rules.specs.declared.order.Order.{Order}
use Rattle.grade_rules.specs.declared.order.Order.TheVariants as order
use Rattle.grade_rules.specs.declared.rule.Rule.{Rule}
use Rattle.grade_rules.specs.declared.rule.Rule.TheVariants.{Count, NoneOf, Before, InOrder, Exactly}
use Rattle.grade_rules.specs.declared.rule.Judgement.{Judgement}
use Rattle.grade_rules.specs.declared.rule.Judgement.TheVariants.{Holds, Counted, Unwanted, Alone, Missing, Other}
use Rattle.grade_rules.specs.declared.pattern.Pattern.{Pattern}
use Rattle.grade_rules.specs.declared.order.Edge.{Edge}
use Rattle.grade_rules.specs.declared.pipes.Choice.{Choice}
use Rattle.grade_rules.specs.Choices.{is_choice, pattern_with}
use Rattle.grade_rules.specs.Patterns.{fits, fits_one_of}
use Rattle.grade_rules.specs.Rules.{note_at, step_at, StandsAt, IsOneAt, IsNoneOf, IsBefore, IsEachBehind, are_these, IsArrangement, IsInOrder}

-- what patterns say by a choice of pipes
abbrev pub all_with : Choice → List Pattern → List Pattern
all_with choice patterns = map (pattern_with choice) patterns

-- a rule holds of notes, if its letters stand for these pipes
abbrev pub HoldsBy : Choice → Rule → List Note → Type 0
HoldsBy choice (Count pattern least most) notes = (least ≤ count_by (fits (pattern_with choice pattern)) notes) × (count_by (fits (pattern_with choice pattern)) notes ≤ most)
HoldsBy choice (NoneOf patterns) notes = IsNoneOf (all_with choice patterns.items) notes
HoldsBy choice (Before first next) notes = IsEachBehind (pattern_with choice first) (pattern_with choice next) notes
HoldsBy choice (InOrder steps edges) notes = IsInOrder (all_with choice steps.items) edges.items notes
HoldsBy choice (Exactly of wanted) notes = are_these (all_with choice wanted.items) (filter (fits_one_of (all_with choice of.items)) notes) ≡ true

-- it does for some choice of pipes
abbrev pub HoldsOf : Rule → List Note → Type 0
HoldsOf rule notes = (choice : Choice) × (is_choice choice ≡ true) × HoldsBy choice rule notes

-- the steps before this one can be arranged, and with it they can't
pub record IsMissing (steps : List Pattern) (edges : List Edge) (notes : List Note) (step : ℕ) : Type 0 where
  pub within : step < length steps
  pub before : (places : List ℕ) × IsArrangement steps edges notes places × (length places ≡ step)
  pub no_more : (places : List ℕ) → IsArrangement steps edges notes places → length places ≤ step

-- Up to this place the notes that one of the patterns `of` fits are the first that are wanted, so many as are done; and the note there isn't the next one, or no note is left and more is wanted
pub record IsOther (of wanted : List Pattern) (notes : List Note) (place : ℕ) : Type 0 where
  pub done : ℕ
  pub few : done ≤ length wanted
  pub within : place ≤ length notes
  pub before : are_these (take done wanted) (filter (fits_one_of of) (take place notes)) ≡ true
  pub there : place < length notes → fits_one_of of (note_at notes place) ≡ true
  pub not_next : place < length notes → done < length wanted → fits (step_at wanted done) (note_at notes place) ≡ false
  pub too_few : place ≡ length notes → done < length wanted

-- what is told of steps in an order
abbrev pub OrderTold : (steps : List Pattern) → List Edge → List Note → Order → Type 0
OrderTold steps edges notes (order.Arranged places) = IsArrangement steps edges notes places.items × (length places.items ≡ length steps)
OrderTold steps edges notes (order.Missing step) = IsMissing steps edges notes step

-- what shows that a rule doesn't hold, if its letters stand for these pipes
abbrev pub ShowsBy : Choice → Rule → List Note → Judgement → Type 0
ShowsBy choice (Count pattern least most) notes (Counted found) = found ≡ count_by (fits (pattern_with choice pattern)) notes
ShowsBy choice (NoneOf patterns) notes (Unwanted place) = IsOneAt (all_with choice patterns.items) notes place × IsNoneOf (all_with choice patterns.items) (take place notes)
ShowsBy choice (Before first next) notes (Alone place) = StandsAt (pattern_with choice next) notes place × (¬ (IsBefore (pattern_with choice first) notes place))
ShowsBy choice (InOrder steps edges) notes (Missing step) = IsMissing (all_with choice steps.items) edges.items notes step
ShowsBy choice (Exactly of wanted) notes (Other place) = IsOther (all_with choice of.items) (all_with choice wanted.items) notes place
ShowsBy choice _ _ _ = ⊥

-- a judgement of a rule, if its letters stand for these pipes: that it holds, or that it doesn't, and what shows it
abbrev pub IsJudgedBy : Choice → Rule → List Note → Judgement → Type 0
IsJudgedBy choice rule notes Holds = HoldsBy choice rule notes
IsJudgedBy choice rule notes judgement = (¬ (HoldsBy choice rule notes)) × ShowsBy choice rule notes judgement

-- it is one of some choice of pipes
abbrev pub IsOfAChoice : Rule → List Note → Judgement → Type 0
IsOfAChoice rule notes judgement = (choice : Choice) × (is_choice choice ≡ true) × IsJudgedBy choice rule notes judgement

-- a judgement of a rule: that it holds, or that it doesn't, and what shows it for some choice of pipes
abbrev pub IsJudged : Rule → List Note → Judgement → Type 0
IsJudged rule notes Holds = HoldsOf rule notes
IsJudged rule notes judgement = (¬ (HoldsOf rule notes)) × IsOfAChoice rule notes judgement

-- a judgement says that the rule holds
abbrev pub is_holding : Judgement → Bool
is_holding Holds = true
is_holding (Counted found) = false
is_holding (Unwanted place) = false
is_holding (Alone place) = false
is_holding (Missing step) = false
is_holding (Other place) = false
