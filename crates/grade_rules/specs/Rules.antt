-- What may be asked of the notes of a run.
use Rattle.std.specs.Prelude.{◌≡◌, ℕ, ◌<◌, ◌≤◌, ◌&&◌, Bool, true, false, List, [], ◌∷◌, length, take, slice_index, slice_index_or}
use Rattle.grade_rules.specs.declared.note.Note.{Note}
use Rattle.grade_rules.specs.declared.note.Note.TheVariants as note
use Rattle.grade_rules.specs.declared.order.Edge.{Edge}
use Rattle.grade_rules.specs.declared.numbers.Numbers.TheVariants.{Any}
use Rattle.grade_rules.specs.declared.pattern.Pattern.{Pattern}
use Rattle.grade_rules.specs.declared.pattern.Pattern.TheVariants.{Turn}
use Rattle.grade_rules.specs.Patterns.{fits, fits_one_of}

-- the note at a place; behind the last some other
abbrev pub note_at : List Note → ℕ → Note
note_at notes place = slice_index_or notes place (note.Turn 0)

-- there is a note at this place, and the pattern fits it
pub record StandsAt (pattern : Pattern) (notes : List Note) (place : ℕ) : Type 0 where
  pub within : place < length notes
  pub meant : fits pattern (note_at notes place) ≡ true

-- one of the patterns fits the note at this place
pub record IsOneAt (patterns : List Pattern) (notes : List Note) (place : ℕ) : Type 0 where
  pub within : place < length notes
  pub meant : fits_one_of patterns (note_at notes place) ≡ true

-- none of the patterns fits a note
abbrev pub IsNoneOf : List Pattern → List Note → Type 0
IsNoneOf patterns notes = (place : ℕ) → ¬ (IsOneAt patterns notes place)

-- before this place stands a note that the pattern fits
abbrev pub IsBefore : Pattern → List Note → ℕ → Type 0
IsBefore pattern notes place = (earlier : ℕ) × (earlier < place) × StandsAt pattern notes earlier

-- before each note that `next` fits stands one that `first` fits
abbrev pub IsEachBehind : (first next : Pattern) → List Note → Type 0
IsEachBehind first next notes = (place : ℕ) → StandsAt next notes place → IsBefore first notes place

-- the notes are as the patterns say, one by one
abbrev pub are_these : List Pattern → List Note → Bool
are_these [] [] = true
are_these [] (n ∷ notes) = false
are_these (pattern ∷ wanted) [] = false
are_these (pattern ∷ wanted) (n ∷ notes) = fits pattern n && are_these wanted notes

-- ---- steps in a partial order

-- the pattern of a step; any behind the last
abbrev pub step_at : List Pattern → ℕ → Pattern
step_at steps step = slice_index_or steps step (Turn Any)

-- the edge at a place
abbrev pub edge_at : List Edge → ℕ → Edge
edge_at edges k = slice_index_or edges k (record { before = 0; behind = 0 })

-- a place behind those of all the steps that have to stand before the step behind the last of these places
abbrev pub IsBehind : List Edge → (places : List ℕ) → (place : ℕ) → Type 0
IsBehind edges places place =
    (k : ℕ) → k < length edges → (edge_at edges k).behind ≡ length places → (edge_at edges k).before < length places
    → slice_index places (edge_at edges k).before < place

-- These are places for the first steps, as many as there are places: at each stands a note that the step fits, and the
-- place of a step is behind those of the steps that have to stand before it.
pub record IsArrangement (steps : List Pattern) (edges : List Edge) (notes : List Note) (places : List ℕ) : Type 0 where
  pub few : length places ≤ length steps
  pub stand : (step : ℕ) → step < length places → StandsAt (step_at steps step) notes (slice_index places step)
  pub ordered : (step : ℕ) → step < length places → IsBehind edges (take step places) (slice_index places step)

-- the steps can be arranged
abbrev pub IsInOrder : (steps : List Pattern) → List Edge → List Note → Type 0
IsInOrder steps edges notes = (places : List ℕ) × IsArrangement steps edges notes places × (length places ≡ length steps)
