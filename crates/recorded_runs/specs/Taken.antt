-- What is taken out of a list at places, as the sources of a record's programs are.
use Rattle.std.specs.Prelude.{◌≡◌, ◌≢◌, ◌<◌, ℕ, List, length, get_or, set, Option, None}

module _ {X : Type 0} where
  -- a list, at a place of which nothing is any more
  abbrev pub without_at : (place : ℕ) → List (Option X) → List (Option X)
  without_at place list = set list place None

  -- what the list has at the place in a row of places, if none before it is the same; nothing, if the list ends before it
  abbrev pub IsTakenAt : (list : List (Option X)) → (places : List ℕ) → (taken : List (Option X)) → (i : ℕ) → Type 0
  IsTakenAt list places taken i = ((j : ℕ) → j < i → get_or places j 0 ≢ get_or places i 0) → get_or taken i None ≡ get_or list (get_or places i 0) None

  -- as many were taken as there are places, and each is what the list has at its place
  pub record AreTaken (list : List (Option X)) (places : List ℕ) (taken : List (Option X)) : Type 0 where
    pub count : length taken ≡ length places
    pub those : (i : ℕ) → i < length places → IsTakenAt list places taken i
