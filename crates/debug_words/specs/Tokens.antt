-- The words of a line, as they are kept.
use Rattle.std.specs.Prelude.{◌≡◌, ℕ, nat_lt, List, slice_get, Option, None, Some, option_map, if◌then◌else◌}
use Rattle.debug_words.specs.declared.fault.WordErrorKind.{WordErrorKind}
use Rattle.debug_words.specs.declared.fault.WordErrorKind.TheVariants.{TooMuch}
use Rattle.debug_words.specs.declared.tokens.Tokens.{Tokens}

-- the one at a place; none if there are fewer
abbrev pub word_at : Tokens → (place : ℕ) → Option (List ℕ)
word_at tokens place = if nat_lt place tokens.count then option_map (λ w. w.now) (slice_get tokens.tokens place) else None

-- it is this word that is too much
abbrev pub IsTooMuch : Option (List ℕ) → WordErrorKind → Type 0
IsTooMuch word (TooMuch told) = word ≡ Some told.now
IsTooMuch word _ = ⊥
