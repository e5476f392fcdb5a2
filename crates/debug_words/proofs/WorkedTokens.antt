-- Worked cases of the words of a line.
use Rattle.std.proofs.Common.{◌≡◌, ℕ, List, ◌∷◌, None, Some, refl, Bor}
use Rattle.debug_words.specs.Tokens.{word_at}
use Rattle.debug_words.specs.declared.tokens.Tokens.{Tokens}

-- of two words the second, and no third, whatever stands in the room behind them
second : (t : Tokens) (one two : Bor (List ℕ)) (room : List (Bor (List ℕ))) → t.count ≡ 2 → t.tokens ≡ one ∷ two ∷ room → word_at t 1 ≡ Some two.now
second t one two room count there = rw (count, there) refl

no_third : (t : Tokens) → t.count ≡ 2 → word_at t 2 ≡ None
no_third t count = rw count refl
