-- A list that is written element by element, and one that is read so.
use Rattle.std.proofs.Common.{◌≡◌, ℕ, ◌+◌, ◌<◌, List, ◌++◌, length, get_or, take, drop, Option, Some, ap, sym, ◌∙◌}
use Rattle.std.specs.List.{flat_map}
use Rattle.std.proofs.lemmas.List.{take_more, flat_map_more, at_drop_more}
use Rattle.gdb_packets.specs.Digits.{digit_value, with_digit, number_on}

-- the piece of one element more stands behind those of the elements before it
pub one_piece_more : {X A : Type 0} (f : X → List A) (before old new : List A) (xs : List X) (i : ℕ) (d : X) → i < length xs
    → old ≡ before ++ flat_map f (take i xs) → new ≡ old ++ f (get_or xs i d) → new ≡ before ++ flat_map f (take (i + 1) xs)
one_piece_more {X} {A} f before old new xs i d lt was is =
    is ∙ ap (λ (bs : List A). bs ++ f (get_or xs i d)) was ∙ flat_map_more f before (take i xs) (get_or xs i d)
    ∙ ap (λ (ys : List X). before ++ flat_map f ys) (sym (take_more xs i d lt))

-- one digit more is read
pub one_digit_more : (digits : List ℕ) (i n m : ℕ) → i < length digits → with_digit n (digit_value (get_or digits i 0)) ≡ Some m
    → number_on (Some n) (drop i digits) ≡ number_on (Some m) (drop (i + 1) digits)
one_digit_more digits i n m lt is =
    at_drop_more (λ (ds : List ℕ). number_on (Some n) ds) digits i 0 lt ∙ ap (λ (k : Option ℕ). number_on k (drop (i + 1) digits)) is
