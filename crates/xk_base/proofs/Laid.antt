-- Bytes that are laid over others, and where the texts of a stack stand.
use Rattle.std.proofs.Common.{◌≡◌, ℕ, ◌+◌, ◌-◌, ◌<◌, ◌≤◌, true, cond, List, [], ◌∷◌, length, ap, ◌∙◌, arith}
use Rattle.std.specs.Prelude.{◌&&◌, nat_lt, slice_index}
use Rattle.std.proofs.lemmas.Bool.{lt-ltb, le-leb, lt-leb}
use Rattle.xk_base.specs.Loaded.{over, down, text_places, lowest}

pub over-in : (s : ℕ) (bytes : List ℕ) (byte : ℕ → ℕ) (a : ℕ) → s ≤ a → a < s + length bytes → over s bytes byte a ≡ slice_index bytes (a - s)
over-in s bytes byte a lo hi =
    ap (λ t. cond (t && nat_lt a (s + length bytes)) (slice_index bytes (a - s)) (byte a)) (le-leb s a lo)
    ∙ ap (λ t. cond (true && t) (slice_index bytes (a - s)) (byte a)) (lt-ltb a (s + length bytes) hi)

pub over-below : (s : ℕ) (bytes : List ℕ) (byte : ℕ → ℕ) (a : ℕ) → a < s → over s bytes byte a ≡ byte a
over-below s bytes byte a lo = ap (λ t. cond (t && nat_lt a (s + length bytes)) (slice_index bytes (a - s)) (byte a)) (lt-leb s a lo)

pub lowest-le : (texts : List (List ℕ)) (top : ℕ) → lowest top (text_places top texts) ≤ top
lowest-le [] top = omega arith
lowest-le (text ∷ later) top = omega (arith, lowest-le later (down top (length text + 1)))
