-- Argument texts, and when one more is refused.
use Rattle.std.specs.Prelude.{◌≡◌, ℕ, ◌+◌, ◌<◌, ◌==◌, nat_lt, if◌then◌else◌, List, [], ◌∷◌, ◌++◌, length, take, drop, slice_index, Result, Ok, Err}
use Rattle.std.specs.List.{flat_map}
use Rattle.xk_base.specs.Words.{le_bytes}
use Rattle.xk_base.specs.Loaded.{down}
use Rattle.xk_base.specs.declared.limits.TheConstants.{MAXARG, ARG_BYTES}
use Rattle.xk_base.specs.declared.errors.ExecError.{ExecError}
use Rattle.xk_base.specs.declared.errors.ExecError.TheVariants.{TooManyArgs, ArgsTooLong}

-- the texts, each with a zero byte behind it, one behind another
abbrev pub terminated : List (List ℕ) → List ℕ
terminated = flat_map (λ text. text ++ 0 ∷ [])

-- whether a list of texts takes one more
abbrev pub push_refusal : List (List ℕ) → List ℕ → Result (Unit {0}) ExecError
push_refusal texts text =
    if length texts == MAXARG
    then Err TooManyArgs
    else if nat_lt ARG_BYTES (length (terminated (texts ++ text ∷ []))) then Err ArgsTooLong else Ok tt

-- ---- how a list of texts is kept

-- the texts of these lengths, each with a byte behind it
abbrev pub texts_of : List ℕ → List ℕ → List (List ℕ)
texts_of [] bytes = []
texts_of (n ∷ later) bytes = take n bytes ∷ texts_of later (drop (n + 1) bytes)

-- the bytes are texts of these lengths, each with a zero byte behind it, and nothing else
abbrev pub IsSplit : List ℕ → List ℕ → Type 0
IsSplit [] bytes = length bytes ≡ 0
IsSplit (n ∷ later) bytes = (n < length bytes) × (slice_index bytes n ≡ 0) × IsSplit later (drop (n + 1) bytes)

-- where texts of these lengths lie below an address
abbrev pub places_by : ℕ → List ℕ → List ℕ
places_by top [] = []
places_by top (n ∷ later) = let at = down top (n + 1) in at ∷ places_by at later

-- their addresses and a null pointer, 8 bytes each
abbrev pub pointers_by : ℕ → List ℕ → List ℕ
pointers_by top ns = flat_map (le_bytes 8) (places_by top ns ++ 0 ∷ [])

-- the lowest of these places, or the address where there are none
abbrev pub lowest_by : ℕ → List ℕ → ℕ
lowest_by top [] = top
lowest_by top (n ∷ later) = lowest_by (down top (n + 1)) later
