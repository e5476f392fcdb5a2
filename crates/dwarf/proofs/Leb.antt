-- Groups of seven bits, from the last one on.
use Rattle.dwarf.proofs.Prelude.{[], ℕ, ◌*◌, ◌+◌, ◌-◌, ◌/◌, ◌<◌, ◌^◌, ◌∙◌, ◌∷◌, ◌≡◌, ◌≤◌, add-one, ap, arith, below_64, Bool, drop, drop-cons, false, get_or, group, groups, le-ltb, length, List, ltb}
use Rattle.dwarf.proofs.Prelude.{None, refl, suc, sym, true, zero}

pub groups-drop : (negative : Bool) (bs : List ℕ) (k : ℕ) → k < length bs → groups negative (drop k bs) ≡ group negative (get_or bs k 0) + 128 * groups negative (drop (k + 1) bs)
groups-drop negative bs k lt = rw add-one (ap (groups negative) (drop-cons bs k 0 lt))

pub groups-least : (negative : Bool) (bs : List ℕ) (k : ℕ) → groups negative (drop k bs) ≤ groups negative bs
groups-least negative bs zero = omega arith
groups-least negative [] (suc k) = omega arith
groups-least negative (b ∷ bs) (suc k) = omega (arith, groups-least negative bs k)

pub below_64-none : (n m : ℕ) → n ≤ m → 2 ^ 64 ≤ n → below_64 m ≡ None
below_64-none n m le large = let e : ltb m (2 ^ 64) ≡ false = le-ltb _ _ (omega arith) in rw e refl

-- a number of more than 64 bits is met before the first group
pub groups-large : (negative : Bool) (bs : List ℕ) (left number low : ℕ) → 0 < left → left ≤ length bs → number ≡ groups negative (drop left bs) → low ≡ group negative (get_or bs (left - 1) 0)
    → (18446744073709551615 - low) / 128 < number → low < 128 → below_64 (groups negative bs) ≡ None
groups-large negative bs left number low some within here first large small =
    let e : left - 1 + 1 ≡ left = omega arith in
    let d : groups negative (drop (left - 1) bs) ≡ group negative (get_or bs (left - 1) 0) + 128 * groups negative (drop (left - 1 + 1) bs) = groups-drop negative bs (left - 1) (omega arith) in
    let same : groups negative (drop (left - 1 + 1) bs) ≡ number = ap (λ k. groups negative (drop k bs)) e ∙ sym here in
    below_64-none (groups negative (drop (left - 1) bs)) (groups negative bs) (groups-least negative bs (left - 1)) (omega (arith, d, same, first, large, small))
