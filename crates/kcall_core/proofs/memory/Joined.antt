-- How often a frame stands in lists that are all_joined.
use Rattle.kcall_core.proofs.Prelude.{[], ℕ, ◌+◌, ◌<◌, ◌∷◌, ◌≡◌, ◌≢◌, ◌≤◌, all_joined, arith, copies, copies-append, copies-nil, get_or, length, List, refl, set, suc, zero}

joined-cons : (x : ℕ) (xs : List ℕ) (rest : List (List ℕ)) → copies x (all_joined (xs ∷ rest)) ≡ copies x xs + copies x (all_joined rest)
unfolding all_joined
joined-cons x xs rest = copies-append x xs (all_joined rest)

-- one list is another
pub joined-set : (x : ℕ) (lists : List (List ℕ)) (i : ℕ) (ys : List ℕ) → i < length lists
    → copies x (all_joined (set lists i ys)) + copies x (get_or lists i []) ≡ copies x (all_joined lists) + copies x ys
joined-set x [] i ys lt = absurd (omega arith)
joined-set x (xs ∷ rest) zero ys lt = omega (arith, joined-cons x ys rest, joined-cons x xs rest)
joined-set x (xs ∷ rest) (suc i) ys lt = omega (arith, joined-cons x xs (set rest i ys), joined-cons x xs rest, joined-set x rest i ys (omega arith))

-- what stands in one list stands in all
pub joined-has : (x : ℕ) (lists : List (List ℕ)) (i : ℕ) → copies x (get_or lists i []) ≤ copies x (all_joined lists)
joined-has x [] i = omega (arith, copies-nil x)
joined-has x (xs ∷ rest) zero = omega (arith, joined-cons x xs rest)
joined-has x (xs ∷ rest) (suc i) = omega (arith, joined-cons x xs rest, joined-has x rest i)

-- two lists at different places
pub joined-two : (x : ℕ) (lists : List (List ℕ)) (i j : ℕ) → i ≢ j → copies x (get_or lists i []) + copies x (get_or lists j []) ≤ copies x (all_joined lists)
joined-two x [] i j ne = omega (arith, copies-nil x)
joined-two x (xs ∷ rest) zero zero ne = absurd (ne refl)
joined-two x (xs ∷ rest) zero (suc j) ne = omega (arith, joined-cons x xs rest, joined-has x rest j)
joined-two x (xs ∷ rest) (suc i) zero ne = omega (arith, joined-cons x xs rest, joined-has x rest i)
joined-two x (xs ∷ rest) (suc i) (suc j) ne = omega (arith, joined-cons x xs rest, joined-two x rest i j (λ e. ne (omega arith)))

-- what stands in no list stands in none of all
pub joined-none : (x : ℕ) (lists : List (List ℕ)) → ((i : ℕ) → copies x (get_or lists i []) ≡ 0) → copies x (all_joined lists) ≡ 0
unfolding all_joined
joined-none x [] none = copies-nil x
joined-none x (xs ∷ rest) none = omega (arith, joined-cons x xs rest, none 0, joined-none x rest (λ i. none (suc i)))
