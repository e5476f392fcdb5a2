-- A list of which one element changes.
use Rattle.kcall_core.proofs.Prelude.{[], ℕ, ◌<◌, ◌∷◌, ◌≡◌, ◌≢◌, ap, arith, get_or, length, List, map, refl, set, suc, sym, zero}

pub map-same : {A B : Type 0} (f g : A → B) (xs : List A) (d : A) → ((j : ℕ) → j < length xs → g (get_or xs j d) ≡ f (get_or xs j d)) → map g xs ≡ map f xs
map-same f g [] d h = refl
map-same f g (x ∷ xs) d h =
    let here : g x ≡ f x = h 0 (omega arith) in
    let rest : map g xs ≡ map f xs = map-same f g xs d (λ j lt. h (suc j) (omega arith)) in
    cc

-- one element changes, and the function too, but not at the other elements
pub map-set_one : {A B : Type 0} (f g : A → B) (xs : List A) (i : ℕ) (y d : A) → ((j : ℕ) → j < length xs → j ≢ i → g (get_or xs j d) ≡ f (get_or xs j d)) → map g (set xs i y) ≡ set (map f xs) i (g y)
map-set_one f g [] i y d h = refl
map-set_one f g (x ∷ xs) zero y d h = ap (λ l. g y ∷ l) (map-same f g xs d (λ j lt. h (suc j) (omega arith) (λ e. absurd (omega arith))))
map-set_one f g (x ∷ xs) (suc i) y d h =
    let here : g x ≡ f x = h 0 (omega arith) (λ e. absurd (omega arith)) in
    let rest : map g (set xs i y) ≡ set (map f xs) i (g y) = map-set_one f g xs i y d (λ j lt ne. h (suc j) (omega arith) (λ e. ne (omega arith))) in
    cc

pub set-twice : {A : Type 0} (xs : List A) (i : ℕ) (a b : A) → set (set xs i a) i b ≡ set xs i b
set-twice [] i a b = refl
set-twice (x ∷ xs) zero a b = refl
set-twice (x ∷ xs) (suc i) a b = ap (λ l. x ∷ l) (set-twice xs i a b)

-- what is set to what is there stays
pub set-read : {A : Type 0} (xs : List A) (i : ℕ) (a d : A) → i < length xs → get_or xs i d ≡ a → set xs i a ≡ xs
set-read [] i a d lt e = refl
set-read (x ∷ xs) zero a d lt e = ap (λ y. y ∷ xs) (sym e)
set-read (x ∷ xs) (suc i) a d lt e = ap (λ l. x ∷ l) (set-read xs i a d (omega arith) e)
