-- Lists of values, and pieces of lists.
use Rattle.std.proofs.Common.{◌≡◌, ℕ, zero, suc, ◌+◌, ◌-◌, ◌<◌, ◌≤◌, List, [], ◌∷◌, ◌++◌, length, take, drop, get_or, Some, inl, inr, refl, sym, ap, ◌∙◌, arith, add-one}
use Rattle.std.specs.Prelude.{slice_get}
use Rattle.std.proofs.lemmas.Bool.{cases_eq}
use Rattle.std.proofs.lemmas.List.{length_push, append_assoc, append-nil, take_more, take_at, drop_at, get_or-drop, length-drop}
use Rattle.pipe_core.specs.Pipe.{values_below}

pub length_values : (n : ℕ) (f : ℕ → ℕ) → length (values_below n f) ≡ n
unfolding values_below
length_values zero f = refl
length_values (suc n) f = length_push (values_below n f) (f n) ∙ omega (arith, length_values n f)

pub values-same : (n : ℕ) (f g : ℕ → ℕ) → ((k : ℕ) → k < n → f k ≡ g k) → values_below n f ≡ values_below n g
unfolding values_below
values-same zero f g h = refl
values-same (suc n) f g h =
    let first : values_below n f ≡ values_below n g = values-same n f g (λ k lt. h k (omega arith)) in
    let last : f n ≡ g n = h n (omega arith) in
    rw (first, last) refl

pub values-add : (a b : ℕ) (f : ℕ → ℕ) → values_below (a + b) f ≡ values_below a f ++ values_below b (λ k. f (a + k))
unfolding values_below
values-add a zero f =
    let same : a + zero ≡ a = omega arith in
    ap (λ n. values_below n f) same ∙ sym (append-nil (values_below a f))
values-add a (suc b) f =
    let next : a + suc b ≡ suc (a + b) = omega arith in
    ap (λ n. values_below n f) next ∙ ap (λ xs. xs ++ f (a + b) ∷ []) (values-add a b f) ∙ append_assoc (values_below a f) (values_below b (λ k. f (a + k))) (f (a + b) ∷ [])

pub values_take : (n : ℕ) (xs : List ℕ) → n ≤ length xs → values_below n (λ k. get_or xs k 0) ≡ take n xs
unfolding values_below
values_take zero xs h = refl
values_take (suc n) xs h =
    ap (λ ys. ys ++ get_or xs n 0 ∷ []) (values_take n xs (omega arith)) ∙ sym (ap (λ m. take m xs) (sym (add-one n)) ∙ take_more xs n 0 (omega arith))

-- the n values of a list from a place on
pub values_between : (xs : List ℕ) (at n : ℕ) → at + n ≤ length xs → values_below n (λ k. get_or xs (at + k) 0) ≡ take n (drop at xs)
values_between xs at n h =
    values-same n (λ k. get_or xs (at + k) 0) (λ k. get_or (drop at xs) k 0) (λ k lt. sym (get_or-drop at xs k 0)) ∙ values_take n (drop at xs) (omega (arith, length-drop at xs))

-- the first n of the values, and the others
pub front : (n count : ℕ) (f : ℕ → ℕ) → n ≤ count → (take n (values_below count f) ≡ values_below n f) × (drop n (values_below count f) ≡ values_below (count - n) (λ k. f (n + k)))
front n count f le =
    let split : values_below count f ≡ values_below n f ++ values_below (count - n) (λ k. f (n + k)) =
    ap (λ m. values_below m f) (let sum : count ≡ n + (count - n) = omega (arith, le) in sum) ∙ values-add n (count - n) f in
    (ap (take n) split ∙ take_at (values_below n f) _ n (length_values n f), ap (drop n) split ∙ drop_at (values_below n f) _ n (length_values n f))

-- value k of the n first ones
pub values_get : (n k : ℕ) (f : ℕ → ℕ) → k < n → slice_get (values_below n f) k ≡ Some (f k)
unfolding values_below
values_get zero k f lt = absurd (omega (arith, lt))
values_get (suc n) k f lt = elim (cases_eq k n) [
  | inl e ↦ ap (slice_get (values_below n f ++ f n ∷ [])) (e ∙ sym (length_values n f)) ∙ slice_get_at_end (values_below n f) (f n) ∙ ap (λ j. Some (f j)) (sym e)
  | inr apart ↦ before (values_below n f) (f n) k (omega (arith, length_values n f, lt, apart)) ∙ values_get n k f (omega (arith, lt, apart))
]
  where
    before : (xs : List ℕ) (x k : ℕ) → k < length xs → slice_get (xs ++ x ∷ []) k ≡ slice_get xs k
    before [] x k lt = absurd (omega (arith, lt))
    before (y ∷ ys) x zero lt = refl
    before (y ∷ ys) x (suc k) lt = before ys x k (omega (arith, lt))

    slice_get_at_end : (xs : List ℕ) (x : ℕ) → slice_get (xs ++ x ∷ []) (length xs) ≡ Some x
    slice_get_at_end [] x = refl
    slice_get_at_end (y ∷ ys) x = slice_get_at_end ys x
