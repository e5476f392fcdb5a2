-- The price that counts groups is the one that counts different numbers.
use Rattle.addr_space.proofs.Prelude.{[], ℕ, ◌%◌, ◌*◌, ◌+◌, ◌/◌, ◌<◌, ◌^◌, ◌||◌, ◌∙◌, ◌∷◌, ◌≡◌, ◌≢◌, ap, arith, Bool, cases_eq, cases_lt, cond, contains_key-keys, count_below, eq-eqb, eq_by_cmp, eqb}
use Rattle.addr_space.proofs.Prelude.{false, false≢true, FinMap, get, groups, Image, inl, inr, is_some, IsTree, keys, le-ltb, List, list_any, map, nat_cmp, ne_eqb, None, or_right, Page, page_at}
use Rattle.addr_space.proofs.Prelude.{pages_of, price, refl, some_below, suc, sym, true, unsigned_tied, zero}
use Rattle.addr_space.specs.PlainPrice.{distinct, plain_price}
use Rattle.addr_space.proofs.Prices.{how_many, how_many-same, how_many-more, some-yes, some-found, same_test, has}

-- ---- numbers in a list

abbrev member : ℕ → List ℕ → Bool
member x xs = list_any (eqb x) xs

none-below : (n : ℕ) → how_many n (λ t. false) ≡ 0
unfolding count_below
none-below zero = refl
none-below (suc n) = omega (arith, none-below n)

member-here : (x : ℕ) (xs : List ℕ) → member x (x ∷ xs) ≡ true
member-here x xs = ap (λ b. b || list_any (eqb x) xs) (eq-eqb x x refl)

member-other : (t x : ℕ) (xs : List ℕ) → t ≢ x → member t (x ∷ xs) ≡ member t xs
member-other t x xs ne = ap (λ b. b || list_any (eqb t) xs) (ne_eqb t x ne)

member-there : (t x : ℕ) (xs : List ℕ) → member t xs ≡ true → member t (x ∷ xs) ≡ true
member-there t x xs e = elim (cases_eq t x) [ inl same ↦ ap (λ b. b || list_any (eqb t) xs) (eq-eqb t x same) | inr ne ↦ member-other t x xs ne ∙ e ]

-- as many numbers below n stand in a list as it has different ones
count-member : (n : ℕ) (xs : List ℕ) → ((x : ℕ) → member x xs ≡ true → x < n) → how_many n (λ t. member t xs) ≡ distinct xs
unfolding distinct
count-member n [] small = none-below n
count-member n (x ∷ xs) small = by (count-member n xs (λ y e. small y (member-there y x xs e))) (member x xs) refl
  where
    by : how_many n (λ t. member t xs) ≡ distinct xs → (b : Bool) → member x xs ≡ b → how_many n (λ t. member t (x ∷ xs)) ≡ cond (member x xs) 0 1 + distinct xs
    by rest true e =
        let same : how_many n (λ t. member t (x ∷ xs)) ≡ how_many n (λ t. member t xs) =
        how_many-same n (λ t. member t (x ∷ xs)) (λ t. member t xs)
        (λ t lt. elim (cases_eq t x) [
          | inl is ↦ ap (λ y. member y (x ∷ xs)) is ∙ member-here x xs
              ∙ sym (ap (λ y. member y xs) is ∙ e)
          | inr ne ↦ member-other t x xs ne
        ]) in
        omega (arith, same, rest, ap (λ b. cond b 0 (suc zero)) e)
    by rest false e =
        let more : how_many n (λ t. member t (x ∷ xs)) ≡ how_many n (λ t. member t xs) + cond (member x xs) 0 1 =
        how_many-more n (λ t. member t xs) (λ t. member t (x ∷ xs)) x (small x (member-here x xs)) (member-here x xs) (λ t lt ne. member-other t x xs ne) in
        omega (arith, more, rest)

-- ---- the keys of a map, divided

-- a key's image under f stands in the list of images
mapped-in : (f : ℕ → ℕ) (ks : List ℕ) (v : ℕ) → list_any (eq_by_cmp nat_cmp v) ks ≡ true → member (f v) (map f ks) ≡ true
mapped-in f [] v e = absurd (false≢true e)
mapped-in f (k ∷ ks) v e =
    elim (cases_eq v k) [
      | inl same ↦ ap (λ b. b || list_any (eqb (f v)) (map f ks)) (eq-eqb (f v) (f k) (ap f same))
      | inr ne ↦ member-there (f v) (f k) (map f ks) (mapped-in f ks v (sym (ap (λ b. b || list_any (eq_by_cmp nat_cmp v) ks) (unsigned_tied v k ∙ ne_eqb v k ne)) ∙ e))
    ]

-- and each number there is one
mapped-from : (f : ℕ → ℕ) (ks : List ℕ) (t : ℕ) → member t (map f ks) ≡ true → (v : ℕ) × (list_any (eq_by_cmp nat_cmp v) ks ≡ true) × (t ≡ f v)
mapped-from f [] t e = absurd (false≢true e)
mapped-from f (k ∷ ks) t e =
    elim (cases_eq t (f k)) [
      | inl same ↦ (k, ap (λ b. b || list_any (eq_by_cmp nat_cmp k) ks) (unsigned_tied k k ∙ eq-eqb k k refl), same)
      | inr ne ↦
          let r = mapped-from f ks t (sym (member-other t (f k) (map f ks) ne) ∙ e) in
          (r.0, or_right (eq_by_cmp nat_cmp r.0 k) (list_any (eq_by_cmp nat_cmp r.0) ks) r.1, r.2)
    ]

-- the groups of a map are its keys, divided
groups-distinct : (pages : FinMap nat_cmp Page) (n m : ℕ) → ((t k : ℕ) → k < m → (m * t + k) / m ≡ t) → ((v : ℕ) → m * (v / m) + v % m ≡ v) → ((v : ℕ) → v % m < m)
    → ((v : ℕ) → is_some (get pages v) ≡ true → v / m < n) → groups pages n m ≡ distinct (map (λ v. v / m) (keys pages))
groups-distinct pages n m quotient whole remainder small =
    let f : ℕ → ℕ = λ v. v / m in
    how_many-same n (λ t. some_below m (λ k. is_some (get pages (m * t + k)))) (λ t. member t (map f (keys pages))) (λ t lt. same_test _ _
    (λ e. let k = some-found m (λ k. is_some (get pages (m * t + k))) e in
    sym (ap (λ x. member x (map f (keys pages))) (quotient t k.0 k.1)) ∙ mapped-in f (keys pages) (m * t + k.0) (sym (contains_key-keys pages (m * t + k.0)) ∙ k.2))
    (λ e. let v = mapped-from f (keys pages) t e in
    some-yes m (λ k. is_some (get pages (m * t + k))) (v.0 % m) (remainder v.0)
    (ap (λ x. is_some (get pages (m * x + v.0 % m))) v.2 ∙ ap (λ x. is_some (get pages x)) (whole v.0) ∙ contains_key-keys pages v.0 ∙ v.1)))
    ∙ count-member n (map f (keys pages)) (λ t e. let v = mapped-from f (keys pages) t e in omega (arith, v.2, small v.0 (contains_key-keys pages v.0 ∙ v.1)))

pub price-plain : (image : Image) → ((v : ℕ) → is_some (get image.pages v) ≡ true → v < 67108864) → price image ≡ plain_price image
unfolding price
price-plain image small =
    let high : groups image.pages 256 (2 ^ 18) ≡ distinct (map (λ v. v / 2 ^ 18) (keys image.pages)) =
    groups-distinct image.pages 256 (2 ^ 18) (λ t k lt. omega (arith, lt)) (λ v. omega arith) (λ v. omega arith) (λ v e. omega (arith, small v e)) in
    let low : groups image.pages (2 ^ 17) 512 ≡ distinct (map (λ v. v / 2 ^ 9) (keys image.pages)) =
    groups-distinct image.pages (2 ^ 17) 512 (λ t k lt. omega (arith, lt)) (λ v. omega arith) (λ v. omega arith) (λ v e. omega (arith, small v e)) in
    omega (arith, high, low)

-- the pages of a tree are below 2^26
pub tree-plain : (ram : List (List ℕ)) (root size : ℕ) → IsTree ram root → price (record { pages = pages_of ram root; size = size }) ≡ plain_price (record { pages = pages_of ram root; size = size })
tree-plain ram root size tree = price-plain (record { pages = pages_of ram root; size = size }) (λ v e. elim (cases_lt v 67108864) [
  | inl lt ↦ lt
  | inr ge ↦ absurd (false≢true (sym (ap is_some (has ram root v tree ∙ ap (λ b. cond b (page_at ram root v) None) (le-ltb v 67108864 ge))) ∙ e))
])
