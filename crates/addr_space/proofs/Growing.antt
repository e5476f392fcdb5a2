-- What a growth costs.
use Rattle.addr_space.proofs.Prelude.{ℕ, ◌%◌, ◌*◌, ◌+◌, ◌-◌, ◌/◌, ◌<◌, ◌^◌, ◌∙◌, ◌≡◌, ◌≢◌, ◌≤◌, ◌⊎◌, add_absent, ap, arith, Bool, cases_eq, cases_lt, cond, empty, false, FinMap, get, get_other, inl}
use Rattle.addr_space.proofs.Prelude.{inr, insert, is_some, nat_cmp, None, none_from_is_some, Page, price, refl, some_below, suc, true, with_absent, zero}
use Rattle.addr_space.proofs.Prices.{price-more, some-yes, some-found, some_below-same, insert-here}

-- a page below t, of those that go into one table of each level
abbrev pub low : FinMap nat_cmp Page → ℕ → Bool
low pages t = some_below 512 (λ k. is_some (get pages (512 * t + k)))

abbrev pub high : FinMap nat_cmp Page → ℕ → Bool
high pages t = some_below (2 ^ 18) (λ k. is_some (get pages (2 ^ 18 * t + k)))

abbrev pub cost : FinMap nat_cmp Page → ℕ → ℕ
cost pages size = price (record { pages = pages; size = size })

by_some : (pages : FinMap nat_cmp Page) (v : ℕ) (page : Page) (b : Bool) → is_some (get pages v) ≡ b
    → (add_absent pages v page ≡ pages) × (b ≡ true) ⊎ (add_absent pages v page ≡ insert pages v page) × (b ≡ false)
by_some pages v page true e = inl (ap (λ b. cond b pages (insert pages v page)) e, refl)
by_some pages v page false e = inr (ap (λ b. cond b pages (insert pages v page)) e, refl)

-- away from the added pages nothing changed
pub absent-out : (pages : FinMap nat_cmp Page) (first n : ℕ) (page : Page) (u : ℕ) → (u < first) ⊎ (first + n ≤ u) → get (with_absent pages first n page) u ≡ get pages u
unfolding with_absent
absent-out pages first zero page u out = refl
absent-out pages first (suc n) page u out =
    let ih : get (with_absent pages first n page) u ≡ get pages u = absent-out pages first n page u (elim out [ inl lt ↦ inl lt | inr ge ↦ inr (omega (arith, ge)) ]) in
    let ne : u ≢ first + n = elim out [ inl lt ↦ (λ e. omega (arith, lt, e)) | inr ge ↦ (λ e. omega (arith, ge, e)) ] in
    elim (by_some (with_absent pages first n page) (first + n) page (is_some (get (with_absent pages first n page) (first + n))) refl) [
      | inl same ↦ ap (λ m. get m u) same.0 ∙ ih
      | inr more ↦ ap (λ m. get m u) more.0 ∙ get_other (with_absent pages first n page) (first + n) page u ne ∙ ih
    ]

-- among them all are there
pub absent-in : (pages : FinMap nat_cmp Page) (first n : ℕ) (page : Page) (u : ℕ) → first ≤ u → u < first + n → is_some (get (with_absent pages first n page) u) ≡ true
unfolding with_absent
absent-in pages first zero page u ge lt = absurd (omega arith)
absent-in pages first (suc n) page u ge lt =
    elim (by_some (with_absent pages first n page) (first + n) page (is_some (get (with_absent pages first n page) (first + n))) refl) [
      | inl same ↦ elim (cases_eq u (first + n)) [
        | inl e ↦ ap (λ m. is_some (get m u)) same.0 ∙ ap (λ x. is_some (get (with_absent pages first n page) x)) e ∙ same.1
        | inr ne ↦ ap (λ m. is_some (get m u)) same.0 ∙ absent-in pages first n page u ge (omega (arith, ne))
      ]
      | inr more ↦ elim (cases_eq u (first + n)) [
        | inl e ↦ ap (λ m. is_some (get m u)) more.0 ∙ insert-here (with_absent pages first n page) (first + n) page u e
        | inr ne ↦ ap (λ m. is_some (get m u)) more.0 ∙ ap is_some (get_other (with_absent pages first n page) (first + n) page u ne) ∙ absent-in pages first n page u ge (omega (arith, ne))
      ]
    ]

-- what was there stays there
pub absent-kept : (pages : FinMap nat_cmp Page) (first n : ℕ) (page : Page) (u : ℕ) → is_some (get pages u) ≡ true → is_some (get (with_absent pages first n page) u) ≡ true
absent-kept pages first n page u there =
    elim (cases_lt u first) [
      | inl lt ↦ ap is_some (absent-out pages first n page u (inl lt)) ∙ there
      | inr ge ↦ elim (cases_lt u (first + n)) [
        | inl lt ↦ absent-in pages first n page u ge lt
        | inr past ↦ ap is_some (absent-out pages first n page u (inr past)) ∙ there
      ]
    ]

-- a page that is there adds nothing
pub absent-there : (pages : FinMap nat_cmp Page) (first n : ℕ) (page : Page) → is_some (get pages (first + n)) ≡ true → with_absent pages first (suc n) page ≡ with_absent pages first n page
unfolding with_absent
absent-there pages first n page there =
    ap (λ b. cond b (with_absent pages first n page) (insert (with_absent pages first n page) (first + n) page)) (ap is_some (absent-out pages first n page (first + n) (inr (omega arith))) ∙ there)

pub absent-new : (pages : FinMap nat_cmp Page) (first n : ℕ) (page : Page) → get pages (first + n) ≡ None
    → with_absent pages first (suc n) page ≡ insert (with_absent pages first n page) (first + n) page
unfolding with_absent
absent-new pages first n page none =
    ap (λ b. cond b (with_absent pages first n page) (insert (with_absent pages first n page) (first + n) page)) (ap is_some (absent-out pages first n page (first + n) (inr (omega arith)) ∙ none))

-- whether a table is new: the group of the next page is as it was, or has the page before
pub low-old : (pages : FinMap nat_cmp Page) (first n : ℕ) (page : Page) → (0 < n → (first + n) % 512 ≡ 0) → low (with_absent pages first n page) ((first + n) / 512) ≡ low pages ((first + n) / 512)
unfolding with_absent
low-old pages first zero page start = refl
low-old pages first (suc n) page start =
    let aligned = start (omega arith) in
    some_below-same 512 (λ k. is_some (get (with_absent pages first (suc n) page) (512 * ((first + suc n) / 512) + k))) (λ k. is_some (get pages (512 * ((first + suc n) / 512) + k)))
    (λ k lt. ap is_some (absent-out pages first (suc n) page (512 * ((first + suc n) / 512) + k) (inr (omega (arith, aligned)))))

pub low-new : (pages : FinMap nat_cmp Page) (first n : ℕ) (page : Page) → 0 < n → ((first + n) % 512 ≡ 0 → ⊥) → low (with_absent pages first n page) ((first + n) / 512) ≡ true
low-new pages first n page some off =
    let at : 512 * ((first + n) / 512) + ((first + n) % 512 - 1) ≡ first + n - 1 = omega (arith, off) in
    some-yes 512 (λ k. is_some (get (with_absent pages first n page) (512 * ((first + n) / 512) + k))) ((first + n) % 512 - 1) (omega arith)
    (ap (λ u. is_some (get (with_absent pages first n page) u)) at ∙ absent-in pages first n page (first + n - 1) (omega arith) (omega arith))

pub high-old : (pages : FinMap nat_cmp Page) (first n : ℕ) (page : Page) → (0 < n → (first + n) % 262144 ≡ 0)
    → high (with_absent pages first n page) ((first + n) / 262144) ≡ high pages ((first + n) / 262144)
unfolding with_absent
high-old pages first zero page start = refl
high-old pages first (suc n) page start =
    let aligned = start (omega arith) in
    some_below-same (2 ^ 18) (λ k. is_some (get (with_absent pages first (suc n) page) (2 ^ 18 * ((first + suc n) / 262144) + k))) (λ k. is_some (get pages (2 ^ 18 * ((first + suc n) / 262144) + k)))
    (λ k lt. ap is_some (absent-out pages first (suc n) page (2 ^ 18 * ((first + suc n) / 262144) + k) (inr (omega (arith, aligned)))))

pub high-new : (pages : FinMap nat_cmp Page) (first n : ℕ) (page : Page) → 0 < n → ((first + n) % 262144 ≡ 0 → ⊥) → high (with_absent pages first n page) ((first + n) / 262144) ≡ true
high-new pages first n page some off =
    let at : 262144 * ((first + n) / 262144) + ((first + n) % 262144 - 1) ≡ first + n - 1 = omega (arith, off) in
    some-yes (2 ^ 18) (λ k. is_some (get (with_absent pages first n page) (2 ^ 18 * ((first + n) / 262144) + k))) ((first + n) % 262144 - 1) (omega arith)
    (ap (λ u. is_some (get (with_absent pages first n page) u)) at ∙ absent-in pages first n page (first + n - 1) (omega arith) (omega arith))

-- what the next page costs
pub next-cost : (pages : FinMap nat_cmp Page) (first n size : ℕ) (page : Page) → first + n < 67108864 → get pages (first + n) ≡ None
    → cost (with_absent pages first (suc n) page) size ≡ cost (with_absent pages first n page) size +
    (1 + (cond (low (with_absent pages first n page) ((first + n) / 512)) 0 1 + cond (high (with_absent pages first n page) ((first + n) / 262144)) 0 1))
next-cost pages first n size page lt none =
    ap (λ m. cost m size) (absent-new pages first n page none)
    ∙ price-more (with_absent pages first n page) size (first + n) page lt (absent-out pages first n page (first + n) (inr (omega arith)) ∙ none)

-- a growth never makes it cheaper
pub next-more : (pages : FinMap nat_cmp Page) (first n size : ℕ) (page : Page) → first + n < 67108864 → cost (with_absent pages first n page) size ≤ cost (with_absent pages first (suc n) page) size
next-more pages first n size page lt =
    by (is_some (get pages (first + n))) refl
  where
    by : (b : Bool) → is_some (get pages (first + n)) ≡ b → cost (with_absent pages first n page) size ≤ cost (with_absent pages first (suc n) page) size
    by true e = omega (arith, ap (λ m. cost m size) (absent-there pages first n page e))
    by false e = omega (arith, next-cost pages first n size page lt (none_from_is_some (get pages (first + n)) e))

pub later-more : (pages : FinMap nat_cmp Page) (first n k size : ℕ) (page : Page) → first + (n + k) ≤ 67108864
    → cost (with_absent pages first n page) size ≤ cost (with_absent pages first (n + k) page) size
later-more pages first n zero size page le = let e : n + 0 ≡ n = omega arith in omega (arith, ap (λ m. cost (with_absent pages first m page) size) e)
later-more pages first n (suc k) size page le =
    let e : n + suc k ≡ suc (n + k) = omega arith in
    omega (arith, ap (λ m. cost (with_absent pages first m page) size) e, later-more pages first n k size page (omega arith), next-more pages first (n + k) size page (omega arith))

flip : (b : Bool) → b ≡ true → cond b 0 1 ≡ zero
flip b e = ap (λ x. cond x 0 1) e

-- a page in a table that is there, or that the page before brought
pub cost-one : (pages : FinMap nat_cmp Page) (first n size : ℕ) (page : Page) → first + n < 67108864 → get pages (first + n) ≡ None
    → ((low pages ((first + n) / 512) ≡ true) × (high pages ((first + n) / 262144) ≡ true)) ⊎ ((0 < n) × ((first + n) % 512 ≡ 0 → ⊥))
    → cost (with_absent pages first (suc n) page) size ≡ cost (with_absent pages first n page) size + 1
cost-one pages first n size page lt none there =
    let e = next-cost pages first n size page lt none in
    elim there [
      | inl both ↦ omega (arith, e, flip _ (low-kept both.0), flip _ (high-kept both.1))
      | inr later ↦ omega (arith, e, flip _ (low-new pages first n page later.0 later.1), flip _ (high-new pages first n page later.0 (λ z. later.1 (omega (arith, z)))))
    ]
  where
    kept-yes : (m : ℕ) (at : ℕ → ℕ) → some_below m (λ k. is_some (get pages (at k))) ≡ true → some_below m (λ k. is_some (get (with_absent pages first n page) (at k))) ≡ true
    kept-yes m at old =
        let r = some-found m (λ k. is_some (get pages (at k))) old in
        some-yes m (λ k. is_some (get (with_absent pages first n page) (at k))) r.0 r.1 (absent-kept pages first n page (at r.0) r.2)

    low-kept : low pages ((first + n) / 512) ≡ true → low (with_absent pages first n page) ((first + n) / 512) ≡ true
    low-kept old = kept-yes 512 (λ k. 512 * ((first + n) / 512) + k) old

    high-kept : high pages ((first + n) / 262144) ≡ true → high (with_absent pages first n page) ((first + n) / 262144) ≡ true
    high-kept old = kept-yes (2 ^ 18) (λ k. 2 ^ 18 * ((first + n) / 262144) + k) old

-- a page in a table of its own
pub cost-new : (pages : FinMap nat_cmp Page) (first n size : ℕ) (page : Page) → first + n < 67108864 → get pages (first + n) ≡ None
    → low pages ((first + n) / 512) ≡ false → (0 < n → (first + n) % 512 ≡ 0)
    → cost (with_absent pages first (suc n) page) size ≡ cost (with_absent pages first n page) size + (2 + cond (high (with_absent pages first n page) ((first + n) / 262144)) 0 1)
cost-new pages first n size page lt none empty aligned =
    omega (arith, next-cost pages first n size page lt none, ap (λ b. cond b 0 (suc zero)) (low-old pages first n page aligned ∙ empty))

-- and so many pages in it
pub cost-run : (pages : FinMap nat_cmp Page) (first n k size : ℕ) (page : Page) → first + (n + suc k) ≤ 67108864 → ((u : ℕ) → first + n ≤ u → u < first + (n + suc k) → get pages u ≡ None)
    → (first + n) / 512 ≡ (first + (n + k)) / 512 → low pages ((first + n) / 512) ≡ false → (0 < n → (first + n) % 512 ≡ 0)
    → cost (with_absent pages first (n + suc k) page) size ≡ cost (with_absent pages first n page) size + (2 + k + cond (high (with_absent pages first n page) ((first + n) / 262144)) 0 1)
cost-run pages first n zero size page le none group empty aligned =
    let e : n + 1 ≡ suc n = omega arith in
    omega (arith, ap (λ m. cost (with_absent pages first m page) size) e, cost-new pages first n size page (omega arith) (none (first + n) (omega arith) (omega arith)) empty aligned)
cost-run pages first n (suc k) size page le none group empty aligned =
    let e : n + suc (suc k) ≡ suc (n + suc k) = omega arith in
    let same : (first + n) / 512 ≡ (first + (n + k)) / 512 = omega (arith, group) in
    let ih = cost-run pages first n k size page (omega arith) (λ u ge lt. none u ge (omega (arith, lt))) same empty aligned in
    let one = cost-one pages first (n + suc k) size page (omega arith) (none (first + (n + suc k)) (omega arith) (omega arith)) (inr (omega arith, λ z. omega (arith, z, group))) in
    omega (arith, ap (λ m. cost (with_absent pages first m page) size) e, ih, one)
