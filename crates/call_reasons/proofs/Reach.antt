-- Ranges of memory, byte by byte and page by page.
use Rattle.std.proofs.Common.{◌≡◌, ℕ, zero, suc, ◌+◌, ◌-◌, ◌*◌, ◌/◌, ◌<◌, ◌≤◌, ◌&&◌, ◌||◌, Bool, true, false, Option, Some, None, inl, inr, refl, sym, ap, ◌∙◌, arith, max, ne_eqb}
use Rattle.std.specs.Prelude.{nat_le, ◌==◌}
use Rattle.std.specs.List.{list_all, range_with_len}
use Rattle.std.proofs.lemmas.Bool.{cases_lt, and_from, and_parts, and_right, eq-eqb, eqb-true, le-leb}
use Rattle.xk_base.specs.declared.access.Access.{Access}
use Rattle.xk_base.specs.declared.limits.TheConstants.{ADDRESS_END}
use Rattle.xk_base.specs.Image.{Image}
use Rattle.kernel_spec.specs.rows.Buffers.{may_touching, reaches_touching}
use Rattle.kernel_spec.specs.views.Processes.{Live}
use Rattle.call_reasons.specs.Facts.{can_reach}
use Rattle.call_reasons.specs.Shown.{page_in, pages_in, reach_in}

-- ---- what holds of the n numbers from a on

pub of_all : (n a : ℕ) (test : ℕ → Bool) → ((v : ℕ) → a ≤ v → v < a + n → test v ≡ true) → list_all test (range_with_len a n) ≡ true
of_all zero a test h = refl
of_all (suc n) a test h =
    and_from (test a) (list_all test (range_with_len (a + 1) n)) (h a (omega arith) (omega arith))
    (of_all n (a + 1) test (λ v from below. h v (omega (arith, from)) (omega (arith, below))))

pub of_none : (n a v : ℕ) (test : ℕ → Bool) → a ≤ v → v < a + n → test v ≡ false → list_all test (range_with_len a n) ≡ false
of_none zero a v test from below fails = absurd (omega (arith, from, below))
of_none (suc n) a v test from below fails = elim (cases_lt a v) [
  | inl after ↦ ap (λ b. test a && b) (of_none n (a + 1) v test (omega (arith, after)) (omega (arith, below)) fails) ∙ and_right (test a) false refl
  | inr first ↦ let same : v ≡ a = omega (arith, first, from) in ap (λ b. b && list_all test (range_with_len (a + 1) n)) (ap test (sym same) ∙ fails)
]

pub of_each : (n a : ℕ) (test : ℕ → Bool) → list_all test (range_with_len a n) ≡ true → (v : ℕ) → a ≤ v → v < a + n → test v ≡ true
of_each n a test all v from below = by (test v) refl
  where
    by : (b : Bool) → test v ≡ b → test v ≡ true
    by true is = is
    by false is = let no : false ≡ true = sym (of_none n a v test from below is) ∙ all in let bad : ⊥ = cc in absurd bad

-- ---- what is reached ends below 2^38

module _ (access : Access) (i : Image) (a : ℕ) where
  abbrev reached : ℕ → Bool
  reached n = list_all (may_touching access i) (range_with_len a n)

  pub is_reached : (n : ℕ) → can_reach access i a n ≡ true → reaches_touching access i a n ≡ true
  unfolding reaches_touching
  is_reached n e = by (n == 0) refl e
    where
      by : (b : Bool) → (n == 0) ≡ b → (b || nat_le (a + n) ADDRESS_END && reached n) ≡ true → reached n ≡ true
      by true is e = ap reached (eqb-true n 0 is)
      by false is e = (and_parts (nat_le (a + n) ADDRESS_END) (reached n) e).1

  pub not_reached : ((address : ℕ) → ADDRESS_END ≤ address → may_touching access i address ≡ false) → (n : ℕ) → can_reach access i a n ≡ false → reaches_touching access i a n ≡ false
  unfolding reaches_touching
  not_reached low n e = by (n == 0) e
    where
      nothing : n ≤ 0 → ⊥
      nothing none =
          let zero_is : n ≡ 0 = omega (arith, none) in
          let yes : can_reach access i a n ≡ true = ap (λ b. b || nat_le (a + n) ADDRESS_END && reached n) (eq-eqb n 0 zero_is) in
          let no : true ≡ false = sym yes ∙ e in let bad : ⊥ = cc in bad

      inside : (b c : Bool) → (b || c && reached n) ≡ false → c ≡ true → reached n ≡ false
      inside false true f is = f
      inside false false f is = let no : ⊥ = cc in absurd no
      inside true c f is = let no : ⊥ = cc in absurd no

      by : (b : Bool) → (b || nat_le (a + n) ADDRESS_END && reached n) ≡ false → reached n ≡ false
      by b f = elim (cases_lt ADDRESS_END (a + n)) [
        | inl beyond ↦ elim (cases_lt 0 n) [
          | inl some ↦ of_none n a (a + (n - 1)) (may_touching access i) (omega arith) (omega (arith, some)) (low (a + (n - 1)) (omega (arith, beyond, some)))
          | inr none ↦ absurd (nothing none)
        ]
        | inr within ↦ inside b (nat_le (a + n) ADDRESS_END) f (le-leb (a + n) ADDRESS_END within)
      ]

-- ---- page by page

-- so many bytes lie in the pages from the first to the last
module _ (access : Access) (l : Live) (a n : ℕ) (some : 0 < n) where
  abbrev first : ℕ
  first = a / 4096

  abbrev last : ℕ
  last = (a + (n - 1)) / 4096

  abbrev in_pages : Bool
  in_pages = pages_in access (Some l) first last

  abbrev in_bytes : Bool
  in_bytes = list_all (may_touching access l.image) (range_with_len a n)

  bytes_of_pages : in_pages ≡ true → in_bytes ≡ true
  bytes_of_pages all = of_all n a (may_touching access l.image) (λ v from below.
      of_each (last + 1 - first) first (page_in access (Some l)) all (v / 4096) (omega (arith, from)) (omega (arith, from, below)))

  -- each page has one of the bytes: its first one, or the first of all
  place : ℕ → ℕ
  place page = max a (4096 * page)

  byte_of_page : in_bytes ≡ true → (page : ℕ) → first ≤ page → page < first + (last + 1 - first) → page_in access (Some l) page ≡ true
  unfolding place
  byte_of_page all page from below =
      let at : place page / 4096 ≡ page = omega (arith, from, below) in
      sym (ap (page_in access (Some l)) at) ∙ of_each n a (may_touching access l.image) all (place page) (omega arith) (omega (arith, from, below, some))

  pub pages_are_bytes : pages_in access (Some l) first last ≡ reaches_touching access l.image a n
  unfolding reaches_touching
  pages_are_bytes = by in_pages in_bytes refl refl
    where
      by : (x y : Bool) → in_pages ≡ x → in_bytes ≡ y → x ≡ y
      by true y pages bytes = sym (bytes_of_pages pages) ∙ bytes
      by false true pages bytes = sym pages ∙ of_all (last + 1 - first) first (page_in access (Some l)) (byte_of_page bytes)
      by false false pages bytes = refl

pub reached_by_pages : (access : Access) (o : Option Live) (a n : ℕ) → 0 < n → a + n ≤ ADDRESS_END → pages_in access o (a / 4096) ((a + (n - 1)) / 4096) ≡ reach_in access o a n
reached_by_pages access None a n some within = of_none ((a + (n - 1)) / 4096 + 1 - a / 4096) (a / 4096) (a / 4096) (page_in access None) (omega arith) (omega arith) refl
reached_by_pages access (Some l) a n some within =
    pages_are_bytes access l a n some
    ∙ sym (ap (λ b. b || nat_le (a + n) ADDRESS_END && reaches_touching access l.image a n) (ne_eqb n 0 (λ e. omega (arith, e, some)))
    ∙ ap (λ b. b && reaches_touching access l.image a n) (le-leb (a + n) ADDRESS_END within))

-- the pages before one, and that one
pub pages_so_far : (access : Access) (o : Option Live) (first last : ℕ) → ((k : ℕ) → first ≤ k → k < last + 1 → page_in access o k ≡ true) → pages_in access o first last ≡ true
pages_so_far access o first last each = of_all (last + 1 - first) first (page_in access o) (λ k from below. each k from (omega (arith, from, below)))

pub page_missing : (access : Access) (o : Option Live) (first last k : ℕ) → first ≤ k → k < last + 1 → page_in access o k ≡ false → pages_in access o first last ≡ false
page_missing access o first last k from below missing = of_none (last + 1 - first) first k (page_in access o) from (omega (arith, from, below)) missing
