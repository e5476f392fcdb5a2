-- What a touch makes of an image: a run of pages, each added where there was none, is what was to be touched and absent.
use Rattle.addr_space.proofs.Prelude.{[], ℕ, ◌%◌, ◌&&◌, ◌*◌, ◌+◌, ◌-◌, ◌/◌, ◌<◌, ◌^◌, ◌||◌, ◌∙◌, ◌∷◌, ◌≡◌, ◌≢◌, ◌≤◌, ◌⊎◌, all_pages, and_right, ap, arith, Bool, bring, brought, byte_in, cases_eq}
use Rattle.addr_space.proofs.Prelude.{cases_lt, cond, data_rights, eq-eqb, false, false≢true, filled, FinMap, gathered-get, get, get-insert, get_other, get_same, Image, image_byte, image_bytes}
use Rattle.addr_space.proofs.Prelude.{image_of, inl, inr, insert, is_absent, is_among, is_some, le-ltb, List, lt-ltb, ltb, nat_cmp, nat_cmp-IsAntisymmetric, nat_cmp_total, ne_eqb, None, not, Option}
use Rattle.addr_space.proofs.Prelude.{option_map, Page, page_at, pages_at, pages_of, perm_of_page, range_with_len, refl, replicate, Rights, same_map, slice_index, Some, Space, suc, sym, tie-yes, true}
use Rattle.addr_space.proofs.Prelude.{whole, with_absent, with_page, zero, zero_frame, zeroed}
use Prim.Native.Nat.{min}
use Rattle.addr_space.proofs.Growing.{absent-out}

-- a page that comes
abbrev zeros : Page
zeros = zeroed data_rights

-- ---- in which pages a range lies

pub among-yes : (a n v : ℕ) → 0 < n → a / 4096 ≤ v → 4096 * v < a + n → is_among v (pages_at a n) ≡ true
among-yes a zero v some ge lt = absurd (omega (arith, some))
among-yes a (suc n) v some ge lt = elim (cases_lt (a / 4096) v) [
  | inl past ↦ ap (λ b. b || is_among v (pages_at (a + 1) n)) (ne_eqb v (a / 4096) (λ e. omega (arith, e, past)))
      ∙ among-yes (a + 1) n v (omega (arith, past, lt)) (omega (arith, past)) (omega (arith, lt))
  | inr here ↦ ap (λ b. b || is_among v (pages_at (a + 1) n)) (eq-eqb v (a / 4096) (omega (arith, ge, here)))
]

pub among-before : (a n v : ℕ) → v < a / 4096 → is_among v (pages_at a n) ≡ false
among-before a zero v lt = refl
among-before a (suc n) v lt = ap (λ b. b || is_among v (pages_at (a + 1) n)) (ne_eqb v (a / 4096) (λ e. omega (arith, e, lt))) ∙ among-before (a + 1) n v (omega (arith, lt))

pub among-behind : (a n v : ℕ) → a + n ≤ 4096 * v → is_among v (pages_at a n) ≡ false
among-behind a zero v le = refl
among-behind a (suc n) v le = ap (λ b. b || is_among v (pages_at (a + 1) n)) (ne_eqb v (a / 4096) (λ e. omega (arith, e, le))) ∙ among-behind (a + 1) n v (omega (arith, le))

pub among-none : (a v : ℕ) → is_among v (pages_at a 0) ≡ false
among-none a v = refl

-- ---- the pages of an address space

range-has : (a n v : ℕ) → a ≤ v → v < a + n → is_among v (range_with_len a n) ≡ true
range-has a zero v ge lt = absurd (omega (arith, ge, lt))
range-has a (suc n) v ge lt = elim (cases_eq v a) [
  | inl same ↦ ap (λ b. b || is_among v (range_with_len (a + 1) n)) (eq-eqb v a same)
  | inr ne ↦ ap (λ b. b || is_among v (range_with_len (a + 1) n)) (ne_eqb v a ne) ∙ range-has (a + 1) n v (omega (arith, ge, ne)) (omega (arith, lt))
]

range-ends : (a n v : ℕ) → a + n ≤ v → is_among v (range_with_len a n) ≡ false
range-ends a zero v ge = refl
range-ends a (suc n) v ge = ap (λ b. b || is_among v (range_with_len (a + 1) n)) (ne_eqb v a (λ e. omega (arith, e, ge))) ∙ range-ends (a + 1) n v (omega (arith, ge))

all-have : (v : ℕ) → v < 2 ^ 26 → is_among v all_pages ≡ true
unfolding all_pages
all-have v lt = range-has 0 (2 ^ 26) v (omega arith) (omega (arith, lt))

all-end : (v : ℕ) → 2 ^ 26 ≤ v → is_among v all_pages ≡ false
unfolding all_pages
all-end v ge = range-ends 0 (2 ^ 26) v (omega (arith, ge))

pub least-of : (r a b : ℕ) → r ≡ min a b → (r ≤ a) × (r ≤ b) × ((r ≡ a) ⊎ (r ≡ b))
least-of r a b e = elim (cases_lt a b) [
  | inl lt ↦ (omega (arith, e), omega (arith, e), inl (omega (arith, e, lt)))
  | inr ge ↦ (omega (arith, e), omega (arith, e), inr (omega (arith, e, ge)))
]

-- ---- a run of pages, each where there was none

-- the next page of the run, where another one is asked for
kept-step : (pages m : FinMap nat_cmp Page) (v : ℕ) (page : Page) (u : ℕ) (b : Bool) → is_some (get m v) ≡ b → get m u ≡ get pages u
    → is_some (get pages u) ≡ true → get (cond (is_some (get m v)) m (insert m v page)) u ≡ get pages u
kept-step pages m v page u true e before there = ap (λ b. get (cond b m (insert m v page)) u) e ∙ before
kept-step pages m v page u false e before there = ap (λ b. get (cond b m (insert m v page)) u) e ∙ elim (cases_eq u v) [
  | inl same ↦ absurd (false≢true (sym e ∙ ap (λ x. is_some (get m x)) (sym same) ∙ ap is_some before ∙ there))
  | inr ne ↦ get_other m v page u ne ∙ before
]

-- a page that was there stays
kept : (pages : FinMap nat_cmp Page) (first n : ℕ) (page : Page) (u : ℕ) → is_some (get pages u) ≡ true → get (with_absent pages first n page) u ≡ get pages u
unfolding with_absent
kept pages first zero page u there = refl
kept pages first (suc n) page u there = kept-step pages (with_absent pages first n page) (first + n) page u
    (is_some (get (with_absent pages first n page) (first + n))) refl (kept pages first n page u there) there

came-step : (m : FinMap nat_cmp Page) (v : ℕ) (page : Page) (u : ℕ) (b : Bool) → is_some (get m v) ≡ b → u ≢ v → get m u ≡ Some page → get (cond (is_some (get m v)) m (insert m v page)) u ≡ Some page
came-step m v page u true e ne before = ap (λ b. get (cond b m (insert m v page)) u) e ∙ before
came-step m v page u false e ne before = ap (λ b. get (cond b m (insert m v page)) u) e ∙ get_other m v page u ne ∙ before

came-here : (m : FinMap nat_cmp Page) (v : ℕ) (page : Page) (u : ℕ) → u ≡ v → get m v ≡ None → get (cond (is_some (get m v)) m (insert m v page)) u ≡ Some page
came-here m v page u same none = ap (λ o. get (cond (is_some o) m (insert m v page)) u) none ∙ get-insert nat_cmp_total m v page u ∙ ap (λ b. cond b (Some page) (get m u)) (tie-yes u v same)

-- a page of the run that wasn't there came
came : (pages : FinMap nat_cmp Page) (first n : ℕ) (page : Page) (u : ℕ) → first ≤ u → u < first + n → get pages u ≡ None → get (with_absent pages first n page) u ≡ Some page
unfolding with_absent
came pages first zero page u ge lt none = absurd (omega (arith, ge, lt))
came pages first (suc n) page u ge lt none = elim (cases_eq u (first + n)) [
  | inl same ↦ came-here (with_absent pages first n page) (first + n) page u same (absent-out pages first n page (first + n) (inr (omega arith)) ∙ sym (ap (get pages) same) ∙ none)
  | inr ne ↦ came-step (with_absent pages first n page) (first + n) page u (is_some (get (with_absent pages first n page) (first + n))) refl ne
      (came pages first n page u ge (omega (arith, lt, ne)) none)
]

-- ---- page by page

pub brought-size : (ps : List ℕ) (i : Image) → (brought ps i).size ≡ i.size
unfolding brought
brought-size [] i = refl
brought-size (p ∷ ps) i = by (is_absent (brought ps i) p) ∙ brought-size ps i
  where
    by : (b : Bool) → (cond b (with_page (brought ps i) p zeros) (brought ps i)).size ≡ (brought ps i).size
    by true = refl
    by false = refl

-- page u after page v was brought
brings : (i : Image) (v u : ℕ) (b : Bool) → is_absent i v ≡ b → get (bring v i).pages u ≡ get (cond b (with_page i v zeros) i).pages u
brings i v u b is = ap (λ b. get (cond b (with_page i v zeros) i).pages u) is

brings-other : (i : Image) (v u : ℕ) → u ≢ v → get (bring v i).pages u ≡ get i.pages u
brings-other i v u ne = by (is_absent i v) refl
  where
    by : (b : Bool) → is_absent i v ≡ b → get (bring v i).pages u ≡ get i.pages u
    by true e = brings i v u true e ∙ get_other i.pages v zeros u ne
    by false e = brings i v u false e

brings-here : (i : Image) (v : ℕ) → get (bring v i).pages v ≡ cond (is_absent i v) (Some zeros) (get i.pages v)
brings-here i v = by (is_absent i v) refl
  where
    by : (b : Bool) → is_absent i v ≡ b → get (bring v i).pages v ≡ cond (is_absent i v) (Some zeros) (get i.pages v)
    by true e = brings i v v true e ∙ get_same i.pages v zeros ∙ sym (ap (λ b. cond b (Some zeros) (get i.pages v)) e)
    by false e = brings i v v false e ∙ sym (ap (λ b. cond b (Some zeros) (get i.pages v)) e)

-- page v after a touch: zeros, where it is chosen and absent; else as it was
abbrev page_after : Bool → Image → ℕ → Option Page
page_after chosen i v = cond (chosen && is_absent i v) (Some zeros) (get i.pages v)

-- page v, which may have come before, is brought
again : (i j : Image) (v : ℕ) (chosen : Bool) → j.size ≡ i.size → get j.pages v ≡ page_after chosen i v → cond (is_absent j v) (Some zeros) (get j.pages v) ≡ page_after true i v
again i j v chosen size is = by (is_absent i v) refl chosen refl
  where
    absent : (o : Option Page) → get j.pages v ≡ o → is_absent j v ≡ (ltb (4096 * v) i.size && not (is_some o))
    absent o e = λ k. ltb (4096 * v) (size k) && not (is_some (e k))

    same : (b c : Bool) → is_absent i v ≡ b → get j.pages v ≡ get i.pages v → is_absent j v ≡ b
    same b c e p = absent (get i.pages v) p ∙ e

    by : (b : Bool) → is_absent i v ≡ b → (c : Bool) → chosen ≡ c → cond (is_absent j v) (Some zeros) (get j.pages v) ≡ page_after true i v
    by true e true ch =
        let came : get j.pages v ≡ Some zeros = is ∙ (λ k. cond (ch k && e k) (Some zeros) (get i.pages v)) in
        (λ k. cond ((absent (Some zeros) came ∙ and_right (ltb (4096 * v) i.size) false refl) k) (Some zeros) (came k)) ∙ sym (ap (λ b. cond b (Some zeros) (get i.pages v)) e)
    by true e false ch =
        let stays : get j.pages v ≡ get i.pages v = is ∙ (λ k. cond (ch k && is_absent i v) (Some zeros) (get i.pages v)) in
        ap (λ b. cond b (Some zeros) (get j.pages v)) (same true chosen e stays) ∙ sym (ap (λ b. cond b (Some zeros) (get i.pages v)) e)
    by false e c ch =
        let stays : get j.pages v ≡ get i.pages v = is ∙ (λ k. cond (chosen && e k) (Some zeros) (get i.pages v)) ∙ ap (λ b. cond b (Some zeros) (get i.pages v)) (and_right chosen false refl) in
        ap (λ b. cond b (Some zeros) (get j.pages v)) (same false chosen e stays) ∙ stays ∙ sym (ap (λ b. cond b (Some zeros) (get i.pages v)) e)

pub brought-get : (ps : List ℕ) (i : Image) (v : ℕ) → get (brought ps i).pages v ≡ page_after (is_among v ps) i v
unfolding brought
brought-get [] i v = refl
brought-get (p ∷ ps) i v = elim (cases_eq v p) [
  | inl same ↦
      ap (λ q. get (bring q (brought ps i)).pages v) (sym same) ∙ brings-here (brought ps i) v ∙ again i (brought ps i) v (is_among v ps) (brought-size ps i) (brought-get ps i v)
      ∙ sym (ap (λ b. page_after (b || is_among v ps) i v) (eq-eqb v p same))
  | inr ne ↦ brings-other (brought ps i) p v ne ∙ brought-get ps i v ∙ sym (ap (λ b. page_after (b || is_among v ps) i v) (ne_eqb v p ne))
]

-- ---- a touch

-- the run from `first` to below `end` has what of the chosen pages lies below the size
pub record IsRun (chosen : ℕ → Bool) (size first end : ℕ) : Type 0 where
  pub order : first ≤ end
  pub inside : (v : ℕ) → first ≤ v → v < end → (chosen v ≡ true) × (4096 * v < size)
  pub before : (v : ℕ) → v < first → 4096 * v < size → chosen v ≡ false
  pub behind : (v : ℕ) → end ≤ v → 4096 * v < size → chosen v ≡ false

-- out of the run nothing is touched
out : (chosen : Bool) (i : Image) (v : ℕ) → (4096 * v < i.size → chosen ≡ false) → page_after chosen i v ≡ get i.pages v
out chosen i v not-chosen = elim (cases_lt (4096 * v) i.size) [
  | inl lt ↦ ap (λ b. cond (b && is_absent i v) (Some zeros) (get i.pages v)) (not-chosen lt)
  | inr ge ↦ ap (λ b. cond (chosen && (b && not (is_some (get i.pages v)))) (Some zeros) (get i.pages v)) (le-ltb (4096 * v) i.size ge) ∙ both chosen
]
  where
    both : (b : Bool) → cond (b && false) (Some zeros) (get i.pages v) ≡ get i.pages v
    both true = refl
    both false = refl

in-run : (chosen : Bool) (i : Image) (v : ℕ) → chosen ≡ true → 4096 * v < i.size → (o : Option Page) → get i.pages v ≡ o → page_after chosen i v ≡ cond (is_some o) o (Some zeros)
in-run chosen i v picked lt o is =
    ap (λ b. cond (b && is_absent i v) (Some zeros) (get i.pages v)) picked
    ∙ ap (λ b. cond (b && not (is_some (get i.pages v))) (Some zeros) (get i.pages v)) (lt-ltb (4096 * v) i.size lt)
    ∙ ap (λ p. cond (not (is_some p)) (Some zeros) p) is ∙ by o
  where
    by : (o : Option Page) → cond (not (is_some o)) (Some zeros) o ≡ cond (is_some o) o (Some zeros)
    by None = refl
    by (Some page) = refl

run-page : (chosen : ℕ → Bool) (i : Image) (first end : ℕ) → IsRun chosen i.size first end → (v : ℕ) → get (with_absent i.pages first (end - first) zeros) v ≡ page_after (chosen v) i v
run-page chosen i first end run v = elim (cases_lt v first) [
  | inl low ↦ absent-out i.pages first (end - first) zeros v (inl low) ∙ sym (out (chosen v) i v (run.before v low))
  | inr ge ↦ elim (cases_lt v end) [
    | inl lt ↦ let is = run.inside v ge lt in by (get i.pages v) refl ge lt ∙ sym (in-run (chosen v) i v is.0 is.1 (get i.pages v) refl)
    | inr past ↦ absent-out i.pages first (end - first) zeros v (inr (omega (arith, past, run.order))) ∙ sym (out (chosen v) i v (run.behind v past))
  ]
]
  where
    by : (o : Option Page) → get i.pages v ≡ o → first ≤ v → v < end → get (with_absent i.pages first (end - first) zeros) v ≡ cond (is_some (get i.pages v)) (get i.pages v) (Some zeros)
    by None is ge lt = came i.pages first (end - first) zeros v ge (omega (arith, ge, lt)) is ∙ sym (ap (λ o. cond (is_some o) o (Some zeros)) is)
    by (Some page) is ge lt = kept i.pages first (end - first) zeros v (ap is_some is) ∙ is ∙ sym (ap (λ o. cond (is_some o) o (Some zeros)) is)

-- the run of pages that a range has below a size
pub filled-brought : (ps : List ℕ) (i : Image) (first end : ℕ) → IsRun (λ v. is_among v ps) i.size first end → filled i first (end - first) data_rights ≡ brought ps i
filled-brought ps i first end run = λ k. record { pages = pages k; size = sym (brought-size ps i) k }
  where
    pages : with_absent i.pages first (end - first) zeros ≡ (brought ps i).pages
    pages = same_map nat_cmp_total nat_cmp-IsAntisymmetric (with_absent i.pages first (end - first) zeros) (brought ps i).pages
        (λ v. run-page (λ v. is_among v ps) i first end run v ∙ sym (brought-get ps i v))

pub run-of-range : (size a n first end : ℕ) → first ≤ end → ((v : ℕ) → first ≤ v → v < end → (is_among v (pages_at a n) ≡ true) × (4096 * v < size))
    → ((v : ℕ) → v < first → 4096 * v < size → is_among v (pages_at a n) ≡ false)
    → ((v : ℕ) → end ≤ v → 4096 * v < size → is_among v (pages_at a n) ≡ false) → IsRun (λ v. is_among v (pages_at a n)) size first end
run-of-range size a n first end order inside before behind = record { order = order; inside = inside; before = before; behind = behind }

-- where no page is absent, a touch changes nothing
pub none-absent : (ps : List ℕ) (i : Image) → ((v : ℕ) → is_absent i v ≡ false) → brought ps i ≡ i
unfolding brought
none-absent [] i none = refl
none-absent (p ∷ ps) i none = ap (bring p) (none-absent ps i none) ∙ ap (λ b. cond b (with_page i p zeros) i) (none p)

-- ---- what is there once all is touched

-- no page of the upper half is there, or comes
pub record LowPages (i : Image) : Type 0 where
  pub none : (v : ℕ) → 2 ^ 26 ≤ v → get i.pages v ≡ None

pub low-pages : (ram : List (List ℕ)) (space : Space) → LowPages (image_of ram space)
unfolding pages_of
low-pages ram space = record { none = λ v ge. gathered-get (page_at ram space.root) (2 ^ 26) v ∙ ap (λ b. cond b (page_at ram space.root v) None) (le-ltb v (2 ^ 26) ge) }

pub whole-get : (i : Image) (v : ℕ) → v < 2 ^ 26 → get (whole i).pages v ≡ cond (is_absent i v) (Some zeros) (get i.pages v)
whole-get i v lt = brought-get all_pages i v ∙ ap (λ b. page_after b i v) (all-have v lt)

pub whole-past : (i : Image) (v : ℕ) → 2 ^ 26 ≤ v → get (whole i).pages v ≡ get i.pages v
whole-past i v ge = brought-get all_pages i v ∙ ap (λ b. page_after b i v) (all-end v ge)

pub whole-low : (i : Image) → LowPages i → LowPages (whole i)
whole-low i low = record { none = λ v ge. whole-past i v ge ∙ low.none v ge }

-- an absent page allows reading and writing
pub absent-allows : (i : Image) (v : ℕ) → v < 2 ^ 26 → is_absent i v ≡ true → Some data_rights ≡ option_map perm_of_page (get (whole i).pages v)
absent-allows i v lt absent = sym (ap (option_map perm_of_page) (whole-get i v lt ∙ ap (λ b. cond b (Some zeros) (get i.pages v)) absent))

-- any other page is as it was
pub other-allows : (i : Image) (v : ℕ) → v < 2 ^ 26 → is_absent i v ≡ false → option_map perm_of_page (get i.pages v) ≡ option_map perm_of_page (get (whole i).pages v)
other-allows i v lt present = sym (ap (option_map perm_of_page) (whole-get i v lt ∙ ap (λ b. cond b (Some zeros) (get i.pages v)) present))

-- a page that is there is not absent
pub present-allows : (i : Image) (v : ℕ) (p : Rights) → v < 2 ^ 26 → Some p ≡ option_map perm_of_page (get i.pages v) → Some p ≡ option_map perm_of_page (get (whole i).pages v)
present-allows i v p lt e = e ∙ other-allows i v lt (by_page (get i.pages v) (ltb (4096 * v) i.size) e)
  where
    by_page : (o : Option Page) (b : Bool) → Some p ≡ option_map perm_of_page o → (b && not (is_some o)) ≡ false
    by_page None b e = absurd (cc)
    by_page (Some page) true e = refl
    by_page (Some page) false e = refl

-- one that is not there is absent where it begins below the size
pub away-absent : (i : Image) (v : ℕ) → None ≡ option_map perm_of_page (get i.pages v) → is_absent i v ≡ ltb (4096 * v) i.size
away-absent i v e = by_page (get i.pages v) (ltb (4096 * v) i.size) e
  where
    by_page : (o : Option Page) (b : Bool) → None ≡ option_map perm_of_page o → (b && not (is_some o)) ≡ b
    by_page None true e = refl
    by_page None false e = refl
    by_page (Some page) b e = absurd (cc)

absent-none : (i : Image) (v : ℕ) (o : Option Page) → get i.pages v ≡ o → (b : Bool) → (b && not (is_some o)) ≡ true → o ≡ None
absent-none i v None is b e = refl
absent-none i v (Some page) is true e = absurd (false≢true e)
absent-none i v (Some page) is false e = absurd (false≢true e)

zero-at : (n o : ℕ) → slice_index (replicate n 0) o ≡ 0
zero-at zero o = refl
zero-at (suc n) zero = refl
zero-at (suc n) (suc o) = zero-at n o

-- a byte of an absent page is 0
zero-byte : (o : ℕ) → byte_in (Some zeros) o ≡ 0
unfolding zero_frame
zero-byte o = zero-at 4096 o

-- and so is a byte that is read where no page is there
pub whole-byte : (i : Image) (a : ℕ) → image_byte (whole i) a ≡ image_byte i a
whole-byte i a = ap (λ o. byte_in o (a % 4096)) (brought-get all_pages i (a / 4096)) ∙ by (is_among (a / 4096) all_pages) (is_absent i (a / 4096)) refl
  where
    by : (chosen b : Bool) → is_absent i (a / 4096) ≡ b → byte_in (page_after chosen i (a / 4096)) (a % 4096) ≡ image_byte i a
    by true true e =
        let none : get i.pages (a / 4096) ≡ None = absent-none i (a / 4096) (get i.pages (a / 4096)) refl (ltb (4096 * (a / 4096)) i.size) e in
        ap (λ b. byte_in (cond b (Some zeros) (get i.pages (a / 4096))) (a % 4096)) e ∙ zero-byte (a % 4096) ∙ sym (ap (λ o. byte_in o (a % 4096)) none)
    by true false e = ap (λ b. byte_in (cond b (Some zeros) (get i.pages (a / 4096))) (a % 4096)) e
    by false b e = refl

pub whole-bytes : (i : Image) (a n : ℕ) → image_bytes (whole i) a n ≡ image_bytes i a n
whole-bytes i a zero = refl
whole-bytes i a (suc n) = λ k. whole-byte i a k ∷ whole-bytes i (a + 1) n k

-- a page that is there stays
pub whole-there : (i : Image) (v : ℕ) (page : Page) → get i.pages v ≡ Some page → get (whole i).pages v ≡ Some page
whole-there i v page is =
    brought-get all_pages i v ∙ ap (λ o. cond (is_among v all_pages && (ltb (4096 * v) i.size && not (is_some o))) (Some zeros) o) is ∙ both (is_among v all_pages) (ltb (4096 * v) i.size)
  where
    both : (b c : Bool) → cond (b && (c && false)) (Some zeros) (Some page) ≡ Some page
    both true true = refl
    both true false = refl
    both false c = refl
