-- The owned frames are as many as the image's price.
use Rattle.addr_space.proofs.Prelude.{ℕ, ◌%◌, ◌*◌, ◌++◌, ◌+◌, ◌-◌, ◌/◌, ◌<◌, ◌^◌, ◌||◌, ◌∙◌, ◌≡◌, ◌≢◌, ◌≤◌, ap, arith, below-some, Bool, cases_eq, cases_lt, cond, count_below, Entry, false}
use Rattle.addr_space.proofs.Prelude.{false≢true, FinMap, frame_of, gathered, gathered-get, get, get-insert, get_other, groups, inl, inr, insert, insert_some, Invalid, is_some, IsTree, last, le-ltb}
use Rattle.addr_space.proofs.Prelude.{Leaf, len, len-empty, len-insert, length, length-append, List, listed, lowers, lt-ltb, ltb, missing, nat_cmp, nat_cmp_total, None, none_from_is_some, NoneEmpty}
use Rattle.addr_space.proofs.Prelude.{Option, or_right, owned, Page, page-place, page_at, page_entry, page_frames, page_of, pages_of, price, push_some, refl, rise, Some, some_below, suc, sym, Table}
use Rattle.addr_space.proofs.Prelude.{table_at, tie-yes, true, uppers, zero}

-- the count, with the bound first
abbrev pub how_many : ℕ → (ℕ → Bool) → ℕ
how_many n p = count_below p n

pub length-listed : (f : ℕ → Option ℕ) (n : ℕ) → length (listed f n) ≡ how_many n (λ k. is_some (f k))
unfolding listed count_below
length-listed f zero = refl
length-listed f (suc n) = one (f n) (listed f n) (how_many n (λ k. is_some (f k))) (length-listed f n)
  where
    one : (o : Option ℕ) (xs : List ℕ) (m : ℕ) → length xs ≡ m → length (push_some o xs) ≡ m + cond (is_some o) 1 0
    one None xs m e = omega (arith, e)
    one (Some x) xs m e = omega (arith, e)

pub how_many-same : (n : ℕ) (p q : ℕ → Bool) → ((k : ℕ) → k < n → p k ≡ q k) → how_many n p ≡ how_many n q
unfolding count_below
how_many-same zero p q h = refl
how_many-same (suc n) p q h =
    let here : p n ≡ q n = h n (omega arith) in
    let rest : how_many n p ≡ how_many n q = how_many-same n p q (λ k lt. h k (omega arith)) in
    ap (λ b. how_many n p + cond b 1 0) here ∙ ap (λ m. m + cond (q n) 1 0) rest

-- a count never falls
how_many-rises : (n k : ℕ) (p : ℕ → Bool) → how_many n p ≤ how_many (n + k) p
unfolding count_below
how_many-rises n zero p = let at : n + 0 ≡ n = omega arith in omega (arith, ap (λ m. how_many m p) at)
how_many-rises n (suc k) p =
    let at : n + suc k ≡ suc (n + k) = omega arith in
    omega (arith, ap (λ m. how_many m p) at, how_many-rises n k p)

-- where a count is the same at two places, nothing is found between them
pub how_many-end : (n k : ℕ) (p : ℕ → Bool) → how_many (n + k) p ≡ how_many n p → (u : ℕ) → n ≤ u → u < n + k → p u ≡ false
unfolding count_below
how_many-end n zero p e u ge lt = absurd (omega (arith, ge, lt))
how_many-end n (suc k) p e u ge lt =
    let at : n + suc k ≡ suc (n + k) = omega arith in
    let total : how_many (n + k) p + cond (p (n + k)) 1 0 ≡ how_many n p = sym (ap (λ m. how_many m p) at) ∙ e in
    elim (cases_eq u (n + k)) [
      | inl same ↦ ap p same ∙ none (p (n + k)) (omega (arith, total, how_many-rises n k p))
      | inr ne ↦ how_many-end n k p (omega (arith, total, how_many-rises n k p)) u ge (omega (arith, lt, ne))
    ]
  where
    none : (b : Bool) → ◌≡◌ {A = ℕ} (cond b 1 0) 0 → b ≡ false
    none true h = absurd (omega (arith, h))
    none false h = refl

pub len-gathered : (f : ℕ → Option Page) (n : ℕ) → len (gathered f n) ≡ how_many n (λ k. is_some (f k))
unfolding gathered count_below
len-gathered f zero = len-empty nat_cmp Page
len-gathered f (suc n) = one (f n) (gathered f n) (how_many n (λ k. is_some (f k))) (ap is_some (gathered-get f n n ∙ ap (λ b. cond b (f n) None) (le-ltb n n (omega arith)))) (len-gathered f n)
  where
    one : (o : Option Page) (m : FinMap nat_cmp Page) (c : ℕ) → is_some (get m n) ≡ false → len m ≡ c → len (insert_some m n o) ≡ c + cond (is_some o) 1 0
    one None m c new e = omega (arith, e)
    one (Some x) m c new e = len-insert nat_cmp_total m n x ∙ ap (λ b. cond b (len m) (len m + 1)) new ∙ omega (arith, e)

pub some-yes : (n : ℕ) (p : ℕ → Bool) (k : ℕ) → k < n → p k ≡ true → some_below n p ≡ true
unfolding some_below
some-yes zero p k lt e = absurd (omega arith)
some-yes (suc n) p k lt e =
    elim (cases_eq k n) [
      | inl same ↦ ap (λ b. b || some_below n p) (ap p (sym same) ∙ e)
      | inr ne ↦ ap (λ b. p n || b) (some-yes n p k (omega (arith, ne)) e) ∙ or_right (p n) true refl
    ]

pub some-found : (n : ℕ) (p : ℕ → Bool) → some_below n p ≡ true → (k : ℕ) × (k < n) × (p k ≡ true)
unfolding some_below
some-found zero p e = absurd (false≢true e)
some-found (suc n) p e = split (p n) refl e (some-found n p)
  where
    split : (b : Bool) → p n ≡ b → (b || some_below n p) ≡ true → (some_below n p ≡ true → (k : ℕ) × (k < n) × (p k ≡ true)) → (k : ℕ) × (k < suc n) × (p k ≡ true)
    split true is e ih = (n, omega arith, is)
    split false is e ih = let r = ih e in (r.0, omega (arith, r.1), r.2)

-- two tests that imply one another
pub same_test : (a b : Bool) → (a ≡ true → b ≡ true) → (b ≡ true → a ≡ true) → a ≡ b
same_test true true f g = refl
same_test false false f g = refl
same_test true false f g = sym (f refl)
same_test false true f g = g refl

pub is-some-of : (o : Option ℕ) (f : ℕ) → o ≡ Some f → is_some o ≡ true
is-some-of o f e = ap is_some e

pub some-of-is : (o : Option ℕ) → is_some o ≡ true → (f : ℕ) × (o ≡ Some f)
some-of-is None e = absurd (false≢true e)
some-of-is (Some f) e = (f, refl)

pub same-page : (ram : List (List ℕ)) (e : Entry) → is_some (page_of ram e) ≡ is_some (frame_of e)
same-page ram Invalid = refl
same-page ram (Table f) = refl
same-page ram (Leaf f p a d) = refl

last-parent : (ram : List (List ℕ)) (t : Option ℕ) (i f : ℕ) → frame_of (last ram t i) ≡ Some f → (h : ℕ) × (t ≡ Some h)
last-parent ram None i f e = absurd (cc)
last-parent ram (Some h) i f e = (h, refl)

-- a page's place tells its tables
pub page-lower : (ram : List (List ℕ)) (root v f : ℕ) → frame_of (page_entry ram root v) ≡ Some f → (h : ℕ) × (table_at ram root 2 (v / 512) ≡ Some h)
page-lower ram root v f e = last-parent ram (table_at ram root 2 (v / 512)) (v % 512) f e

pub page-upper : (ram : List (List ℕ)) (root v f : ℕ) → frame_of (page_entry ram root v) ≡ Some f → (h : ℕ) × (table_at ram root 1 (v / 512 / 512) ≡ Some h)
page-upper ram root v f e = let low = page-lower ram root v f e in below-some ram (table_at ram root 1 (v / 512 / 512)) (v / 512 % 512) low.0 low.1

pub has : (ram : List (List ℕ)) (root v : ℕ) → IsTree ram root → (get (pages_of ram root) v ≡ cond (ltb v (2 ^ 26)) (page_at ram root v) None)
unfolding pages_of
has ram root v tree = gathered-get (page_at ram root) (2 ^ 26) v

pub has-yes : (ram : List (List ℕ)) (root v f : ℕ) → IsTree ram root → frame_of (page_entry ram root v) ≡ Some f → is_some (get (pages_of ram root) v) ≡ true
has-yes ram root v f tree e =
    ap is_some (has ram root v tree ∙ ap (λ b. cond b (page_at ram root v) None) (lt-ltb v 67108864 (page-place ram root v f tree e))) ∙ same-page ram (page_entry ram root v) ∙ ap is_some e

pub has-found : (ram : List (List ℕ)) (root v : ℕ) → IsTree ram root → is_some (get (pages_of ram root) v) ≡ true → (f : ℕ) × (frame_of (page_entry ram root v) ≡ Some f)
has-found ram root v tree e =
    elim (cases_lt v 67108864) [
      | inl lt ↦ some-of-is (frame_of (page_entry ram root v))
          (sym (same-page ram (page_entry ram root v)) ∙ sym
          (ap is_some (has ram root v tree ∙ ap (λ b. cond b (page_at ram root v) None) (lt-ltb v 67108864 lt))) ∙ e)
      | inr ge ↦ absurd (false≢true (sym (ap is_some (has ram root v tree ∙ ap (λ b. cond b (page_at ram root v) None) (le-ltb v 67108864 ge))) ∙ e))
    ]

-- a lower table stands exactly where the image has a page below it
pub lower-test : (ram : List (List ℕ)) (root t : ℕ) → IsTree ram root → NoneEmpty ram root → is_some (table_at ram root 2 t) ≡ some_below 512 (λ k. is_some (get (pages_of ram root) (512 * t + k)))
lower-test ram root t tree full =
    same_test (is_some (table_at ram root 2 t)) (some_below 512 (λ k. is_some (get (pages_of ram root) (512 * t + k))))
    (λ e. let f = some-of-is (table_at ram root 2 t) e in let page = full.lowers t f.0 f.1 in
    some-yes 512 (λ k. is_some (get (pages_of ram root) (512 * t + k))) page.0 page.2 (has-yes ram root (512 * t + page.0) page.1 tree page.3))
    (λ e. let k = some-found 512 (λ k. is_some (get (pages_of ram root) (512 * t + k))) e in let page = has-found ram root (512 * t + k.0) tree k.2 in
    let table = page-lower ram root (512 * t + k.0) page.0 page.1 in
    let at : (512 * t + k.0) / 512 ≡ t = omega (arith, k.1) in
    is-some-of (table_at ram root 2 t) table.0 (ap (table_at ram root 2) (sym at) ∙ table.1))

pub upper-test : (ram : List (List ℕ)) (root t : ℕ) → IsTree ram root → NoneEmpty ram root
    → is_some (table_at ram root 1 t) ≡ some_below (2 ^ 18) (λ k. is_some (get (pages_of ram root) (2 ^ 18 * t + k)))
upper-test ram root t tree full =
    same_test (is_some (table_at ram root 1 t)) (some_below (2 ^ 18) (λ k. is_some (get (pages_of ram root) (2 ^ 18 * t + k))))
    (λ e. let f = some-of-is (table_at ram root 1 t) e in let low = full.uppers t f.0 f.1 in let page = full.lowers (512 * t + low.0) low.1 low.3 in
    let at : 512 * (512 * t + low.0) + page.0 ≡ 262144 * t + (512 * low.0 + page.0) = omega arith in
    some-yes (2 ^ 18) (λ k. is_some (get (pages_of ram root) (2 ^ 18 * t + k))) (512 * low.0 + page.0) (omega (arith, low.2, page.2))
    (ap (λ v. is_some (get (pages_of ram root) v)) (sym at) ∙ has-yes ram root (512 * (512 * t + low.0) + page.0) page.1 tree page.3))
    (λ e. let k = some-found (2 ^ 18) (λ k. is_some (get (pages_of ram root) (2 ^ 18 * t + k))) e in let page = has-found ram root (2 ^ 18 * t + k.0) tree k.2 in
    let table = page-upper ram root (2 ^ 18 * t + k.0) page.0 page.1 in
    let at : (262144 * t + k.0) / 512 / 512 ≡ t = omega (arith, k.1) in
    is-some-of (table_at ram root 1 t) table.0 (ap (table_at ram root 1) (sym at) ∙ table.1))

lowers-count : (ram : List (List ℕ)) (root : ℕ) → IsTree ram root → NoneEmpty ram root → length (lowers ram root) ≡ groups (pages_of ram root) (2 ^ 17) 512
unfolding lowers
lowers-count ram root tree full =
    length-listed (table_at ram root 2) (2 ^ 17) ∙ how_many-same (2 ^ 17) (λ t. is_some (table_at ram root 2 t))
    (λ t. some_below 512 (λ k. is_some (get (pages_of ram root) (512 * t + k)))) (λ t lt. lower-test ram root t tree full)

uppers-count : (ram : List (List ℕ)) (root : ℕ) → IsTree ram root → NoneEmpty ram root → length (uppers ram root) ≡ groups (pages_of ram root) 256 (2 ^ 18)
unfolding uppers
uppers-count ram root tree full =
    length-listed (table_at ram root 1) 256 ∙ how_many-same 256 (λ t. is_some (table_at ram root 1 t))
    (λ t. some_below (2 ^ 18) (λ k. is_some (get (pages_of ram root) (2 ^ 18 * t + k)))) (λ t lt. upper-test ram root t tree full)

pub pages-count : (ram : List (List ℕ)) (root : ℕ) → length (page_frames ram root) ≡ len (pages_of ram root)
unfolding page_frames pages_of
pages-count ram root =
    length-listed (λ v. frame_of (page_entry ram root v)) (2 ^ 26)
    ∙ how_many-same (2 ^ 26) (λ v. is_some (frame_of (page_entry ram root v))) (λ v. is_some (page_at ram root v))
    (λ v lt. sym (same-page ram (page_entry ram root v))) ∙ sym (len-gathered (page_at ram root) (2 ^ 26))

-- where all pages are counted below a place, none is left from there on
pub page-end : (ram : List (List ℕ)) (root from : ℕ) → from ≤ 67108864
    → length (page_frames ram root) ≡ how_many from (λ v. is_some (frame_of (page_entry ram root v))) → (u : ℕ) → from ≤ u → u < 67108864
    → frame_of (page_entry ram root u) ≡ None
unfolding page_frames
page-end ram root from inside all u ge lt =
    let end : from + (67108864 - from) ≡ 67108864 = omega (arith, inside) in
    let counted = length-listed (λ v. frame_of (page_entry ram root v)) (2 ^ 26) in
    none_from_is_some (frame_of (page_entry ram root u))
    (how_many-end from (67108864 - from) (λ v. is_some (frame_of (page_entry ram root v)))
    (ap (λ n. how_many n (λ v. is_some (frame_of (page_entry ram root v)))) end ∙ sym counted ∙ all) u ge (omega (arith, lt, end)))

-- where no page is counted, there is none
pub page-none-counted : (ram : List (List ℕ)) (root : ℕ) → length (page_frames ram root) ≡ 0 → (u : ℕ) → u < 67108864 → frame_of (page_entry ram root u) ≡ None
unfolding count_below
page-none-counted ram root none u lt = page-end ram root 0 (omega arith) none u (omega arith) lt

-- a space owns as many frames as its image's price
pub length-owned : (ram : List (List ℕ)) (root size : ℕ) → IsTree ram root → NoneEmpty ram root → length (owned ram root) ≡ price (record { pages = pages_of ram root; size = size })
unfolding owned price
length-owned ram root size tree full =
    omega (
      arith,
      length-append (uppers ram root) (lowers ram root ++ page_frames ram root),
      length-append (lowers ram root) (page_frames ram root),
      uppers-count ram root tree full,
      lowers-count ram root tree full,
      pages-count ram root,
    )

-- the owned frames by kind
pub length-kinds : (ram : List (List ℕ)) (root : ℕ) → length (owned ram root) ≡ 1 + (length (uppers ram root) + length (lowers ram root)) + length (page_frames ram root)
unfolding owned
length-kinds ram root =
    omega (arith, length-append (uppers ram root) (lowers ram root ++ page_frames ram root), length-append (lowers ram root) (page_frames ram root))

abbrev one_if : Bool → ℕ
one_if b = cond b 1 0

-- one number more passes a test
pub how_many-more : (n : ℕ) (p q : ℕ → Bool) (t : ℕ) → t < n → q t ≡ true → ((k : ℕ) → k < n → k ≢ t → q k ≡ p k) → how_many n q ≡ how_many n p + cond (p t) 0 1
unfolding count_below
how_many-more zero p q t lt new others = absurd (omega arith)
how_many-more (suc n) p q t lt new others =
    elim (cases_eq n t) [
      | inl e ↦
          let rest : how_many n q ≡ how_many n p = how_many-same n q p (λ k h. others k (omega arith) (λ same. omega arith)) in
          let here : one_if (q n) ≡ 1 = ap one_if (ap q e ∙ new) in
          let there : one_if (p n) ≡ one_if (p t) = ap (λ k. one_if (p k)) e in
          omega (arith, rest, here, there, both (p t))
      | inr ne ↦
          let ih = how_many-more n p q t (omega (arith, ne)) new (λ k h. others k (omega arith)) in
          let here : one_if (q n) ≡ one_if (p n) = ap one_if (others n (omega arith) ne) in
          omega (arith, ih, here)
    ]
  where
    both : (b : Bool) → cond b 1 0 + cond b 0 1 ≡ 1
    both true = refl
    both false = refl

pub some_below-same : (n : ℕ) (p q : ℕ → Bool) → ((k : ℕ) → k < n → p k ≡ q k) → some_below n p ≡ some_below n q
unfolding some_below
some_below-same zero p q h = refl
some_below-same (suc n) p q h =
    ap (λ b. b || some_below n p) (h n (omega arith)) ∙ ap (λ b. q n || b) (some_below-same n p q (λ k lt. h k (omega arith)))

pub insert-here : (pages : FinMap nat_cmp Page) (v : ℕ) (page : Page) (u : ℕ) → u ≡ v → is_some (get (insert pages v page) u) ≡ true
insert-here pages v page u e = ap is_some (get-insert nat_cmp_total pages v page u ∙ ap (λ b. cond b (Some page) (get pages u)) (tie-yes u v e))

-- a page more, in a group of its own or in one that was there
groups-more : (pages : FinMap nat_cmp Page) (n m v t0 k0 : ℕ) (page : Page) → t0 < n → k0 < m → m * t0 + k0 ≡ v → ((t k : ℕ) → k < m → m * t + k ≡ v → t ≡ t0)
    → groups (insert pages v page) n m ≡ groups pages n m + cond (some_below m (λ k. is_some (get pages (m * t0 + k)))) 0 1
groups-more pages n m v t0 k0 page lt klt at apart =
    how_many-more n (λ t. some_below m (λ k. is_some (get pages (m * t + k)))) (λ t. some_below m (λ k. is_some (get (insert pages v page) (m * t + k)))) t0 lt
    (some-yes m (λ k. is_some (get (insert pages v page) (m * t0 + k))) k0 klt (insert-here pages v page (m * t0 + k0) at))
    (λ t tlt ne. some_below-same m (λ k. is_some (get (insert pages v page) (m * t + k))) (λ k. is_some (get pages (m * t + k)))
    (λ k h. ap is_some (get_other pages v page (m * t + k) (λ is. ne (apart t k h is)))))

-- what a page more costs
pub price-more : (pages : FinMap nat_cmp Page) (size v : ℕ) (page : Page) → v < 67108864 → get pages v ≡ None
    → price (record { pages = insert pages v page; size = size }) ≡ price (record { pages = pages; size = size })
    + (1 + (cond (some_below 512 (λ k. is_some (get pages (512 * (v / 512) + k)))) 0 1 + cond (some_below (2 ^ 18) (λ k. is_some (get pages (2 ^ 18 * (v / 262144) + k)))) 0 1))
unfolding price
price-more pages size v page small none =
    let low = groups-more pages (2 ^ 17) 512 v (v / 512) (v % 512) page (omega arith) (omega arith) (omega arith) (λ t k h is. omega arith) in
    let high = groups-more pages 256 (2 ^ 18) v (v / 262144) (v % 262144) page (omega arith) (omega arith) (omega arith) (λ t k h is. omega arith) in
    let more : len (insert pages v page) ≡ len pages + 1 = len-insert nat_cmp_total pages v page ∙ ap (λ b. cond b (len pages) (len pages + 1)) (ap is_some none) in
    omega (arith, low, high, more)

missing-is : (o : Option ℕ) → missing o ≡ cond (is_some o) 0 1
missing-is None = refl
missing-is (Some f) = refl

pub page-got : (ram : List (List ℕ)) (root v : ℕ) → v < 67108864 → get (pages_of ram root) v ≡ page_at ram root v
unfolding pages_of
page-got ram root v lt = gathered-get (page_at ram root) (2 ^ 26) v ∙ ap (λ b. cond b (page_at ram root v) None) (lt-ltb v 67108864 lt)

pub price-rise : (ram : List (List ℕ)) (root size v : ℕ) (page : Page) → IsTree ram root → NoneEmpty ram root → v < 67108864 → page_at ram root v ≡ None
    → price (record { pages = insert (pages_of ram root) v page; size = size }) ≡ price (record { pages = pages_of ram root; size = size }) + rise ram root v
unfolding rise
price-rise ram root size v page tree full lt none =
    let more = price-more (pages_of ram root) size v page lt (page-got ram root v lt ∙ none) in
    let low : missing (table_at ram root 2 (v / 512)) ≡ cond (some_below 512 (λ k. is_some (get (pages_of ram root) (512 * (v / 512) + k)))) 0 1 =
    missing-is (table_at ram root 2 (v / 512)) ∙ ap (λ b. cond b 0 1) (lower-test ram root (v / 512) tree full) in
    let high : missing (table_at ram root 1 (v / 262144)) ≡ cond (some_below (2 ^ 18) (λ k. is_some (get (pages_of ram root) (2 ^ 18 * (v / 262144) + k)))) 0 1 =
    missing-is (table_at ram root 1 (v / 262144)) ∙ ap (λ b. cond b 0 1) (upper-test ram root (v / 262144) tree full) in
    omega (arith, more, low, high)

-- a page more in the list of pages
pub pages-more : (ram ram' : List (List ℕ)) (root v : ℕ) (page : Page) → v < 67108864 → page_at ram root v ≡ None
    → pages_of ram' root ≡ insert (pages_of ram root) v page → length (page_frames ram' root) ≡ length (page_frames ram root) + 1
pages-more ram ram' root v page lt none is =
    let more : len (insert (pages_of ram root) v page) ≡ len (pages_of ram root) + 1 = len-insert nat_cmp_total (pages_of ram root) v page
    ∙ ap (λ b. cond b (len (pages_of ram root)) (len (pages_of ram root) + 1)) (ap is_some (page-got ram root v lt ∙ none)) in
    omega (arith, pages-count ram' root, ap len is, more, pages-count ram root)
