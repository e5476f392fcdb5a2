-- The steps of a price: a run of pages without a table, and one page in a table.
use Rattle.addr_space.proofs.Prelude.{ℕ, ◌%◌, ◌*◌, ◌+◌, ◌-◌, ◌/◌, ◌<◌, ◌∙◌, ◌≡◌, ◌≢◌, ◌≤◌, ap, arith, below-some, cases_eq, cases_lt, cond, Entry, FinMap, frame_of, get, inl, inr, Invalid, is_some}
use Rattle.addr_space.proofs.Prelude.{IsTree, last, Leaf, List, nat_cmp, no-lower, None, NoneEmpty, Option, Page, page_entry, page_of, pages_of, price, refl, Some, suc, sym, Table, table_at, true}
use Rattle.addr_space.proofs.Prelude.{with_absent, zero}
use Rattle.addr_space.proofs.Prices.{lower-test, upper-test, page-got}
use Rattle.addr_space.proofs.Growing.{low, high, cost, high-old, high-new, cost-run, cost-one, absent-there}
use Rattle.addr_space.proofs.Freeing.{page-none}

pub cost-size : (pages : FinMap nat_cmp Page) (s t : ℕ) → cost pages s ≡ cost pages t
unfolding price
cost-size pages s t = refl

pub got-none : (ram : List (List ℕ)) (root u : ℕ) → u < 67108864 → frame_of (page_entry ram root u) ≡ None → get (pages_of ram root) u ≡ None
got-none ram root u lt none = page-got ram root u lt ∙ page-none ram (page_entry ram root u) none

pub got-some : (ram : List (List ℕ)) (root u f : ℕ) → u < 67108864 → frame_of (page_entry ram root u) ≡ Some f → is_some (get (pages_of ram root) u) ≡ true
got-some ram root u f lt some = ap is_some (page-got ram root u lt) ∙ by (page_entry ram root u) some
  where
    by : (e : Entry) → frame_of e ≡ Some f → is_some (page_of ram e) ≡ true
    by Invalid h = absurd (cc)
    by (Table g) h = absurd (cc)
    by (Leaf g p a d) h = refl

no-table : (ram : List (List ℕ)) (root u t : ℕ) → u / 512 ≡ t → table_at ram root 2 t ≡ None → frame_of (page_entry ram root u) ≡ None
no-table ram root u t at none = ap (λ x. frame_of (last ram x (u % 512))) (ap (table_at ram root 2) at ∙ none)

upper-cost : (ram : List (List ℕ)) (root first n need : ℕ) (page : Page) → IsTree ram root → NoneEmpty ram root
    → (table_at ram root 1 ((first + n) / 262144) ≢ None → need ≡ 0) → ((0 < n) → ((first + n) % 262144 ≡ 0 → ⊥) → need ≡ 0)
    → (table_at ram root 1 ((first + n) / 262144) ≡ None → (0 < n → (first + n) % 262144 ≡ 0) → need ≡ 1)
    → cond (high (with_absent (pages_of ram root) first n page) ((first + n) / 262144)) 0 1 ≡ need
upper-cost ram root first n need page tree full there later new =
    elim (cases_eq n 0) [
      | inl z ↦ old (λ p. absurd (omega (arith, z, p)))
      | inr some ↦ elim (cases_eq ((first + n) % 262144) 0) [
        | inl aligned ↦ old (λ p. aligned)
        | inr off ↦ ap (λ b. cond b 0 1) (high-new (pages_of ram root) first n page (omega (arith, some)) off) ∙ sym (later (omega (arith, some)) off)
      ]
    ]
  where
    by : (t : Option ℕ) → table_at ram root 1 ((first + n) / 262144) ≡ t → (0 < n → (first + n) % 262144 ≡ 0) → cond (is_some t) 0 1 ≡ need
    by None e a = sym (new e a)
    by (Some f) e a = sym (there (λ none. let w : None ≡ Some f = sym none ∙ e in absurd (cc)))

    old : (0 < n → (first + n) % 262144 ≡ 0) → cond (high (with_absent (pages_of ram root) first n page) ((first + n) / 262144)) 0 1 ≡ need
    old a = ap (λ b. cond b 0 1) (high-old (pages_of ram root) first n page a ∙ sym (upper-test ram root ((first + n) / 262144) tree full)) ∙ by (table_at ram root 1 ((first + n) / 262144)) refl a

run-at : (ram : List (List ℕ)) (root first n k size need : ℕ) (page : Page) → IsTree ram root → NoneEmpty ram root → first + (n + suc k) ≤ 67108864
    → first + (n + suc k) ≤ ((first + n) / 512 + 1) * 512
    → table_at ram root 2 ((first + n) / 512) ≡ None → (0 < n → (first + n) % 512 ≡ 0)
    → (table_at ram root 1 ((first + n) / 262144) ≢ None → need ≡ 0) → ((0 < n) → ((first + n) % 262144 ≡ 0 → ⊥) → need ≡ 0)
    → (table_at ram root 1 ((first + n) / 262144) ≡ None → (0 < n → (first + n) % 262144 ≡ 0) → need ≡ 1)
    → cost (with_absent (pages_of ram root) first (n + suc k) page) size ≡ cost (with_absent (pages_of ram root) first n page) size + (need + 1 + suc k)
run-at ram root first n k size need page tree full small group none aligned there later new =
    let run = cost-run (pages_of ram root) first n k size page small
    (λ u ge lt. got-none ram root u (omega (arith, lt)) (no-table ram root u ((first + n) / 512) (omega (arith, ge, lt)) none)) (omega (arith, group))
    (sym (lower-test ram root ((first + n) / 512) tree full) ∙ ap is_some none) aligned in
    omega (arith, run, upper-cost ram root first n need page tree full there later new)

pub price-run : (ram : List (List ℕ)) (root first v end size need : ℕ) (page : Page) → IsTree ram root → NoneEmpty ram root → first ≤ v → v < end → end ≤ (v / 512 + 1) * 512 → end ≤ 67108864
    → table_at ram root 2 (v / 512) ≡ None → (first < v → v % 512 ≡ 0)
    → (table_at ram root 1 (v / 262144) ≢ None → need ≡ 0) → ((v ≡ first → ⊥) → (v % 262144 ≡ 0 → ⊥) → need ≡ 0) → (table_at ram root 1 (v / 262144) ≡ None → (v ≢ first → v % 262144 ≡ 0) → need ≡ 1)
    → cost (with_absent (pages_of ram root) first (end - first) page) size ≡ cost (with_absent (pages_of ram root) first (v - first) page) size + (need + 1 + (end - v))
price-run ram root first v end size need page tree full ge lt group small none aligned there later new =
    let at : first + (v - first) ≡ v = omega arith in
    let total : v - first + suc (end - v - 1) ≡ end - first = omega arith in
    let last : suc (end - v - 1) ≡ end - v = omega arith in
    let run = run-at ram root first (v - first) (end - v - 1) size need page tree full (omega arith) (omega (arith, group, at))
    (ap (λ x. table_at ram root 2 (x / 512)) at ∙ none) (λ p. ap (λ x. x % 512) at ∙ aligned (omega (arith, p)))
    (λ some. there (λ e. some (ap (λ x. table_at ram root 1 (x / 262144)) at ∙ e)))
    (λ p off. later (λ e. omega (arith, e, p)) (λ z. off (ap (λ x. x % 262144) at ∙ z)))
    (λ e a. new (sym (ap (λ x. table_at ram root 1 (x / 262144)) at) ∙ e) (λ ne. sym (ap (λ x. x % 262144) at) ∙ a (omega (arith, ge, ne)))) in
    omega (arith, run, last, ap (λ m. cost (with_absent (pages_of ram root) first m page) size) total)

-- a run of pages without an upper table: so many lower tables, and the upper one once
pub price-span : (fuel : ℕ) (ram : List (List ℕ)) (root first v end size need : ℕ) (page : Page) → IsTree ram root → NoneEmpty ram root → first ≤ v
    → v < end → end ≤ 512 * (v / 512 + fuel) → end ≤ (v / 262144 + 1) * 262144 → end ≤ 67108864
    → table_at ram root 1 (v / 262144) ≡ None → (first < v → v % 512 ≡ 0)
    → ((v ≡ first → ⊥) → (v % 262144 ≡ 0 → ⊥) → need ≡ 0) → ((v ≢ first → v % 262144 ≡ 0) → need ≡ 1)
    → cost (with_absent (pages_of ram root) first (end - first) page) size ≡ cost (with_absent (pages_of ram root) first (v - first) page) size + (need + ((end - 1) / 512 - v / 512 + 1) + (end - v))
price-span zero ram root first v end size need page tree full ge lt few group small none aligned later new = absurd (omega (arith, lt, few))
price-span (suc fuel) ram root first v end size need page tree full ge lt few group small none aligned later new =
    let mid = (v / 512 + 1) * 512 in
    elim (cases_lt mid end) [
      | inl more ↦
          let one = price-run ram root first v mid size need page tree full ge (omega arith) (omega arith) (omega (arith, more, small))
          (no-lower ram root v none) aligned (λ ne. absurd (ne none)) later (λ e. new) in
          let same : mid / 262144 ≡ v / 262144 = omega (arith, more, group) in
          let next : mid / 512 ≡ v / 512 + 1 = omega arith in
          let rest = price-span fuel ram root first mid end size 0 page tree full (omega (arith, ge)) more (omega (arith, few, next))
          (omega (arith, group, same)) small (ap (table_at ram root 1) same ∙ none) (λ p. omega arith) (λ a b. refl)
          (λ a. absurd (omega (arith, more, group, a (λ e. omega (arith, e, ge))))) in
          omega (arith, one, rest, next, more)
      | inr whole ↦
          let one = price-run ram root first v end size need page tree full ge lt whole small (no-lower ram root v none) aligned (λ ne. absurd (ne none)) later (λ e. new) in
          let same : (end - 1) / 512 ≡ v / 512 = omega (arith, whole, lt) in
          omega (arith, one, same)
    ]

pub price-one : (ram : List (List ℕ)) (root first v size need f : ℕ) (page : Page) → IsTree ram root → NoneEmpty ram root → first ≤ v → v < 67108864 → table_at ram root 2 (v / 512) ≡ Some f
    → ((g : ℕ) → frame_of (page_entry ram root v) ≡ Some g → need ≡ 0) → (frame_of (page_entry ram root v) ≡ None → need ≡ 1)
    → cost (with_absent (pages_of ram root) first (v + 1 - first) page) size ≡ cost (with_absent (pages_of ram root) first (v - first) page) size + need
price-one ram root first v size need f page tree full ge small table there new = by (frame_of (page_entry ram root v)) refl
  where
    at : first + (v - first) ≡ v
    at = omega (arith, ge)

    next : suc (v - first) ≡ v + 1 - first
    next = omega (arith, ge)

    more : cost (with_absent (pages_of ram root) first (suc (v - first)) page) size ≡ cost (with_absent (pages_of ram root) first (v + 1 - first) page) size
    more = ap (λ m. cost (with_absent (pages_of ram root) first m page) size) next

    by : (o : Option ℕ) → frame_of (page_entry ram root v) ≡ o
        → cost (with_absent (pages_of ram root) first (v + 1 - first) page) size ≡ cost (with_absent (pages_of ram root) first (v - first) page) size + need
    by (Some g) e =
        let same = absent-there (pages_of ram root) first (v - first) page (ap (λ x. is_some (get (pages_of ram root) x)) at ∙ got-some ram root v g small e) in
        omega (arith, ap (λ m. cost m size) same, more, there g e)
    by None e =
        let upper = below-some ram (table_at ram root 1 (v / 512 / 512)) (v / 512 % 512) f table in
        let place : v / 512 / 512 ≡ v / 262144 = omega arith in
        let lows : low (pages_of ram root) ((first + (v - first)) / 512) ≡ true = ap (λ x. low (pages_of ram root) (x / 512)) at ∙ sym (lower-test ram root (v / 512) tree full) ∙ ap is_some table in
        let highs : high (pages_of ram root) ((first + (v - first)) / 262144) ≡ true = ap (λ x. high (pages_of ram root) (x / 262144)) at
        ∙ sym (upper-test ram root (v / 262144) tree full) ∙ ap is_some (ap (table_at ram root 1) (sym place) ∙ upper.1) in
        let one = cost-one (pages_of ram root) first (v - first) size page (omega (arith, small, at)) (ap (get (pages_of ram root)) at ∙ got-none ram root v small e) (inl (lows, highs)) in
        omega (arith, one, more, new e)

-- the pages from v on within one table, none of which is there
pub price-rest : (k : ℕ) (ram : List (List ℕ)) (root first v size f : ℕ) (page : Page) → IsTree ram root → NoneEmpty ram root → first ≤ v
    → v + k ≤ 67108864 → v + k ≤ (v / 512 + 1) * 512 → table_at ram root 2 (v / 512) ≡ Some f
    → ((u : ℕ) → v ≤ u → u < v + k → frame_of (page_entry ram root u) ≡ None)
    → cost (with_absent (pages_of ram root) first (v + k - first) page) size ≡ cost (with_absent (pages_of ram root) first (v - first) page) size + k
price-rest zero ram root first v size f page tree full ge small group table none =
    let all : v + 0 - first ≡ v - first = omega arith in
    omega (arith, ap (λ n. cost (with_absent (pages_of ram root) first n page) size) all)
price-rest (suc k) ram root first v size f page tree full ge small group table none =
    let same : (v + k) / 512 ≡ v / 512 = omega (arith, group) in
    let here : frame_of (page_entry ram root (v + k)) ≡ None = none (v + k) (omega arith) (omega arith) in
    let one =
    price-one ram root first (v + k) size 1 f page tree full (omega (arith, ge)) (omega (arith, small)) (ap (table_at ram root 2) same ∙ table)
    (λ g e. let w : None ≡ Some g = sym here ∙ e in absurd (cc)) (λ e. refl) in
    let rest = price-rest k ram root first v size f page tree full ge (omega (arith, small)) (omega (arith, group)) table (λ u a b. none u a (omega (arith, b))) in
    let next : v + suc k - first ≡ v + k + 1 - first = omega arith in
    omega (arith, one, rest, ap (λ n. cost (with_absent (pages_of ram root) first n page) size) next)
