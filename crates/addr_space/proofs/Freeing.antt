-- A page goes, and the tables that then map nothing.
use Rattle.addr_space.proofs.Prelude.{[], ℕ, ◌%◌, ◌*◌, ◌++◌, ◌+◌, ◌-◌, ◌/◌, ◌<◌, ◌^◌, ◌∙◌, ◌∷◌, ◌≡◌, ◌≤◌, ap, arith, at, at-same, Belongs, Beside, cases_eq, cases_lt, Changed, cond, copies}
use Rattle.addr_space.proofs.Prelude.{copies-nil, copies-one, Entry, frame_of, frames_of, free_in, Freed, gathered, gathered-get, get, Given, given-free, Holds, inl, inr, Invalid, IsSome, IsTree}
use Rattle.addr_space.proofs.Prelude.{le-ltb, Leaf, length, List, listed-same, lowers, lt-ltb, ltb, nat_cmp-IsAntisymmetric, nat_cmp_total, None, NoneEmpty, Option, owned, page-place, page_at}
use Rattle.addr_space.proofs.Prelude.{page_entry, page_frames, page_of, pages_of, Pool, refl, same-cons, same_map, Some, Space, subst, sym, Table, table_at, trade-join, Traded, uppers, Usual}
use Rattle.addr_space.proofs.Empties.{listed-none}
use Rattle.addr_space.proofs.Paths.{beside-join, beside-none, leaves-after}
use Rattle.addr_space.proofs.Prices.{length-kinds, some-of-is}
use Rattle.addr_space.proofs.Mapping.{counted}
use Rattle.addr_space.proofs.Trades.{given-others}

pub freed-join : (pool0 pool1 pool2 : Pool) (ram0 ram1 ram2 : List (List ℕ)) (root v n m : ℕ) → Freed pool0 ram0 pool1 ram1 root v n
    → Freed pool1 ram1 pool2 ram2 root v m → Freed pool0 ram0 pool2 ram2 root v (n + m)
freed-join pool0 pool1 pool2 ram0 ram1 ram2 root v n m a b = record {
  holds = b.holds;
  traded = trade-join pool0 pool1 pool2 ram0 ram1 ram2 (owned ram0 root) (owned ram1 root) (owned ram2 root) a.traded b.traded;
  beside = beside-join ram0 ram1 ram2 root v a.beside b.beside;
  less = omega (arith, a.less, b.less);
}

-- no table is empty beside the way, nor on it
pub full-freed : (ram ram' : List (List ℕ)) (root v : ℕ) → NoneEmpty ram root → Beside ram ram' root v
    → ((f : ℕ) → table_at ram' root 1 (v / 262144) ≡ Some f → (i : ℕ) × (g : ℕ) × (i < 512) × (table_at ram' root 2 (512 * (v / 262144) + i) ≡ Some g))
    → ((f : ℕ) → table_at ram' root 2 (v / 512) ≡ Some f → (i : ℕ) × (g : ℕ) × (i < 512) × (frame_of (page_entry ram' root (512 * (v / 512) + i)) ≡ Some g)) → NoneEmpty ram' root
full-freed ram ram' root v full beside high low = record {
  uppers = λ p f e. elim (cases_eq p (v / 262144)) [
    | inl same ↦ let r = high f (ap (table_at ram' root 1) (sym same) ∙ e) in (r.0, r.1, r.2, ap (λ q. table_at ram' root 2 (512 * q + r.0)) same ∙ r.3)
    | inr ne ↦
        let r = full.uppers p f (sym (beside.uppers p ne) ∙ e) in
        by_lower p r.0 r.1 r.2 ne r.3
  ];
  lowers = λ p f e. elim (cases_eq p (v / 512)) [
    | inl same ↦ let r = low f (ap (table_at ram' root 2) (sym same) ∙ e) in (r.0, r.1, r.2, ap (λ q. frame_of (page_entry ram' root (512 * q + r.0))) same ∙ r.3)
    | inr ne ↦
        let r = full.lowers p f (sym (beside.lowers p ne) ∙ e) in
        (r.0, r.1, r.2, ap frame_of (beside.pages (512 * p + r.0) (λ is. ne (omega (arith, is, r.2)))) ∙ r.3)
  ];
}
  where
    by_lower : (p i g : ℕ) → i < 512 → (p ≡ v / 262144 → ⊥) → table_at ram root 2 (512 * p + i) ≡ Some g → (i : ℕ) × (g : ℕ) × (i < 512) × (table_at ram' root 2 (512 * p + i) ≡ Some g)
    by_lower p i g lt ne e = (i, g, lt, beside.lowers (512 * p + i) (λ is. ne (omega (arith, is, lt))) ∙ e)

pub same-frames : (ram ram' : List (List ℕ)) (root : ℕ) → ((u : ℕ) → page_entry ram' root u ≡ page_entry ram root u) → page_frames ram' root ≡ page_frames ram root
unfolding page_frames
same-frames ram ram' root same = listed-same (λ v. frame_of (page_entry ram' root v)) (λ v. frame_of (page_entry ram root v)) (2 ^ 26) (λ k lt. ap frame_of (same k))

-- the three steps together
page-freed : (pool0 pool1 pool2 pool3 : Pool) (ram0 ram1 ram2 ram3 : List (List ℕ)) (space : Space) (v n m : ℕ) → Belongs pool0 ram0 space
    → Freed pool0 ram0 pool1 ram1 space.root v 1 → Freed pool1 ram1 pool2 ram2 space.root v n → Freed pool2 ram2 pool3 ram3 space.root v m
    → page_entry ram1 space.root v ≡ Invalid → length (page_frames ram0 space.root) ≡ 1 + length (page_frames ram1 space.root)
    → ((u : ℕ) → page_entry ram2 space.root u ≡ page_entry ram1 space.root u) → ((u : ℕ) → page_entry ram3 space.root u ≡ page_entry ram2 space.root u)
    → ((p : ℕ) → table_at ram3 space.root 2 p ≡ table_at ram2 space.root 2 p)
    → ((f : ℕ) → table_at ram2 space.root 2 (v / 512) ≡ Some f → (i : ℕ) × (g : ℕ) × (i < 512) × (frame_of (page_entry ram2 space.root (512 * (v / 512) + i)) ≡ Some g))
    → ((f : ℕ) → table_at ram3 space.root 1 (v / 262144) ≡ Some f → (i : ℕ) × (g : ℕ) × (i < 512) × (table_at ram3 space.root 2 (512 * (v / 262144) + i) ≡ Some g))
    → (n + m ≤ space.tables) × Changed pool0 ram0 space pool3 ram3 (counted space (space.pages - 1) (space.tables - (n + m)))
page-freed pool0 pool1 pool2 pool3 ram0 ram1 ram2 ram3 space v n m b a1 a2 a3 gone fewer same2 same3 lowers low high =
    let root = space.root in
    let all = freed-join pool0 pool2 pool3 ram0 ram2 ram3 root v (1 + n) m (freed-join pool0 pool1 pool2 ram0 ram1 ram2 root v 1 n a1 a2) a3 in
    let entry : page_entry ram3 root v ≡ Invalid = same3 v ∙ same2 v ∙ gone in
    let low' : (f : ℕ) → table_at ram3 root 2 (v / 512) ≡ Some f → (i : ℕ) × (g : ℕ) × (i < 512) × (frame_of (page_entry ram3 root (512 * (v / 512) + i)) ≡ Some g) =
    λ f e. let r = low f (sym (lowers (v / 512)) ∙ e) in (r.0, r.1, r.2, ap frame_of (same3 (512 * (v / 512) + r.0)) ∙ r.3) in
    let frames : length (page_frames ram3 root) ≡ length (page_frames ram1 root) = ap length (same-frames ram2 ram3 root same3 ∙ same-frames ram1 ram2 root same2) in
    let is = b.whole in (
      omega (arith, is.tables, is.pages, length-kinds ram0 root, length-kinds ram3 root, all.less, frames, fewer),
      record {
        whole = record {
          tree = all.holds.tree;
          full = full-freed ram0 ram3 root v is.full all.beside high low';
          leaves = leaves-after ram0 ram3 root v is.leaves all.beside (subst (λ e. Usual e) (sym entry) tt);
          ends = λ u ge lt. elim (cases_eq u v) [
            | inl e ↦ ap (λ x. frame_of (page_entry ram3 root x)) e ∙ ap frame_of entry
            | inr ne ↦ ap frame_of (all.beside.pages u ne) ∙ is.ends u ge lt
          ];
          size = is.size;
          pages = omega (arith, is.pages, frames, fewer);
          tables = omega (arith, is.tables, is.pages, length-kinds ram0 root, length-kinds ram3 root, all.less, frames, fewer);
        };
        root = refl;
        traded = all.traded;
      },
    )

pub changed-join : (pool0 pool1 pool2 : Pool) (ram0 ram1 ram2 : List (List ℕ)) (s0 s1 s2 : Space) → Changed pool0 ram0 s0 pool1 ram1 s1
    → Changed pool1 ram1 s1 pool2 ram2 s2 → Changed pool0 ram0 s0 pool2 ram2 s2
changed-join pool0 pool1 pool2 ram0 ram1 ram2 s0 s1 s2 a b = record {
  whole = b.whole;
  root = b.root ∙ a.root;
  traded = trade-join pool0 pool1 pool2 ram0 ram1 ram2 (frames_of ram0 s0) (frames_of ram1 s1) (frames_of ram2 s2) a.traded b.traded;
}

pub changed-none : (pool : Pool) (ram : List (List ℕ)) (space : Space) → Belongs pool ram space → Changed pool ram space pool ram space
changed-none pool ram space b = record { whole = b.whole; root = refl; traded = record { good = b.good; count = refl; frames = λ f. refl; others = λ f x y. refl } }

pub page-none : (ram : List (List ℕ)) (e : Entry) → frame_of e ≡ None → page_of ram e ≡ None
page-none ram Invalid h = refl
page-none ram (Table f) h = refl
page-none ram (Leaf f p a d) h = absurd (cc)

-- the pages below a place are those that are left
pub pages-below : (ram ram' : List (List ℕ)) (root first : ℕ) → first ≤ 67108864 → ((u : ℕ) → u < first → page_at ram' root u ≡ page_at ram root u)
    → ((u : ℕ) → first ≤ u → u < 67108864 → frame_of (page_entry ram' root u) ≡ None)
    → pages_of ram' root ≡ gathered (get (pages_of ram root)) first
unfolding pages_of
pages-below ram ram' root first inside low high =
    same_map nat_cmp_total nat_cmp-IsAntisymmetric (gathered (page_at ram' root) (2 ^ 26)) (gathered (get (gathered (page_at ram root) (2 ^ 26))) first) (λ q.
    gathered-get (page_at ram' root) (2 ^ 26) q ∙ (elim (cases_lt q first) [
      | inl lt ↦
          ap (λ b. cond b (page_at ram' root q) None) (lt-ltb q 67108864 (omega arith)) ∙ low q lt
          ∙ sym (ap (λ b. cond b (page_at ram root q) None) (lt-ltb q 67108864 (omega arith))) ∙ sym (gathered-get (page_at ram root) (2 ^ 26) q)
          ∙ sym (ap (λ b. cond b (get (gathered (page_at ram root) (2 ^ 26)) q) None) (lt-ltb q first lt))
      | inr ge ↦
          none q ge ∙ sym (ap (λ b. cond b (get (gathered (page_at ram root) (2 ^ 26)) q) None) (le-ltb q first ge))
    ]) ∙ sym (gathered-get (get (gathered (page_at ram root) (2 ^ 26))) first q))
  where
    none : (q : ℕ) → first ≤ q → cond (ltb q (2 ^ 26)) (page_at ram' root q) None ≡ None
    none q ge = elim (cases_lt q 67108864) [
      | inl lt ↦ ap (λ b. cond b (page_at ram' root q) None) (lt-ltb q 67108864 lt) ∙ page-none ram' (page_entry ram' root q) (high q ge lt)
      | inr past ↦ ap (λ b. cond b (page_at ram' root q) None) (le-ltb q 67108864 past)
    ]

pub none-of : (o : Option ℕ) → ((k : ℕ) → o ≡ Some k → ⊥) → o ≡ None
none-of None never = refl
none-of (Some k) never = absurd (never k refl)

-- where no page is left after one went, no lower table is
pub no-lowers : (ram ram' : List (List ℕ)) (root v : ℕ) → IsTree ram' root → NoneEmpty ram root → Beside ram ram' root v
    → ((f : ℕ) → table_at ram' root 2 (v / 512) ≡ Some f → (i : ℕ) × (g : ℕ) × (i < 512) × (frame_of (page_entry ram' root (512 * (v / 512) + i)) ≡ Some g))
    → ((u : ℕ) → u < 67108864 → frame_of (page_entry ram' root u) ≡ None) → (p : ℕ) → table_at ram' root 2 p ≡ None
no-lowers ram ram' root v tree full beside low none p = none-of (table_at ram' root 2 p) (λ f e. elim (cases_eq p (v / 512)) [
  | inl same ↦ let r = low f (ap (table_at ram' root 2) (sym same) ∙ e) in clash (512 * (v / 512) + r.0) r.1 r.3
  | inr ne ↦
      let r = full.lowers p f (sym (beside.lowers p ne) ∙ e) in
      clash (512 * p + r.0) r.1 (ap frame_of (beside.pages (512 * p + r.0) (λ is. ne (omega (arith, is, r.2)))) ∙ r.3)
])
  where
    clash : (u g : ℕ) → frame_of (page_entry ram' root u) ≡ Some g → ⊥
    clash u g e = let w : None ≡ Some g = sym (none u (page-place ram' root u g tree e)) ∙ e in absurd (cc)

-- where no page is left, the root alone is
pub only-root : (ram : List (List ℕ)) (root : ℕ) → IsTree ram root → NoneEmpty ram root → ((u : ℕ) → u < 67108864 → frame_of (page_entry ram root u) ≡ None) → owned ram root ≡ root ∷ []
unfolding owned uppers lowers page_frames
only-root ram root tree full none =
    let no_page : (u : ℕ) → frame_of (page_entry ram root u) ≡ None =
    λ u. none-of (frame_of (page_entry ram root u)) (λ k e. let w : None ≡ Some k = sym (none u (page-place ram root u k tree e)) ∙ e in absurd (cc)) in
    let no_lower : (p : ℕ) → table_at ram root 2 p ≡ None =
    λ p. none-of (table_at ram root 2 p) (λ k e. let r = full.lowers p k e in let w : None ≡ Some r.1 = sym (no_page (512 * p + r.0)) ∙ r.3 in
    absurd (cc)) in
    let no_upper : (p : ℕ) → table_at ram root 1 p ≡ None =
    λ p. none-of (table_at ram root 1 p) (λ k e. let r = full.uppers p k e in let w : None ≡ Some r.1 = sym (no_lower (512 * p + r.0)) ∙ r.3 in
    absurd (cc)) in
    ap (λ a. root ∷ (a ++ (lowers ram root ++ page_frames ram root))) (listed-none (table_at ram root 1) 256 no_upper)
    ∙ ap (λ a. root ∷ (a ++ page_frames ram root)) (listed-none (table_at ram root 2) (2 ^ 17) no_lower)
    ∙ ap (λ a. root ∷ a) (listed-none (λ v. frame_of (page_entry ram root v)) (2 ^ 26) no_page)

-- the last frame goes
pub root-given : (pool pool' : Pool) (ram ram' : List (List ℕ)) (root : ℕ) → owned ram root ≡ root ∷ [] → Given pool ram pool' ram' root → Traded pool ram pool' ram' (owned ram root) []
root-given pool pool' ram ram' root one given =
    let mine : (f : ℕ) → copies f (owned ram root) ≡ at f root = λ f. ap (copies f) one ∙ copies-one f root in
    record {
      good = given.good;
      count = given.count;
      frames = λ f. omega (arith, mine f, same-cons f root (free_in pool' ram') (free_in pool ram) (given-free pool pool' ram ram' root given), copies-nil f);
      others = λ f free own. given-others pool pool' ram ram' root given f (λ is. omega (arith, own, mine f, ap (at f) (sym is), at-same f)) free;
    }

-- ---- the three ends of freeing a page

freed-none : (pool : Pool) (ram : List (List ℕ)) (root v : ℕ) → Holds pool ram root → Freed pool ram pool ram root v 0
freed-none pool ram root v h = record {
  holds = h;
  traded = record { good = h.good; count = refl; frames = λ f. refl; others = λ f x y. refl };
  beside = beside-none ram root v;
  less = omega arith;
}

-- the tables that went were counted
pub tables-freed : (pool0 pool1 pool2 : Pool) (ram0 ram1 ram2 : List (List ℕ)) (space : Space) (v n : ℕ) → Belongs pool0 ram0 space
    → Freed pool0 ram0 pool1 ram1 space.root v 1 → Freed pool1 ram1 pool2 ram2 space.root v n
    → length (page_frames ram0 space.root) ≡ 1 + length (page_frames ram1 space.root) → ((u : ℕ) → page_entry ram2 space.root u ≡ page_entry ram1 space.root u) → n ≤ space.tables
tables-freed pool0 pool1 pool2 ram0 ram1 ram2 space v n b a1 a2 fewer same =
    let root = space.root in
    let all = freed-join pool0 pool1 pool2 ram0 ram1 ram2 root v 1 n a1 a2 in
    let frames : length (page_frames ram2 root) ≡ length (page_frames ram1 root) = ap length (same-frames ram1 ram2 root same) in
    let is = b.whole in
    omega (arith, is.tables, is.pages, length-kinds ram0 root, length-kinds ram2 root, all.less, frames, fewer)

-- the page alone went: its lower table leads to another page
pub page-went : (pool0 pool1 : Pool) (ram0 ram1 : List (List ℕ)) (space : Space) (v : ℕ) → Belongs pool0 ram0 space → Freed pool0 ram0 pool1 ram1 space.root v 1
    → page_entry ram1 space.root v ≡ Invalid → length (page_frames ram0 space.root) ≡ 1 + length (page_frames ram1 space.root) → IsSome (table_at ram1 space.root 2 (v / 512))
    → ((i : ℕ) × (g : ℕ) × (i < 512) × (frame_of (page_entry ram1 space.root (512 * (v / 512) + i)) ≡ Some g)) → Changed pool0 ram0 space pool1 ram1 (counted space (space.pages - 1) space.tables)
page-went pool0 pool1 ram0 ram1 space v b a1 gone fewer there used =
    let root = space.root in
    let none = freed-none pool1 ram1 root v a1.holds in
    let at : 512 * (v / 262144) + v / 512 % 512 ≡ v / 512 = omega arith in
    let lower = some-of-is (table_at ram1 root 2 (v / 512)) there in
    let kept : space.tables - 0 ≡ space.tables = omega arith in
    subst (λ t. Changed pool0 ram0 space pool1 ram1 (counted space (space.pages - 1) t)) kept
    (page-freed pool0 pool1 pool1 pool1 ram0 ram1 ram1 ram1 space v 0 0 b a1 none none gone fewer (λ u. refl) (λ u. refl) (λ p. refl) (λ f e. used)
    (λ f e. (v / 512 % 512, lower.0, omega arith, ap (table_at ram1 root 2) at ∙ lower.1))).1

-- the page went and its lower table: the upper table leads to another
pub lower-went : (pool0 pool1 pool2 : Pool) (ram0 ram1 ram2 : List (List ℕ)) (space : Space) (v : ℕ) → Belongs pool0 ram0 space
    → Freed pool0 ram0 pool1 ram1 space.root v 1 → Freed pool1 ram1 pool2 ram2 space.root v 1
    → page_entry ram1 space.root v ≡ Invalid → length (page_frames ram0 space.root) ≡ 1 + length (page_frames ram1 space.root)
    → ((u : ℕ) → page_entry ram2 space.root u ≡ page_entry ram1 space.root u) → table_at ram2 space.root 2 (v / 512) ≡ None
    → ((i : ℕ) × (g : ℕ) × (i < 512) × (table_at ram2 space.root 2 (512 * (v / 262144) + i) ≡ Some g)) → Changed pool0 ram0 space pool2 ram2 (counted space (space.pages - 1) (space.tables - 1))
lower-went pool0 pool1 pool2 ram0 ram1 ram2 space v b a1 a2 gone fewer same away used =
    (page-freed pool0 pool1 pool2 pool2 ram0 ram1 ram2 ram2 space v 1 0 b a1 a2 (freed-none pool2 ram2 space.root v a2.holds) gone fewer same (λ u. refl) (λ p. refl)
    (λ f e. let w : None ≡ Some f = sym away ∙ e in absurd (cc)) (λ f e. used)).1

-- the page went, and both tables
pub upper-went : (pool0 pool1 pool2 pool3 : Pool) (ram0 ram1 ram2 ram3 : List (List ℕ)) (space : Space) (v : ℕ) → Belongs pool0 ram0 space
    → Freed pool0 ram0 pool1 ram1 space.root v 1 → Freed pool1 ram1 pool2 ram2 space.root v 1
    → Freed pool2 ram2 pool3 ram3 space.root v 1 → page_entry ram1 space.root v ≡ Invalid → length (page_frames ram0 space.root) ≡ 1 + length (page_frames ram1 space.root)
    → ((u : ℕ) → page_entry ram2 space.root u ≡ page_entry ram1 space.root u) → ((u : ℕ) → page_entry ram3 space.root u ≡ page_entry ram2 space.root u)
    → ((p : ℕ) → table_at ram3 space.root 2 p ≡ table_at ram2 space.root 2 p) → table_at ram2 space.root 2 (v / 512) ≡ None → table_at ram3 space.root 1 (v / 262144) ≡ None
    → Changed pool0 ram0 space pool3 ram3 (counted space (space.pages - 1) (space.tables - 1 - 1))
upper-went pool0 pool1 pool2 pool3 ram0 ram1 ram2 ram3 space v b a1 a2 a3 gone fewer same2 same3 lowers low high =
    let both : space.tables - 2 ≡ space.tables - 1 - 1 = omega arith in
    subst (λ t. Changed pool0 ram0 space pool3 ram3 (counted space (space.pages - 1) t)) both
    (page-freed pool0 pool1 pool2 pool3 ram0 ram1 ram2 ram3 space v 1 1 b a1 a2 a3 gone fewer same2 same3 lowers
    (λ f e. let w : None ≡ Some f = sym low ∙ e in absurd (cc)) (λ f e. let w : None ≡ Some f = sym high ∙ e in absurd (cc))).1
