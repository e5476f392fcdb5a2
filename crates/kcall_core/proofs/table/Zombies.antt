-- The children that a table has are those that its process sees; the ended child of least pid is the one that wait takes.
use Rattle.kcall_core.proofs.Prelude.{[], ℕ, ℤ, ◌<◌, ◌||◌, ◌∙◌, ◌∷◌, ◌≡◌, ◌≢◌, ◌≤◌, ◌⊎◌, ap, arith, Bool, both_ways, by_status, cases_eq, cases_lt, Child, child_of, child_seen, cond, descriptors_at}
use Rattle.kcall_core.proofs.Prelude.{each_of, entries, entries_sorted, eqb_tells, false, find, first, get, get_or, Hart, has_status, HasChild, HasNoChild, HasNoneEnded, Held, held_at, inl, inr}
use Rattle.kcall_core.proofs.Prelude.{is_lt, is_parent, is_some, is_this, IsTable, Kernel, keys, List, list_any, listed, live_of, map, nat_cmp, nat_cmp_is, nat_eq, None, none_from_is_some, Option}
use Rattle.kcall_core.proofs.Prelude.{or_right, place_at, place_is_child, Process, process_of, refl, Registers, regs_at, second, slot_of, Slots, Some, State, state_of, status_of, subst, suc, sym, T}
use Rattle.kcall_core.proofs.Prelude.{TakesLeast, true, Zombie}
use Rattle.std.specs.declared.cmp.Ordering.TheVariants.{Equal, Greater}
use Rattle.std.specs.FinMap.Entries.{is_sorted, below_all}
use Rattle.kcall_core.proofs.table.Observed.{slot-found, entry-held, pid-missing}

-- ---- lists of pids

pub find-none : (test : ℕ → Bool) (ks : List ℕ) → ((r : ℕ) → test r ≡ false) → find test ks ≡ None
find-none test [] never = refl
find-none test (k ∷ ks) never = ap (λ b. cond b (Some k) (find test ks)) (never k) ∙ find-none test ks never

pub any-none : (test : ℕ → Bool) (ks : List ℕ) → ((r : ℕ) → test r ≡ false) → list_any test ks ≡ false
any-none test [] never = refl
any-none test (k ∷ ks) never = ap (λ b. b || list_any test ks) (never k) ∙ any-none test ks never

any-by : (test : ℕ → Bool) (ks : List ℕ) (q : ℕ) → list_any (nat_eq q) ks ≡ true → test q ≡ true → list_any test ks ≡ true
any-by test [] q among holds = let no : ⊥ = cc in absurd no
any-by test (k ∷ ks) q among holds = elim (eqb_tells q k) [
  | inl e ↦ ap (λ b. b || list_any test ks) (ap test (sym e.1) ∙ holds)
  | inr e ↦ (λ i. test k || any-by test ks q (sym (ap (λ b. b || list_any (nat_eq q) ks) e.0) ∙ among) holds i) ∙ or_right (test k) true refl
]

less-than : (a b : ℕ) → T (is_lt (nat_cmp a b)) → a < b
less-than a b h = elim (cases_lt a b) [
  | inl less ↦ less
  | inr more ↦ elim (cases_eq a b) [
    | inl same ↦ absurd (subst (λ o. T (is_lt o)) (sym (nat_cmp_is a b Equal same)) h)
    | inr apart ↦ absurd (subst (λ o. T (is_lt o)) (sym (nat_cmp_is a b Greater (omega (arith, more, apart)))) h)
  ]
]

above-all : {X : Type 0} (a : ℕ) (es : List (ℕ × X)) (q : ℕ) → T (below_all nat_cmp a es) → list_any (nat_eq q) (map (λ e. e.0) es) ≡ true → a < q
above-all a [] q below among = let no : ⊥ = cc in absurd no
above-all a (e ∷ es) q below among = elim (eqb_tells q e.0) [
  | inl same ↦ subst (λ n. a < n) (sym same.1) (less-than a e.0 (first (is_lt (nat_cmp a e.0)) (below_all nat_cmp a es) below))
  | inr apart ↦ above-all a es q (second (is_lt (nat_cmp a e.0)) (below_all nat_cmp a es) below) (sym (ap (λ b. b || list_any (nat_eq q) (map (λ e. e.0) es)) apart.0) ∙ among)
]

-- the least of those that are looked for is found
find-least : {X : Type 0} (es : List (ℕ × X)) (test : ℕ → Bool) (q : ℕ) → T (is_sorted nat_cmp es) → list_any (nat_eq q) (map (λ e. e.0) es) ≡ true
    → test q ≡ true → ((r : ℕ) → test r ≡ true → q ≤ r) → find test (map (λ e. e.0) es) ≡ Some q
find-least [] test q sorted among holds least = let no : ⊥ = cc in absurd no
find-least (e ∷ es) test q sorted among holds least = by (λ later. find-least es test q (second (below_all nat_cmp e.0 es) (is_sorted nat_cmp es) sorted) later holds least) (test e.0) refl
  where
    later : q ≢ e.0 → list_any (nat_eq q) (map (λ e. e.0) es) ≡ true
    later ne = elim (eqb_tells q e.0) [ inl same ↦ absurd (ne same.1) | inr apart ↦ sym (ap (λ b. b || list_any (nat_eq q) (map (λ e. e.0) es)) apart.0) ∙ among ]

    by : (list_any (nat_eq q) (map (λ e. e.0) es) ≡ true → find test (map (λ e. e.0) es) ≡ Some q) → (b : Bool) → test e.0 ≡ b → cond b (Some e.0) (find test (map (λ e. e.0) es)) ≡ Some q
    by rest true is = elim (cases_eq q e.0) [
      | inl same ↦ ap Some (sym same)
      | inr apart ↦
          let after = above-all e.0 es q (first (below_all nat_cmp e.0 es) (is_sorted nat_cmp es) sorted) (later apart) in
          let low = least e.0 is in
          absurd (omega (arith, after, low))
    ]
    by rest false is = rest (later (λ same. both_ways _ is (ap test (sym same) ∙ holds)))

any-at : (test : Option Process → Bool) (xs : List (Option Process)) → list_any test xs ≡ true → (j : ℕ) × (test (get_or xs j None) ≡ true)
any-at test [] e = let no : ⊥ = cc in absurd no
any-at test (x ∷ xs) e = by (any-at test xs) (test x) refl
  where
    by : (list_any test xs ≡ true → (j : ℕ) × (test (get_or xs j None) ≡ true)) → (b : Bool) → test x ≡ b → (j : ℕ) × (test (get_or (x ∷ xs) j None) ≡ true)
    by rest true is = (0, is)
    by rest false is = let r = rest (sym (ap (λ b. b || list_any test xs) is) ∙ e) in (suc r.0, r.1)

-- ---- what a process sees of its children

same-parent : (p : ℕ) (o : Option ℕ) → is_parent p o ≡ is_this p o
same-parent p None = refl
same-parent p (Some q) = refl

module _ (k : Kernel) (h : Hart) (p : ℕ) (is_table : IsTable k.table) where
  abbrev s : State
  s = state_of k h

  abbrev sees : ℕ → Option Child
  sees r = child_of p (get s.processes r)

  abbrev shown : Process → Option Child
  shown x = cond (is_this p x.parent) (Some (child_seen (status_of x))) None

  shows : (x : Process) (fs : List (Option ℕ)) (held : Held) (regs : Registers) → child_of p (Some (process_of x fs held regs)) ≡ shown x
  shows x fs held regs = by (status_of x)
    where
      by : (o : Option ℤ) → child_of p (Some (by_status x.parent (live_of x fs held regs) o)) ≡ cond (is_this p x.parent) (Some (child_seen o)) None
      by None = refl
      by (Some status) = refl

  at-slot : (j : ℕ) (x : Process) → place_at k.table j ≡ Some x → sees x.pid ≡ shown x
  at-slot j x at = ap (child_of p) (entry-held k h is_table j x at) ∙ shows x (descriptors_at k.table j) (held_at (each_of k.memories) j) (regs_at k h j)

  seen : (r : ℕ) → (sees r ≡ None) ⊎ ((j : ℕ) × (x : Process) × (place_at k.table j ≡ Some x) × (x.pid ≡ r) × (sees r ≡ shown x))
  seen r = by (slot_of k.table r) refl
    where
      by : (o : Option ℕ) → slot_of k.table r ≡ o → (sees r ≡ None) ⊎ ((j : ℕ) × (x : Process) × (place_at k.table j ≡ Some x) × (x.pid ≡ r) × (sees r ≡ shown x))
      by None e = inl (ap (child_of p) (pid-missing k h is_table r e))
      by (Some j) e = let f = slot-found k.table r j e in inr (j, f.0, f.1, f.2, ap sees (sym f.2) ∙ at-slot j f.0 f.1)

  pub none-seen : HasNoChild k.table p → (r : ℕ) → sees r ≡ None
  none-seen none r = elim (seen r) [
    | inl e ↦ e
    | inr f ↦ f.4 ∙ ap (λ (b : Bool). cond b (Some (child_seen (status_of f.1))) None) (sym (same-parent p f.1.parent) ∙ none f.0 f.1 f.2)
  ]

  pub none-ended : HasNoneEnded k.table p → (r : ℕ) → has_status (sees r) ≡ false
  none-ended none r = elim (seen r) [
    | inl e ↦ ap has_status e
    | inr f ↦ ap has_status f.4 ∙ by f.0 f.1 f.2 (is_this p f.1.parent) refl
  ]
    where
      by : (j : ℕ) (x : Process) → place_at k.table j ≡ Some x → (b : Bool) → is_this p x.parent ≡ b → has_status (cond b (Some (child_seen (status_of x))) None) ≡ false
      by j x at true is = ap (λ (o : Option ℤ). has_status (Some (child_seen o))) (none_from_is_some (status_of x) (none j x at (same-parent p x.parent ∙ is)))
      by j x at false is = refl

  pub some-child : HasChild k.table p → list_any (λ r. is_some (sees r)) (keys s.processes) ≡ true
  some-child has = by (any-at (place_is_child p) k.table.places has)
    where
      at : (j : ℕ) (o : Option Process) → place_at k.table j ≡ o → place_is_child p o ≡ true → list_any (λ r. is_some (sees r)) (keys s.processes) ≡ true
      at j None is e = let no : ⊥ = cc in absurd no
      at j (Some x) is e =
          any-by (λ r. is_some (sees r)) (keys s.processes) x.pid (listed s.processes x.pid ∙ ap is_some (entry-held k h is_table j x is))
          (ap is_some (at-slot j x is) ∙ ap (λ (b : Bool). is_some (cond b (Some (child_seen (status_of x))) None)) (sym (same-parent p x.parent) ∙ e))

      by : (j : ℕ) × (place_is_child p (place_at k.table j) ≡ true) → list_any (λ r. is_some (sees r)) (keys s.processes) ≡ true
      by f = at f.0 (place_at k.table f.0) refl f.1

  parent-is : (o : Option ℕ) → is_parent p o ≡ true → o ≡ Some p
  parent-is None e = let no : ⊥ = cc in absurd no
  parent-is (Some q) e = elim (eqb_tells q p) [ inl same ↦ ap Some same.1 | inr apart ↦ absurd (both_ways _ apart.0 e) ]

  module _ (new : Slots) (q : ℕ) (status : ℤ) (x : TakesLeast k.table new p q status) where
    -- the zombie
    pub zombie-is : get s.processes q ≡ Some (Zombie (Some p) status)
    zombie-is =
        ap (get s.processes) (sym x.pid_is) ∙ entry-held k h is_table x.slot x.child x.held
        ∙ (λ i. Some (by_status (parent-is x.child.parent x.is_child i) (live_of x.child (descriptors_at k.table x.slot) (held_at (each_of k.memories) x.slot) (regs_at k h x.slot)) (x.status_is i)))

    ended-here : has_status (sees q) ≡ true
    ended-here =
        ap (λ n. has_status (sees n)) (sym x.pid_is) ∙ ap has_status (at-slot x.slot x.child x.held)
        ∙ ap (λ (b : Bool). has_status (cond b (Some (child_seen (status_of x.child))) None)) (sym (same-parent p x.child.parent) ∙ x.is_child)
        ∙ ap (λ (o : Option ℤ). has_status (Some (child_seen o))) x.status_is

    lowest : (r : ℕ) → has_status (sees r) ≡ true → q ≤ r
    lowest r e = elim (seen r) [
      | inl none ↦ absurd (both_ways _ (ap has_status none) e)
      | inr f ↦ subst (λ n. q ≤ n) f.3 (by f.0 f.1 f.2 (is_this p f.1.parent) (status_of f.1) refl refl (sym (ap has_status f.4) ∙ e))
    ]
      where
        by : (j : ℕ) (y : Process) → place_at k.table j ≡ Some y → (b : Bool) (o : Option ℤ) → is_this p y.parent ≡ b → status_of y ≡ o
            → has_status (cond b (Some (child_seen o)) None) ≡ true → q ≤ y.pid
        by j y at true None is over e = let no : ⊥ = cc in absurd no
        by j y at true (Some z) is over e = x.least j y at (same-parent p y.parent ∙ is) (ap is_some over)
        by j y at false o is over e = let no : ⊥ = cc in absurd no

    pub least-is : find (λ r. has_status (sees r)) (keys s.processes) ≡ Some q
    least-is = find-least (entries s.processes) (λ r. has_status (sees r)) q (entries_sorted s.processes) (listed s.processes q ∙ ap is_some zombie-is) ended-here lowest
