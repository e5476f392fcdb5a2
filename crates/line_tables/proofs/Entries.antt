-- Entries that are put into a map one after another.
use Rattle.std.proofs.Common.{◌≡◌, ◌∙◌, ◌⊎◌, inl, inr, ℕ, Bool, true, false, cond, T, List, [], ◌∷◌, Option, None, Some, arith, refl, sym, ap, subst, eqb}
use Rattle.std.specs.Prelude.{◌||◌, ◌==◌, nat_lt}
use Rattle.std.specs.BTreeMap.{insert_entry}
use Rattle.std.specs.FinMap.Entries.{by_order, find, find-put, is_sorted, is_sorted-put, put, same_entries}
use Rattle.std.specs.List.{fold, list_any}
use Rattle.std.specs.Option.{option_or}
use Rattle.std.specs.Ordering.{eq_by_cmp, is_eq, match_ordering, nat_cmp}
use Rattle.std.specs.declared.cmp.Ordering.{Ordering}
use Rattle.std.specs.declared.cmp.Ordering.TheVariants.{Less, Equal, Greater}
use Rattle.std.proofs.lemmas.Bool.{eqb-true, cases_Bool}
use Rattle.std.proofs.lemmas.Cmp.{nat_cmp_total}
use Rattle.line_tables.specs.Entries.{entries_of, put_if}

-- ---- numbers

tied : (q a : ℕ) → eq_by_cmp nat_cmp q a ≡ (a == q)
tied q a = grind arith

ties-same : (x y : ℕ) → nat_cmp x y ≡ Equal → x ≡ y
ties-same x y is = sym (eqb-true y x (sym (tied x y) ∙ ap is_eq is))

module _ {V : Type 0} where
  put-is : (es : List (ℕ × V)) (k : ℕ) (v : V) → insert_entry nat_cmp es k v ≡ put nat_cmp k v es
  put-is [] k v = refl
  put-is (e ∷ es) k v = go (nat_cmp k e.0) (put-is es k v)
    where
      go : (o : Ordering) → insert_entry nat_cmp es k v ≡ put nat_cmp k v es
          → match_ordering o ((k, v) ∷ e ∷ es) ((e.0, v) ∷ es) (e ∷ insert_entry nat_cmp es k v) ≡ by_order o ((k, v) ∷ e ∷ es) ((e.0, v) ∷ es) (e ∷ put nat_cmp k v es)
      go Less is = refl
      go Equal is = refl
      go Greater is = ap (λ (xs : List (ℕ × V)). e ∷ xs) is

  pub sorted-if : (k : ℕ) (o : Option V) (es : List (ℕ × V)) → T (is_sorted nat_cmp es) → T (is_sorted nat_cmp (put_if k o es))
  sorted-if k None es sorted = sorted
  sorted-if k (Some v) es sorted = subst (λ (xs : List (ℕ × V)). T (is_sorted nat_cmp xs)) (sym (put-is es k v)) (is_sorted-put nat_cmp nat_cmp_total k v es sorted)

  -- what stands at an address, once something may have been put at another
  pub find-if : (q k : ℕ) (o : Option V) (es : List (ℕ × V)) → find nat_cmp q (put_if k o es) ≡ cond (k == q) (option_or o (find nat_cmp q es)) (find nat_cmp q es)
  find-if q k None es = plain (k == q) (find nat_cmp q es)
    where
      plain : (b : Bool) (x : Option V) → x ≡ cond b x x
      plain true x = refl
      plain false x = refl
  find-if q k (Some v) es =
      ap (find nat_cmp q) (put-is es k v) ∙ find-put nat_cmp nat_cmp_total q k v es ∙ ap (λ (b : Bool). cond b (Some v) (find nat_cmp q es)) (tied q k)

  pub same-entries : (es fs : List (ℕ × V)) → T (is_sorted nat_cmp es) → T (is_sorted nat_cmp fs) → ((q : ℕ) → find nat_cmp q es ≡ find nat_cmp q fs) → es ≡ fs
  same-entries es fs here there is = same_entries nat_cmp nat_cmp_total ties-same es fs here there is

  -- what is taken if there is nothing else changes nothing if it is nothing, or the same
  pub or-either : (o p : Option V) → (p ≡ None) ⊎ (p ≡ o) → option_or o p ≡ o
  or-either None p (inl is) = is
  or-either None p (inr is) = is
  or-either (Some v) p is = refl

  pub or-assoc : (a b c : Option V) → option_or (option_or a b) c ≡ option_or a (option_or b c)
  or-assoc None b c = refl
  or-assoc (Some v) b c = refl

  -- ---- all that stands at these addresses

  module _ (at : ℕ → Option V) where
    abbrev with_all : List (ℕ × V) → List ℕ → List (ℕ × V)
    with_all es addresses = fold (λ entries address. put_if address (at address) entries) es addresses

    sorted-all : (addresses : List ℕ) (es : List (ℕ × V)) → T (is_sorted nat_cmp es) → T (is_sorted nat_cmp (with_all es addresses))
    sorted-all [] es sorted = sorted
    sorted-all (a ∷ addresses) es sorted = sorted-all addresses (put_if a (at a) es) (sorted-if a (at a) es sorted)

    pub entries-sorted : (addresses : List ℕ) → T (is_sorted nat_cmp (entries_of at addresses))
    entries-sorted addresses = sorted-all addresses [] tt

    -- the address that is put is this one, or another
    one-more : (q a : ℕ) (es : List (ℕ × V)) (b : Bool) → (a == q) ≡ b → find nat_cmp q (put_if a (at a) es) ≡ cond b (option_or (at q) (find nat_cmp q es)) (find nat_cmp q es)
    one-more q a es true is =
        find-if q a (at a) es ∙ ap (λ (b : Bool). cond b (option_or (at a) (find nat_cmp q es)) (find nat_cmp q es)) is
        ∙ ap (λ (k : ℕ). option_or (at k) (find nat_cmp q es)) (eqb-true a q is)
    one-more q a es false is = find-if q a (at a) es ∙ ap (λ (b : Bool). cond b (option_or (at a) (find nat_cmp q es)) (find nat_cmp q es)) is

    -- once it is there, it stays
    stays : (q : ℕ) (addresses : List ℕ) (es : List (ℕ × V)) → find nat_cmp q es ≡ at q → find nat_cmp q (with_all es addresses) ≡ at q
    stays q [] es is = is
    stays q (a ∷ addresses) es is = stays q addresses (put_if a (at a) es) (by (a == q) refl)
      where
        by : (b : Bool) → (a == q) ≡ b → find nat_cmp q (put_if a (at a) es) ≡ at q
        by true e = one-more q a es true e ∙ ap (option_or (at q)) is ∙ or-either (at q) (at q) (inr refl)
        by false e = one-more q a es false e ∙ is

    abbrev is_among : ℕ → List ℕ → Bool
    is_among q addresses = list_any (λ a. a == q) addresses

    comes : (q : ℕ) (addresses : List ℕ) (es : List (ℕ × V)) → find nat_cmp q es ≡ None → (is_among q addresses ≡ false → at q ≡ None) → find nat_cmp q (with_all es addresses) ≡ at q
    comes q [] es none other = none ∙ sym (other refl)
    comes q (a ∷ addresses) es none other = by (a == q) refl (comes q addresses) other
      where
        by : (b : Bool) → (a == q) ≡ b
            → ((fs : List (ℕ × V)) → find nat_cmp q fs ≡ None → (is_among q addresses ≡ false → at q ≡ None) → find nat_cmp q (with_all fs addresses) ≡ at q)
            → ((b || is_among q addresses) ≡ false → at q ≡ None)
            → find nat_cmp q (with_all (put_if a (at a) es) addresses) ≡ at q
        by true e later other = stays q addresses (put_if a (at a) es) (one-more q a es true e ∙ ap (option_or (at q)) none ∙ or-either (at q) None (inl refl))
        by false e later other = later (put_if a (at a) es) (one-more q a es false e ∙ none) other

    pub entries-at : (q : ℕ) (addresses : List ℕ) → (is_among q addresses ≡ false → at q ≡ None) → find nat_cmp q (entries_of at addresses) ≡ at q
    entries-at q addresses other = comes q addresses [] refl other
