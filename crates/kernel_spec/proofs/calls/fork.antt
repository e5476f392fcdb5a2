-- fork: which call it is, and what is claimed of its row.
use Rattle.kernel_spec.proofs.Prelude.{[], ℕ, ◌++◌, ◌>>=◌, ◌or◌, ◌||◌, ◌∙◌, ◌∷◌, ◌≡◌, ◌⊎◌, answered, ap, Call, eqb-true, Exec, false, Fork, fork, Image, inl, inr, is_some, List, nat_eq, None}
use Rattle.kernel_spec.proofs.Prelude.{nothing_stored, Option, or_cases, or_right, perform, pos, refl, row, row_of, Some, sym, true, View}
use Rattle.kernel_spec.proofs.calls.Facts.{Facts, RowFacts, at_next, has, no, nothing, same_image}
use Rattle.kernel_spec.proofs.calls.Words.{by_number, by_when}
use Rattle.kernel_spec.proofs.calls.Images.{Images, Tells, allowed_none, nothing_empty}
use Rattle.kernel_spec.proofs.calls.Tables.{Table, change_same, table_same}
use Rattle.kernel_spec.proofs.rows.RowParts.{forked, with_child}

pub is_fork : (c : Call) (v : View) → c.number ≡ pos 1 → perform c v ≡ fork c v
unfolding row row_of ◌>>=◌ ◌or◌
is_fork c v is = by_number c v (pos 1) is

-- one pid more at the end
has_more : (q n : ℕ) (xs : List ℕ) → has q (xs ++ n ∷ []) ≡ true → (has q xs ≡ true) ⊎ (q ≡ n)
has_more q n [] e = elim (or_cases (nat_eq q n) false e) [ inl h ↦ inr (eqb-true q n h) | inr h ↦ let no_way : ⊥ = cc in absurd no_way ]
has_more q n (x ∷ xs) e = elim (or_cases (nat_eq q x) (has q (xs ++ n ∷ [])) e) [
  | inl h ↦ inl (λ i. h i || has q xs)
  | inr h ↦ elim (has_more q n xs h) [ inl g ↦ inl (or_right (nat_eq q x) (has q xs) g) | inr g ↦ inr g ]
]

module _ (c : Call) (v : View) (its : row_of c.number ≡ Some Fork) where
  abbrev parent : View
  parent = answered (pos v.next_pid) (with_child v)

  abbrev at_parent : (P : View → Type 0) → P parent → (n : View) → Some parent ≡ Some n → P n
  at_parent = at_next c nothing_stored v (forked c v) parent refl

  bears : Facts c nothing_stored v (forked c v)
  bears = record {
    exec = λ n e exec. let no_way : Some Fork ≡ Some Exec = sym its ∙ exec.1 in let bad : ⊥ = cc in absurd bad;
    image = λ _. at_parent (λ n. Images nothing_stored v.image n.image) (same_image c v);
    told = at_parent (λ n. Tells nothing_stored v.image n.image) (same_image c v).told;
    allowed = allowed_none nothing_stored v.image nothing_empty;
    left = λ _. refl;
    pids = λ q h. has_more q v.next_pid v.pids h;
    table = λ _. at_parent (λ n. Table v.descriptors n.descriptors) (table_same v.descriptors parent.descriptors (change_same _ v.descriptors));
    bears = λ n e _. at_parent (λ n. (k : ℕ) → is_some (n.descriptors k) ≡ is_some (v.descriptors k)) (λ k. (change_same _ v.descriptors k).0) n e;
    parent = λ _. refl;
    newborn = λ child is. ap (λ (o : Option View). image_of o) (sym is);
  }
    where
      image_of : Option View → Image
      image_of None = v.image
      image_of (Some w) = w.image

  pub fork_facts : RowFacts c v nothing (fork c v)
  unfolding fork
  fork_facts = by_when (RowFacts c v nothing) _ (no c v) (λ _. by_when (RowFacts c v nothing) _ (no c v) (λ _. by_when (RowFacts c v nothing) _ (no c v) (λ _. record {
    step = bears;
    comes = inr (inl (record { value = v.next_pid; answer = refl; after = parent; next = refl; idle = refl; pids = (refl, refl, refl) }));
  })))
