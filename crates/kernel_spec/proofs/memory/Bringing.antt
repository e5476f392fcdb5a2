-- What may be read and written once pages are touched is what may be in the whole image.
use Rattle.kernel_spec.proofs.Prelude.{ℕ, ◌&&◌, ◌*◌, ◌+◌, ◌-◌, ◌/◌, ◌^◌, ◌||◌, ◌∙◌, ◌≡◌, ◌≤◌, Access, allows, and_from, and_parts, ap, arith, Bool, cases_lt, cond, data_rights, false, get, Image, inl}
use Rattle.kernel_spec.proofs.Prelude.{inr, is_absent, is_some, le-ltb, list_all, may, may_touching, not, option_map, perm_of_page, range_with_len, reaches, reaches_touching, refl, SIZE_LIMIT, Some}
use Rattle.kernel_spec.proofs.Prelude.{suc, sym, true, whole, whole-get, whole-past, zero, zeroed}

-- no page of the upper half is absent
pub high-present : (i : Image) (v : ℕ) → i.size ≤ SIZE_LIMIT → 2 ^ 26 ≤ v → is_absent i v ≡ false
high-present i v small high = ap (λ b. b && not (is_some (get i.pages v))) (le-ltb (4096 * v) i.size (omega (arith, small, high)))

-- ---- what may be read and written

-- a byte may be read or written once its page is touched where it may be in the whole image
pub may-whole : (access : Access) (i : Image) (a : ℕ) → allows access (Some data_rights) ≡ true → i.size ≤ SIZE_LIMIT → may_touching access i a ≡ may access (whole i) a
may-whole access i a free small = elim (cases_lt (a / 4096) (2 ^ 26)) [
  | inl lt ↦ near (is_absent i (a / 4096)) refl ∙ sym (ap (λ o. allows access (option_map perm_of_page o)) (whole-get i (a / 4096) lt))
  | inr high ↦ ap (λ b. b || may access i a) (high-present i (a / 4096) small high) ∙ sym (ap (λ o. allows access (option_map perm_of_page o)) (whole-past i (a / 4096) high))
]
  where
    near : (b : Bool) → is_absent i (a / 4096) ≡ b → may_touching access i a ≡ allows access
        (option_map perm_of_page (cond (is_absent i (a / 4096)) (Some (zeroed data_rights)) (get i.pages (a / 4096))))
    near true e = ap (λ b. b || may access i a) e ∙ sym free ∙ sym (ap (λ b. allows access (option_map perm_of_page (cond b (Some (zeroed data_rights)) (get i.pages (a / 4096))))) e)
    near false e = ap (λ b. b || may access i a) e ∙ sym (ap (λ b. allows access (option_map perm_of_page (cond b (Some (zeroed data_rights)) (get i.pages (a / 4096))))) e)

-- and so may each byte of a range
pub reaches-whole : (access : Access) (i : Image) (a n : ℕ) → allows access (Some data_rights) ≡ true → i.size ≤ SIZE_LIMIT → reaches_touching access i a n ≡ reaches access (whole i) a n
unfolding reaches reaches_touching
reaches-whole access i a zero free small = refl
reaches-whole access i a (suc n) free small = λ k. may-whole access i a free small k && reaches-whole access i (a + 1) n free small k

-- so may fewer bytes from the same address on
pub touching-fewer : (access : Access) (i : Image) (a n m : ℕ) → m ≤ n → reaches_touching access i a n ≡ true → reaches_touching access i a m ≡ true
unfolding reaches_touching
touching-fewer access i a n zero le all = refl
touching-fewer access i a zero (suc m) le all = absurd (omega (arith, le))
touching-fewer access i a (suc n) (suc m) le all =
    let parts = and_parts (may_touching access i a) (list_all (may_touching access i) (range_with_len (a + 1) n)) all in
    and_from (may_touching access i a) (list_all (may_touching access i) (range_with_len (a + 1) m)) parts.0 (touching-fewer access i (a + 1) n m (omega (arith, le)) parts.1)

-- and the bytes from one of them on
pub touching-rest : (access : Access) (i : Image) (a n d : ℕ) → reaches_touching access i a n ≡ true → d ≤ n → reaches_touching access i (a + d) (n - d) ≡ true
unfolding reaches_touching
touching-rest access i a n zero all le = let here : a + 0 ≡ a = omega arith in let none : n - 0 ≡ n = omega arith in (λ k. reaches_touching access i (here k) (none k)) ∙ all
touching-rest access i a zero (suc d) all le = absurd (omega (arith, le))
touching-rest access i a (suc n) (suc d) all le =
    let next : a + suc d ≡ a + 1 + d = omega arith in
    let fewer : suc n - suc d ≡ n - d = omega arith in
    let parts = and_parts (may_touching access i a) (list_all (may_touching access i) (range_with_len (a + 1) n)) all in
    (λ k. reaches_touching access i (next k) (fewer k)) ∙ touching-rest access i (a + 1) n d parts.1 (omega (arith, le))
