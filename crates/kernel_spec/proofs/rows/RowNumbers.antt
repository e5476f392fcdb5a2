-- Under which number a row stands in the table of the calls.
use Rattle.kernel_spec.proofs.Prelude.{[], ℕ, ℤ, ◌||◌, ◌∙◌, ◌∷◌, ◌≡◌, and_parts, ap, Bool, cond, eqb-true, false, find, List, list_all, nat_eq, negsuc, not, option_map, pos, refl, Row, row_of, Some}
use Rattle.kernel_spec.proofs.Prelude.{sym, table, true}

-- `is_it` tells the row from the others, and it stands under this number alone
module _ (is_it : Row → Bool) (row : Row) (number : ℕ) (told : is_it row ≡ true) where
  abbrev pub there_alone : ℕ × Row → Bool
  there_alone e = not (is_it e.1) || nat_eq e.0 number

  same-number : (x : ℕ × Row) → x.1 ≡ row → there_alone x ≡ true → x.0 ≡ number
  same-number x is alone = eqb-true x.0 number (sym (ap (λ (b : Bool). not b || nat_eq x.0 number) (ap is_it is ∙ told)) ∙ alone)

  found-at : (es : List (ℕ × Row)) (n : ℕ) → list_all there_alone es ≡ true → option_map (λ (e : ℕ × Row). e.1) (find (λ e. nat_eq e.0 n) es) ≡ Some row → n ≡ number
  found-at [] n all e = let no : ⊥ = cc in absurd no
  found-at (x ∷ es) n all e = by (λ rest. found-at es n (and_parts (there_alone x) (list_all there_alone es) all).1 rest) (nat_eq x.0 n) refl
    where
      by : (option_map (λ (e : ℕ × Row). e.1) (find (λ e. nat_eq e.0 n) es) ≡ Some row → n ≡ number) → (b : Bool) → nat_eq x.0 n ≡ b → n ≡ number
      by later true same =
          let found : Some x.1 ≡ Some row = sym (ap (λ (b : Bool). option_map (λ (e : ℕ × Row). e.1) (cond b (Some x) (find (λ e. nat_eq e.0 n) es))) same) ∙ e in
          let is : x.1 ≡ row = cc in
          sym (eqb-true x.0 n same) ∙ same-number x is (and_parts (there_alone x) (list_all there_alone es) all).0
      by later false same = later (sym (ap (λ (b : Bool). option_map (λ (e : ℕ × Row). e.1) (cond b (Some x) (find (λ e. nat_eq e.0 n) es))) same) ∙ e)

  pub row-number : list_all there_alone table ≡ true → (z : ℤ) → row_of z ≡ Some row → z ≡ pos number
  unfolding row_of
  row-number all (pos n) e = ap pos (found-at table n all e)
  row-number all (negsuc k) e = let no : ⊥ = cc in absurd no
