-- Numbers that no row of the call table has.
use Rattle.kernel_spec.proofs.Prelude.{[], ℕ, ℤ, ◌∙◌, ◌∷◌, ◌≡◌, ◌≢◌, ap, Call, cond, eqb_tells, false, find, inl, inr, List, nat_eq, negsuc, None, Option, option_map, perform, pos, refl, refused, Row}
use Rattle.kernel_spec.proofs.Prelude.{row_of, Some, sym, table, View}
use Rattle.kernel_spec.proofs.calls.Words.{by_none}

-- the row of a number in a list
abbrev row-in : ℕ → List (ℕ × Row) → Option Row
row-in n rows = option_map (λ e. e.1) (find (λ e. nat_eq e.0 n) rows)

-- each row of the list has another number
abbrev AreOthers : ℤ → List (ℕ × Row) → Type 0
AreOthers number [] = Unit {0}
AreOthers number (e ∷ rows) = (number ≢ pos e.0) × AreOthers number rows

-- a number that no row has
abbrev pub IsOther : ℤ → Type 0
IsOther number = AreOthers number table

-- one number that it isn't, and the others
infixr 4 ◌also◌
pub ◌also◌ : {A B : Type 0} → A → B → A × B
a also b = (a, b)

pub apart : (m n : ℕ) → pos n ≢ pos m → nat_eq m n ≡ false
apart m n ne = elim (eqb_tells m n) [ inl h ↦ absurd (ne (ap pos (sym h.1))) | inr h ↦ h.0 ]

none-there : (n : ℕ) (rows : List (ℕ × Row)) → AreOthers (pos n) rows → row-in n rows ≡ None
none-there n [] others = refl
none-there n (e ∷ rows) others = ap (λ b. option_map (λ x. x.1) (cond b (Some e) (find (λ x. nat_eq x.0 n) rows))) (apart e.0 n others.0) ∙ none-there n rows others.1

none-other : (number : ℤ) → IsOther number → row_of number ≡ None
unfolding row_of
none-other (negsuc n) other = refl
none-other (pos n) other = none-there n table other

-- it is refused
pub other-row : (c : Call) (v : View) → IsOther c.number → perform c v ≡ refused c v
other-row c v other = by_none c v (none-other c.number other)
