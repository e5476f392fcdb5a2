-- Whether one of so many addresses passes a test, one more.
use Rattle.std.proofs.Common.{◌≡◌, ◌∙◌, ℕ, zero, suc, ◌+◌, ◌-◌, ◌%◌, ◌^◌, ◌<◌, ◌≤◌, Bool, true, false, [], ◌∷◌, List, ap, arith, subst, refl, sym}
use Rattle.std.specs.Prelude.{◌||◌, map}
use Rattle.std.specs.List.{list_any, range_with_len}
use Rattle.std.proofs.lemmas.List.FromFn.{map-range_with_len_more}
use Rattle.std.proofs.lemmas.List.Folds.{list_any-append}
use Rattle.gdb_target.specs.Touches.{addresses_from}

module _ (p : ℕ → Bool) (address : ℕ) where
  abbrev at : ℕ → ℕ
  at k = (address + k) % 2 ^ 64

  abbrev among : ℕ → Bool
  among n = list_any p (addresses_from address n)

  one-more : (n : ℕ) → among (n + 1) ≡ (among n || (p (at n) || false))
  one-more n = ap (list_any p) (map-range_with_len_more at 0 n n (omega arith)) ∙ list_any-append p (addresses_from address n) (at n ∷ [])

  pub none-more : (n : ℕ) → among n ≡ false → p (at n) ≡ false → among (n + 1) ≡ false
  none-more n so_far next = one-more n ∙ ap (λ (b : Bool). b || (p (at n) || false)) so_far ∙ ap (λ (b : Bool). b || false) next

  or-this : (b : Bool) → (b || (true || false)) ≡ true
  or-this true = refl
  or-this false = refl

  found-at : (n : ℕ) → p (at n) ≡ true → among (n + 1) ≡ true
  found-at n is = one-more n ∙ ap (λ (b : Bool). among n || (b || false)) is ∙ or-this (among n)

  still : (n : ℕ) → among n ≡ true → among (n + 1) ≡ true
  still n is = one-more n ∙ ap (λ (b : Bool). b || (p (at n) || false)) is

  still-later : (n k : ℕ) → among n ≡ true → among (n + k) ≡ true
  still-later n zero is = let same : n ≡ n + 0 = omega arith in subst (λ (m : ℕ). among m ≡ true) same is
  still-later n (suc k) is = let next : n + k + 1 ≡ n + suc k = omega arith in subst (λ (m : ℕ). among m ≡ true) next (still (n + k) (still-later n k is))

  pub found-among : (n count : ℕ) → n < count → p (at n) ≡ true → among count ≡ true
  found-among n count within is =
      let all : n + 1 + (count - (n + 1)) ≡ count = omega (arith, within) in
      subst (λ (m : ℕ). among m ≡ true) all (still-later (n + 1) (count - (n + 1)) (found-at n is))
