-- The names of a program are those that have an address.
use Rattle.std.proofs.Common.{◌≡◌, ℕ, zero, suc, ◌+◌, ◌-◌, ◌<◌, Bool, true, false, cond, List, [], ◌∷◌, length, Option, Some, None, ◌⊎◌, inl, inr, refl, ap, sym, ◌∙◌, arith}
use Rattle.std.specs.Prelude.{if◌then◌else◌, is_some, nat_lt, option_map, bytes_eq, find}
use Rattle.std.proofs.lemmas.Bool.{lt-ltb, le-ltb}
use Rattle.std.proofs.lemmas.Slice.Eq.{bytes_eq-Decides}
use Rattle.uasm_core.specs.LineTable.{or_else}
use Rattle.uasm_core.specs.declared.source_lines.LabelAddress.{LabelAddress}
use Rattle.elf_symbols.specs.Symbols.{address_of, symbol_count, symbol_name}
use Rattle.elf_symbols.proofs.Named.{has_address as symbol_has_address, is_counted as symbol_is_counted}
use Rattle.xv_report.specs.Places.{label_at, label_named, labels_in}
use Rattle.xv_report.specs.NameLaws.{HasAddress, IsCounted}

-- ---- among labels

abbrev is_called : (name : List ℕ) → LabelAddress → Bool
is_called name l = bytes_eq l.name.items name

module _ (name : List ℕ) where
  found_head : (l : LabelAddress) (ls : List LabelAddress) (b : Bool) → is_called name l ≡ b → (b ≡ false → is_some (label_named name ls) ≡ true) → is_some (label_named name (l ∷ ls)) ≡ true
  found_head l ls true is rest = ap (λ b. is_some (option_map (λ (l : LabelAddress). l.address) (cond b (Some l) (find (is_called name) ls)))) is
  found_head l ls false is rest = ap (λ b. is_some (option_map (λ (l : LabelAddress). l.address) (cond b (Some l) (find (is_called name) ls)))) is ∙ rest refl

  -- a name at a place is found
  label_found : (labels : List LabelAddress) (place : ℕ) → label_at place labels ≡ Some name → is_some (label_named name labels) ≡ true
  label_found [] place e = absurd (cc)
  label_found (l ∷ ls) zero e =
      let called : is_called name l ≡ true = (bytes_eq-Decides l.name.items name).1 (cc) in
      found_head l ls true called (λ no. absurd (cc))
  label_found (l ∷ ls) (suc place) e = found_head l ls (is_called name l) refl (λ _. label_found ls place e)

  told_head : (l : LabelAddress) (ls : List LabelAddress) (b : Bool) → is_called name l ≡ b → is_some (label_named name (l ∷ ls)) ≡ true
      → (is_some (label_named name ls) ≡ true → (place : ℕ) × (place < length ls) × (label_at place ls ≡ Some name))
      → (place : ℕ) × (place < suc (length ls)) × (label_at place (l ∷ ls) ≡ Some name)
  told_head l ls true is e rest = (0, omega arith, ap Some ((bytes_eq-Decides l.name.items name).0 is))
  told_head l ls false is e rest =
      let r = rest (sym (ap (λ b. is_some (option_map (λ (l : LabelAddress). l.address) (cond b (Some l) (find (is_called name) ls)))) is) ∙ e) in
      (suc r.0, omega (arith, r.1), r.2)

  -- a name that is found stands at a place
  label_told : (labels : List LabelAddress) → is_some (label_named name labels) ≡ true → (place : ℕ) × (place < length labels) × (label_at place labels ≡ Some name)
  label_told [] e = absurd (cc)
  label_told (l ∷ ls) e = told_head l ls (is_called name l) refl e (label_told ls)

-- ---- the first of two

first_some : {A : Type 0} (x y : Option A) → is_some x ≡ true → is_some (or_else x y) ≡ true
first_some (Some a) y e = refl
first_some None y e = absurd (cc)

second_some : {A : Type 0} (x y : Option A) → is_some y ≡ true → is_some (or_else x y) ≡ true
second_some (Some a) y e = refl
second_some None y e = e

some_cases : {A : Type 0} (x y : Option A) → is_some (or_else x y) ≡ true → (is_some x ≡ true) ⊎ (is_some y ≡ true)
some_cases (Some a) y e = inl refl
some_cases None y e = inr e

-- ---- labels, and then symbols

module _ (labels : List LabelAddress) (file : List ℕ) where
  found_in : (name : List ℕ) (place : ℕ) (b : Bool) → (if b then label_at place labels else symbol_name file (place - length labels)) ≡ Some name
      → is_some (or_else (label_named name labels) (address_of file name)) ≡ true
  found_in name place true e = first_some _ _ (label_found name labels place e)
  found_in name place false e = second_some _ _ (symbol_has_address file (place - length labels) name e)

  -- a name at a place is one of the labels, or of the symbols
  told_in : (name : List ℕ) → is_some (or_else (label_named name labels) (address_of file name)) ≡ true
      → (place : ℕ) × (place < length labels + symbol_count file)
      × ((if nat_lt place (length labels) then label_at place labels else symbol_name file (place - length labels)) ≡ Some name)
  told_in name e = elim (some_cases (label_named name labels) (address_of file name) e) [
    | inl labelled ↦
        let l = label_told name labels labelled in
        (l.0, omega (arith, l.1), ap (λ b. if b then label_at l.0 labels else symbol_name file (l.0 - length labels)) (lt-ltb _ _ l.1) ∙ l.2)
    | inr symbol ↦
        let s = symbol_is_counted file name symbol in
        let place = length labels + s.0 in
        let behind : place - length labels ≡ s.0 = omega arith in (
          place,
          omega (arith, s.1),
          ap (λ b. if b then label_at place labels else symbol_name file (place - length labels)) (le-ltb _ _ (omega arith))
              ∙ ap (symbol_name file) behind ∙ s.2,
        )
  ]

pub has_address : HasAddress
has_address source place name e = found_in (labels_in source.lines) source.symbols.now name place (nat_lt place (length (labels_in source.lines))) e

pub is_counted : IsCounted
is_counted source name e = told_in (labels_in source.lines) source.symbols.now name e
