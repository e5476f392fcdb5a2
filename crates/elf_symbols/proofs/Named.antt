-- The names that are told are those that have an address.
use Rattle.std.proofs.Common.{◌≡◌, ℕ, zero, suc, ◌/◌, ◌%◌, ◌<◌, Bool, true, false, List, Option, Some, None, refl, ap, sym, ◌∙◌, subst, arith}
use Rattle.std.specs.Prelude.{◌&&◌, ◌==◌, if◌then◌else◌, is_some, nat_le, nat_lt, option_map, bytes_eq}
use Rattle.std.proofs.lemmas.Bool.{and_from, and_parts, ltb-true, lt-ltb}
use Rattle.std.proofs.lemmas.Slice.Eq.{bytes_eq-Decides}
use Rattle.xk_base.specs.Words.{least_below, or_here}
use Rattle.xk_base.proofs.Least.{none_below}
use Rattle.elf_symbols.specs.declared.section.Section.{Section}
use Rattle.elf_symbols.specs.Symbols.{address_by, address_in, first_named, has_name, has_sections, is_named_at, is_within, name_at, name_by, name_in_table}
use Rattle.elf_symbols.specs.Symbols.{nth_name, placed_name, section, section_count, sections_place, start_of, symbol, symbol_count, symbol_table, symbols_in}
use Rattle.elf_symbols.specs.Named.{HasAddress, IsCounted}

-- ---- what is there only if a test passes

some_if : {A : Type 0} (b : Bool) (x : Option A) (y : A) → (if b then x else None) ≡ Some y → (b ≡ true) × (x ≡ Some y)
some_if true x y e = (refl, e)
some_if false x y e = absurd (cc)

there_if : {A : Type 0} (b : Bool) (x : Option A) → is_some (if b then x else None) ≡ true → (b ≡ true) × (is_some x ≡ true)
there_if true x e = (refl, e)
there_if false x e = absurd (cc)

is_there : {A : Type 0} (b : Bool) (x : Option A) → b ≡ true → is_some x ≡ true → is_some (if b then x else None) ≡ true
is_there b x p e = ap (λ t. is_some (if t then x else None)) p ∙ e

is_it : {A : Type 0} (b : Bool) (x : Option A) (y : A) → b ≡ true → x ≡ Some y → (if b then x else None) ≡ Some y
is_it b x y p e = ap (λ t. if t then x else None) p ∙ e

-- ---- the least symbol that has a name is below the bound

least_named : (file : List ℕ) (table strings : Section) (name : List ℕ) (n k : ℕ) → least_below (is_named_at file table strings name) n ≡ Some k
    → (k < n) × (is_named_at file table strings name k ≡ true)
unfolding least_below
least_named file table strings name zero k e = absurd (cc)
least_named file table strings name (suc n) k e = last (least_below named n) refl (named n) refl e (least_named file table strings name n k)
  where
    named : ℕ → Bool
    named = is_named_at file table strings name

    last : (o : Option ℕ) → least_below named n ≡ o → (b : Bool) → named n ≡ b → or_here o b n ≡ Some k
        → (least_below named n ≡ Some k → (k < n) × (named k ≡ true)) → (k < suc n) × (named k ≡ true)
    last (Some i) is b t e rest =
        let r = rest (is ∙ e) in
        (omega (arith, r.0), r.1)
    last None is true t e rest =
        let same : n ≡ k = cc in
        (omega (arith, same), ap named (sym same) ∙ t)
    last None is false t e rest = absurd (cc)

-- ---- a name that is told has an address

is_same : (name : List ℕ) → bytes_eq name name ≡ true
is_same name = (bytes_eq-Decides name name).1 refl

among : (file : List ℕ) (table strings : Section) (i : ℕ) (name : List ℕ) → nth_name file table strings i ≡ Some name → is_some (start_of (first_named file table strings name)) ≡ true
among file table strings i name e =
    let counted = some_if (nat_lt i (table.size / 24)) (placed_name file strings (symbol file table i)) name e in
    let placed = some_if (nat_le ((symbol file table i).info % 16) 2) (name_at file strings (symbol file table i).name) name counted.1 in
    let passes : is_named_at file table strings name i ≡ true = and_from _ _ placed.0 (ap (has_name name) placed.1 ∙ is_same name) in
    by (least_below (is_named_at file table strings name) (table.size / 24)) refl passes (ltb-true i (table.size / 24) counted.0)
  where
    by : (o : Option ℕ) → least_below (is_named_at file table strings name) (table.size / 24) ≡ o → is_named_at file table strings name i ≡ true → i < table.size / 24
        → is_some (start_of (option_map (symbol file table) o)) ≡ true
    by (Some k) is passes below = refl
    by None is passes below =
        let fails : is_named_at file table strings name i ≡ false = none_below _ _ is i below in
        absurd (cc)

in_table : (file : List ℕ) (i : ℕ) (name : List ℕ) (t : Option Section) → name_in_table file i t ≡ Some name → is_some (address_in file name t) ≡ true
in_table file i name (Some table) e =
    let strings = section file (sections_place file) table.link in
    let linked = some_if (nat_lt table.link (section_count file)) (name_by file table strings i) name e in
    let whole = some_if (is_within file table && (is_within file strings && (strings.kind == 3))) (nth_name file table strings i) name linked.1 in
    is_there (nat_lt table.link (section_count file)) (address_by file table strings name) linked.0
    (is_there _ (start_of (first_named file table strings name)) whole.0 (among file table strings i name whole.1))
in_table file i name None e = absurd (cc)

pub has_address : HasAddress
has_address file i name e =
    let t = symbol_table file (sections_place file) (section_count file) in
    let headed = some_if (has_sections file) (name_in_table file i t) name e in
    is_there (has_sections file) (address_in file name t) headed.0 (in_table file i name t headed.1)

-- ---- a name that has an address is told

is_named_so : (name : List ℕ) (o : Option (List ℕ)) → has_name name o ≡ true → o ≡ Some name
is_named_so name (Some own) e = ap Some ((bytes_eq-Decides own name).0 e)
is_named_so name None e = absurd (cc)

found : (file : List ℕ) (table strings : Section) (name : List ℕ) → is_some (start_of (first_named file table strings name)) ≡ true
    → (i : ℕ) × (i < table.size / 24) × (nth_name file table strings i ≡ Some name)
found file table strings name e = by (least_below (is_named_at file table strings name) (table.size / 24)) refl e
  where
    by : (o : Option ℕ) → least_below (is_named_at file table strings name) (table.size / 24) ≡ o → is_some (start_of (option_map (symbol file table) o)) ≡ true
        → (i : ℕ) × (i < table.size / 24) × (nth_name file table strings i ≡ Some name)
    by (Some k) is e =
        let least = least_named file table strings name _ k is in
        let named = and_parts (nat_le ((symbol file table k).info % 16) 2) (has_name name (name_at file strings (symbol file table k).name)) least.1 in (
          k,
          least.0,
          is_it (nat_lt k (table.size / 24)) _ name (lt-ltb _ _ least.0)
              (is_it (nat_le ((symbol file table k).info % 16) 2) _ name named.0 (is_named_so name _ named.1)),
        )
    by None is e = absurd (cc)

told : (file name : List ℕ) (t : Option Section) → is_some (address_in file name t) ≡ true
    → (i : ℕ) × (i < symbols_in file t) × (name_in_table file i t ≡ Some name)
told file name (Some table) e =
    let strings = section file (sections_place file) table.link in
    let linked = there_if (nat_lt table.link (section_count file)) (address_by file table strings name) e in
    let whole = there_if (is_within file table && (is_within file strings && (strings.kind == 3))) (start_of (first_named file table strings name)) linked.1 in
    let within = and_parts (is_within file table) (is_within file strings && (strings.kind == 3)) whole.0 in
    let f = found file table strings name whole.1 in
    let many : symbols_in file (Some table) ≡ table.size / 24 = ap (λ b. if b then table.size / 24 else 0) within.0 in (
      f.0,
      subst (λ n. f.0 < n) (sym many) f.1,
      is_it (nat_lt table.link (section_count file)) _ name linked.0 (is_it _ (nth_name file table strings f.0) name whole.0 f.2),
    )
told file name None e = absurd (cc)

pub is_counted : IsCounted
is_counted file name e =
    let t = symbol_table file (sections_place file) (section_count file) in
    let headed = there_if (has_sections file) (address_in file name t) e in
    let f = told file name t headed.1 in
    let many : symbol_count file ≡ symbols_in file t = ap (λ b. if b then symbols_in file t else 0) headed.0 in
    (f.0, subst (λ n. f.0 < n) (sym many) f.1, is_it (has_sections file) (name_in_table file f.0 t) name headed.0 f.2)
