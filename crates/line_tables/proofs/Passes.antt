-- Rows and symbols that are put into a map one after another are what counts at each address.
use Rattle.std.proofs.Common.{◌≡◌, ◌∙◌, ℕ, zero, suc, ◌+◌, ◌*◌, ◌/◌, Bool, true, false, cond, T, List, [], ◌∷◌, ◌++◌, length, map, Option, None, Some, arith, inl, refl, sym, ap, subst}
use Rattle.std.specs.Prelude.{◌&&◌, ◌||◌, ◌==◌, not, if◌then◌else◌}
use Rattle.std.specs.BTreeMap.{insert_entry}
use Rattle.std.specs.FinMap.Entries.{find, is_sorted}
use Rattle.std.specs.List.{list_any, range_with_len}
use Rattle.std.specs.Option.{option_or}
use Rattle.std.specs.Ordering.{nat_cmp}
use Rattle.std.proofs.lemmas.List.FromFn.{map-range_with_len_more}
use Rattle.elf_symbols.specs.declared.symbol.Symbol.{Symbol}
use Rattle.elf_symbols.specs.Symbols.{symbol_at}
use Rattle.line_tables.specs.declared.fact.Fact.{Fact}
use Rattle.line_tables.specs.declared.fact.Told.{Told}
use Rattle.line_tables.specs.declared.names.Named.{Named}
use Rattle.line_tables.specs.Entries.{entries_of, put_if}
use Rattle.line_tables.specs.Facts as facts
use Rattle.line_tables.specs.Facts.{by_address, fact_at, fact_if, is_wanted, last_fact}
use Rattle.line_tables.specs.Names as names
use Rattle.line_tables.specs.Names.{first_named, if_wanted, name_at, named_at, named_by, names_of, symbols_in}
use Rattle.line_tables.specs.Passes.{put_named, put_row, put_rows, put_symbol, put_symbols}
use Rattle.line_tables.proofs.Entries.{entries-at, entries-sorted, find-if, or-assoc, or-either, same-entries, sorted-if}

-- ---- rows

row-is : (ends : Bool) (t : Told) (es : facts.Entries) → put_row ends t es ≡ put_if t.address (if is_wanted ends t then Some t.fact else None) es
row-is ends t es = by (is_wanted ends t)
  where
    by : (wanted : Bool) → (if wanted then insert_entry nat_cmp es t.address t.fact else es) ≡ put_if t.address (if wanted then Some t.fact else None) es
    by true = refl
    by false = refl

row-sorted : (ends : Bool) (t : Told) (es : facts.Entries) → T (is_sorted nat_cmp es) → T (is_sorted nat_cmp (put_row ends t es))
row-sorted ends t es sorted =
    subst (λ (xs : facts.Entries). T (is_sorted nat_cmp xs)) (sym (row-is ends t es)) (sorted-if t.address (if is_wanted ends t then Some t.fact else None) es sorted)

rows-sorted : (ends : Bool) (rows : List Told) (es : facts.Entries) → T (is_sorted nat_cmp es) → T (is_sorted nat_cmp (put_rows ends rows es))
rows-sorted ends [] es sorted = sorted
rows-sorted ends (t ∷ ts) es sorted = rows-sorted ends ts (put_row ends t es) (row-sorted ends t es sorted)

row-at : (ends : Bool) (q : ℕ) (t : Told) (es : facts.Entries) → find nat_cmp q (put_row ends t es) ≡ option_or (fact_if ends q t) (find nat_cmp q es)
row-at ends q t es =
    ap (find nat_cmp q) (row-is ends t es)
    ∙ find-if q t.address (if is_wanted ends t then Some t.fact else None) es ∙ by (is_wanted ends t) (t.address == q) (find nat_cmp q es)
  where
    by : (wanted here : Bool) (was : Option Fact)
        → cond here (option_or (if wanted then Some t.fact else None) was) was ≡ option_or (if wanted && here then Some t.fact else None) was
    by true true was = refl
    by true false was = refl
    by false true was = refl
    by false false was = refl

rows-at : (ends : Bool) (q : ℕ) (rows : List Told) (es : facts.Entries) → find nat_cmp q (put_rows ends rows es) ≡ option_or (last_fact ends q rows) (find nat_cmp q es)
rows-at ends q [] es = refl
rows-at ends q (t ∷ ts) es =
    rows-at ends q ts (put_row ends t es) ∙ ap (option_or (last_fact ends q ts)) (row-at ends q t es)
    ∙ sym (or-assoc (last_fact ends q ts) (fact_if ends q t) (find nat_cmp q es))

abbrev addresses : List Told → List ℕ
addresses rows = map (λ (t : Told). t.address) rows

-- no row has the address
no-fact : (ends : Bool) (q : ℕ) (rows : List Told) → list_any (λ a. a == q) (addresses rows) ≡ false → last_fact ends q rows ≡ None
no-fact ends q [] none = refl
no-fact ends q (t ∷ ts) none = by (is_wanted ends t) (t.address == q) none (no-fact ends q ts)
  where
    by : (wanted here : Bool) → (here || list_any (λ a. a == q) (addresses ts)) ≡ false → (list_any (λ a. a == q) (addresses ts) ≡ false → last_fact ends q ts ≡ None)
        → option_or (last_fact ends q ts) (if wanted && here then Some t.fact else None) ≡ None
    by wanted true bad later = cc
    by true false none later = ap (λ (o : Option Fact). option_or o None) (later none)
    by false false none later = ap (λ (o : Option Fact). option_or o None) (later none)

or-nothing : {V : Type 0} (a b : Option V) → a ≡ None → b ≡ None → option_or a b ≡ None
or-nothing a b first next = ap (λ (o : Option _). option_or o b) first ∙ next

or-end : {V : Type 0} (a b : Option V) → option_or a (option_or b None) ≡ option_or a b
or-end a None = refl
or-end a (Some v) = refl

-- the ends first, and then all others over them
pub rows-are : (rows : List Told) → put_rows false rows (put_rows true rows []) ≡ by_address rows
rows-are rows =
    same-entries (put_rows false rows (put_rows true rows [])) (by_address rows)
    (rows-sorted false rows (put_rows true rows []) (rows-sorted true rows [] tt)) (entries-sorted (fact_at rows) (addresses rows))
    (λ q. rows-at false q rows (put_rows true rows []) ∙ ap (option_or (last_fact false q rows)) (rows-at true q rows [])
    ∙ or-end (last_fact false q rows) (last_fact true q rows)
    ∙ sym (entries-at (fact_at rows) q (addresses rows) (λ none. or-nothing (last_fact false q rows) (last_fact true q rows) (no-fact false q rows none) (no-fact true q rows none))))

-- ---- symbols

symbol-is : (functions : Bool) (address : ℕ) (name : Option Named) (es : names.Entries) → put_named functions address name es ≡ put_if address (if_wanted functions name) es
symbol-is functions address None es = refl
symbol-is functions address (Some n) es = by (if n.is_function then functions else not functions)
  where
    by : (wanted : Bool) → (if wanted then insert_entry nat_cmp es address n else es) ≡ put_if address (if wanted then Some n else None) es
    by true = refl
    by false = refl

symbol-sorted : (functions : Bool) (s : Symbol) (es : names.Entries) → T (is_sorted nat_cmp es) → T (is_sorted nat_cmp (put_symbol functions s es))
symbol-sorted functions s es sorted =
    subst (λ (xs : names.Entries). T (is_sorted nat_cmp xs)) (sym (symbol-is functions s.value (named_by s) es)) (sorted-if s.value (if_wanted functions (named_by s)) es sorted)

abbrev first_symbols : (table : List ℕ) → ℕ → List Symbol
first_symbols table n = map (λ place. symbol_at table (24 * place)) (range_with_len 0 n)

symbol-more : (table : List ℕ) (n : ℕ) → first_symbols table (suc n) ≡ first_symbols table n ++ symbol_at table (24 * n) ∷ []
symbol-more table n =
    let one : suc n ≡ n + 1 = omega arith in
    ap (first_symbols table) one ∙ map-range_with_len_more (λ place. symbol_at table (24 * place)) 0 n n (omega arith)

symbols-sorted : (functions : Bool) (table : List ℕ) (n : ℕ) (es : names.Entries) → T (is_sorted nat_cmp es) → T (is_sorted nat_cmp (put_symbols functions table n es))
unfolding put_symbols
symbols-sorted functions table zero es sorted = sorted
symbols-sorted functions table (suc n) es sorted =
    let s = symbol_at table (24 * n) in
    symbols-sorted functions table n (put_symbol functions s es) (symbol-sorted functions s es sorted)

symbol-there : (functions : Bool) (q : ℕ) (s : Symbol) (es : names.Entries) → find nat_cmp q (put_symbol functions s es) ≡ option_or (named_at functions q s) (find nat_cmp q es)
symbol-there functions q s es =
    ap (find nat_cmp q) (symbol-is functions s.value (named_by s) es)
    ∙ find-if q s.value (if_wanted functions (named_by s)) es ∙ by (s.value == q) (if_wanted functions (named_by s)) (find nat_cmp q es)
  where
    by : (here : Bool) (name was : Option Named) → cond here (option_or name was) was ≡ option_or (if here then name else None) was
    by true name was = refl
    by false name was = refl

first-more : (functions : Bool) (q : ℕ) (ss : List Symbol) (s : Symbol) → first_named functions q (ss ++ s ∷ []) ≡ option_or (first_named functions q ss) (named_at functions q s)
first-more functions q [] s = or-either (named_at functions q s) None (inl refl)
first-more functions q (a ∷ ss) s =
    ap (option_or (named_at functions q a)) (first-more functions q ss s) ∙ sym (or-assoc (named_at functions q a) (first_named functions q ss) (named_at functions q s))

symbols-at : (functions : Bool) (q : ℕ) (table : List ℕ) (n : ℕ) (es : names.Entries)
    → find nat_cmp q (put_symbols functions table n es) ≡ option_or (first_named functions q (first_symbols table n)) (find nat_cmp q es)
unfolding put_symbols
symbols-at functions q table zero es = refl
symbols-at functions q table (suc n) es =
    let s = symbol_at table (24 * n) in
    symbols-at functions q table n (put_symbol functions s es)
    ∙ ap (option_or (first_named functions q (first_symbols table n))) (symbol-there functions q s es)
    ∙ sym (or-assoc (first_named functions q (first_symbols table n)) (named_at functions q s) (find nat_cmp q es))
    ∙ ap (λ (o : Option Named). option_or o (find nat_cmp q es)) (sym (ap (first_named functions q) (symbol-more table n) ∙ first-more functions q (first_symbols table n) s))

abbrev values : List Symbol → List ℕ
values symbols = map (λ (s : Symbol). s.value) symbols

no-name : (functions : Bool) (q : ℕ) (symbols : List Symbol) → list_any (λ a. a == q) (values symbols) ≡ false → first_named functions q symbols ≡ None
no-name functions q [] none = refl
no-name functions q (s ∷ ss) none = by (s.value == q) none (no-name functions q ss)
  where
    by : (here : Bool) → (here || list_any (λ a. a == q) (values ss)) ≡ false → (list_any (λ a. a == q) (values ss) ≡ false → first_named functions q ss ≡ None)
        → option_or (if here then if_wanted functions (named_by s) else None) (first_named functions q ss) ≡ None
    by true bad later = cc
    by false none later = later none

-- the labels first, and then the functions over them
pub symbols-are : (table : List ℕ) → put_symbols true table (length table / 24) (put_symbols false table (length table / 24) []) ≡ names_of table
unfolding names_of
symbols-are table =
    let count = length table / 24 in
    let symbols = symbols_in table in
    same-entries (put_symbols true table count (put_symbols false table count [])) (entries_of (name_at symbols) (values symbols))
    (symbols-sorted true table count (put_symbols false table count []) (symbols-sorted false table count [] tt)) (entries-sorted (name_at symbols) (values symbols))
    (λ q. symbols-at true q table count (put_symbols false table count []) ∙ ap (option_or (first_named true q symbols)) (symbols-at false q table count [])
    ∙ or-end (first_named true q symbols) (first_named false q symbols)
    ∙ sym (entries-at (name_at symbols) q (values symbols)
    (λ none. or-nothing (first_named true q symbols) (first_named false q symbols) (no-name true q symbols none) (no-name false q symbols none))))
