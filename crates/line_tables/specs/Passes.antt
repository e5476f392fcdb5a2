-- Rows and symbols that are put into a map one after another. What counts at an address is said without these words, in Facts and in Names.
use Rattle.std.specs.Prelude.{ℕ, zero, suc, ◌*◌, Bool, not, if◌then◌else◌, List, [], ◌∷◌, Option, Some, None}
use Rattle.std.specs.BTreeMap.{insert_entry}
use Rattle.std.specs.Ordering.{nat_cmp}
use Rattle.elf_symbols.specs.declared.symbol.Symbol.{Symbol}
use Rattle.elf_symbols.specs.Symbols.{symbol_at}
use Rattle.line_tables.specs.declared.fact.Told.{Told}
use Rattle.line_tables.specs.declared.names.Named.{Named}
use Rattle.line_tables.specs.Facts as facts
use Rattle.line_tables.specs.Facts.{is_wanted}
use Rattle.line_tables.specs.Names as names
use Rattle.line_tables.specs.Names.{named_by}

-- with what a row tells at its address, in place of what stands there
abbrev pub put_row : Bool → Told → facts.Entries → facts.Entries
put_row ends t es = if is_wanted ends t then insert_entry nat_cmp es t.address t.fact else es

-- row by row: a later one takes the place of an earlier one
abbrev pub put_rows : Bool → List Told → facts.Entries → facts.Entries
put_rows ends [] es = es
put_rows ends (t ∷ ts) es = put_rows ends ts (put_row ends t es)

-- with a name at its address, in place of what stands there, if it is one of those that are wanted: of functions, or of labels
abbrev pub put_named : Bool → ℕ → Option Named → names.Entries → names.Entries
put_named functions address (Some n) es =
    if (if n.is_function then functions else not functions) then insert_entry nat_cmp es address n else es
put_named functions address None es = es

abbrev pub put_symbol : Bool → Symbol → names.Entries → names.Entries
put_symbol functions s es = put_named functions s.value (named_by s) es

-- the first n symbols of a table, the last of them first: an earlier one takes the place of a later one
unfoldable pub put_symbols : Bool → List ℕ → ℕ → names.Entries → names.Entries
put_symbols functions symbols zero es = es
put_symbols functions symbols (suc n) es = put_symbols functions symbols n (put_symbol functions (symbol_at symbols (24 * n)) es)
