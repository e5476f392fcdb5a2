use Rattle.std.proofs.Common.{◌≡◌, ◌≤◌, ◌/◌, length}
use Rattle.line_tables.specs.Passes.{put_symbols}
use Rattle.line_tables.proofs.names.put_symbols.Given as goal

abbrev pub invariant-symbols : goal.invariant-symbols
invariant-symbols l = record {
  within : l.left ≤ length l.symbols / 24;
  so_far : put_symbols l.are_functions l.symbols l.left l.map.entries ≡ put_symbols l.are_functions l.symbols (length l.symbols / 24) l.initial.map.entries;
}

abbrev pub decreases-symbols : goal.decreases-symbols
decreases-symbols l = l.left
