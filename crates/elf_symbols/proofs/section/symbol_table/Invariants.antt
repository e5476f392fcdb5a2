use Rattle.std.proofs.Common.{◌≡◌, None}
use Rattle.xk_base.specs.Words.{least_below}
use Rattle.elf_symbols.specs.Symbols.{is_symbol_table}
use Rattle.elf_symbols.proofs.section.symbol_table.Given as goal

abbrev pub invariant-loop-k : goal.invariant-loop-k
invariant-loop-k l = least_below (is_symbol_table l.file l.place) l.k ≡ None
