use Rattle.std.proofs.Common.{◌≡◌, None}
use Rattle.xk_base.specs.Words.{least_below}
use Rattle.elf_symbols.specs.Symbols.{is_covering}
use Rattle.elf_symbols.proofs.symbol.first_function.Given as goal

abbrev pub invariant-loop-i : goal.invariant-loop-i
invariant-loop-i l = least_below (is_covering l.file l.table l.address) l.i ≡ None
