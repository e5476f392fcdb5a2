use Rattle.std.proofs.Common.{◌≡◌, None}
use Rattle.xk_base.specs.Words.{least_below}
use Rattle.elf_symbols.specs.Symbols.{is_named_at}
use Rattle.elf_symbols.proofs.symbol.first_named.Given as goal

abbrev pub invariant-loop-i : goal.invariant-loop-i
invariant-loop-i l = least_below (is_named_at l.file l.table l.strings l.name) l.i ≡ None
