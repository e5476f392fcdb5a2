use Rattle.std.proofs.Common.{◌≡◌, None}
use Rattle.xk_base.specs.Words.{least_below}
use Rattle.elf_symbols.specs.Sections.{is_of_name}
use Rattle.elf_symbols.proofs.section.first_of_name.Given as goal

abbrev pub invariant-loop-k : goal.invariant-loop-k
invariant-loop-k l = least_below (is_of_name l.file l.place l.names l.name) l.k ≡ None
