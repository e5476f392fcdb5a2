-- The descriptors of a slot, lent for writing.
use Rattle.std.specs.Prelude.{ℕ, List, Option, set}
use Rattle.std.specs.Borrow.{Lends, MutBor, Fml}
use Rattle.file_table.specs.contracts.descriptors.Descriptors as inner
use Rattle.proc_table.specs.contracts.table.Table.{the_row}
use Rattle.proc_table.specs.Slots.{Slots}

-- the table ends with the descriptors of the slot as the last ones behind r
abbrev pub LendsDescriptors : MutBor Slots → ℕ → MutBor (List (Option ℕ)) → Fml
LendsDescriptors s slot r = Lends the_row inner.the_row s r (λ v. record s.now { descriptors = set s.now.descriptors slot v })
