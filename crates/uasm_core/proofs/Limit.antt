-- Values are no fewer than their bytes.
use Rattle.std.proofs.Common.{◌≤◌, List, [], ◌∷◌, length, map, arith}
use Rattle.std.specs.Prelude.{sum_by}
use Rattle.std.proofs.lemmas.List.Sums.{sum_by-cons}
use Rattle.uasm_core.specs.declared.statement.Datum as code
use Rattle.uasm_core.specs.declared.statement.Datum.TheVariants.{Byte, Word, Dword, Address}
use Rattle.uasm_core.specs.Statement.{datum_size}
use Rattle.uasm_core.specs.Views.{datum}

-- a value has a byte or more
some_bytes : (d : code.Datum) → 1 ≤ datum_size (datum d)
some_bytes (Byte n) = omega arith
some_bytes (Word n) = omega arith
some_bytes (Dword n) = omega arith
some_bytes (Address l) = omega arith

-- values have as many bytes as they are, or more
pub values_long : (ds : List code.Datum) → length ds ≤ sum_by datum_size (map datum ds)
values_long [] = omega arith
values_long (d ∷ ds) = let rest = values_long ds in let one = some_bytes d in let sum = sum_by-cons datum_size (datum d) (map datum ds) in omega (arith, rest, one, sum)
