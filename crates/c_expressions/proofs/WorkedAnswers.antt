-- Worked cases of answers.
use Rattle.std.proofs.Common.{◌≡◌, ℕ, List, Option, None, arith}
use Rattle.std.proofs.lemmas.Bool.{false≢true}
use Rattle.c_expressions.specs.Answers.{AreRowsOf, IsAnswer}
use Rattle.c_expressions.specs.declared.asked.Asked.TheVariants.{Locals}
use Rattle.c_expressions.specs.declared.rows.Rows.{Rows}

-- rows of one place aren't those of another
other_place : (file : List ℕ) (rows : Rows) → AreRowsOf file 8 rows → ¬ (AreRowsOf file 4 rows)
other_place file rows one other =
    let at : rows.address ≡ 8 = one.address_is in
    let elsewhere : rows.address ≡ 4 = other.address_is in
    omega (arith, at, elsewhere)

-- of local variables something is always told
none_of_locals : (file : List ℕ) (address : ℕ) (registers memory : ℕ → Option ℕ) → ¬ (IsAnswer file address registers memory Locals None)
none_of_locals file address registers memory some = false≢true some
