use Rattle.std.proofs.Common.{◌∙◌, length, refl}
use Rattle.c_expressions.proofs.Named.{placed, unplaced}
use Rattle.c_expressions.proofs.finding.innermost_of.Goals as goal

pub returns-in-Some : goal.returns-in-Some
returns-in-Some c =
    placed c.args.rows.now c.args.name.now c.as_slice-names.result.now (length c.as_slice-names.result.now) c.in-Some.place c.row_at.result
    (c.as_slice-names.ensures.value ∙ c.in_ok-names.ensures) refl
    c.in-Some.ensures.some c.row_at.ensures

pub returns : goal.returns
returns c =
    unplaced c.args.rows.now c.args.name.now c.as_slice-names.result.now (length c.as_slice-names.result.now) (c.as_slice-names.ensures.value ∙ c.in_ok-names.ensures) refl c.in-None.ensures.none
