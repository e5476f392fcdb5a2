use Rattle.grade_sheets.proofs.Prelude.{without_leading_plus}
use Rattle.grade_sheets.proofs.Numerals.{number-is, no-number}
use Rattle.grade_sheets.proofs.numbers.number_of.Goals as goal

pub returns-in-Ok : goal.returns-in-Ok
returns-in-Ok c =
    let parsed = c.in-Ok.ensures.value.0 in
    number-is (without_leading_plus c.args.text.now) c.in-Ok.number parsed.0.0 parsed.0.1 parsed.1

pub returns-in-Err : goal.returns-in-Err
returns-in-Err c = no-number (without_leading_plus c.args.text.now) c.in-Err.ensures.value.0
