use Rattle.grade_sheets.proofs.Prelude.{ℕ, ◌∙◌, ap, List, number_of, without_leading_plus}
use Rattle.grade_sheets.proofs.Numerals.{no-text}
use Rattle.grade_sheets.proofs.numbers.number_in.Goals as goal

-- what isn't UTF-8 is no number
pub returns-in-Err : goal.returns-in-Err
returns-in-Err c =
    no-text c.without_blanks.result.now c.in-Err.ensures.cases.0 ∙ ap (λ (text : List ℕ). number_of (without_leading_plus text)) c.without_blanks.ensures
