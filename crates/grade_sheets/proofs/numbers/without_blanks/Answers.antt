use Rattle.grade_sheets.proofs.Prelude.{refl, trim_ascii_is}
use Rattle.grade_sheets.proofs.numbers.without_blanks.Goals as goal

pub returns : goal.returns
returns c = trim_ascii_is _ _ _ refl c.trim_ascii.ensures.value
