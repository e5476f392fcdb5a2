use Rattle.std.proofs.lemmas.Str.Pattern.{split_once_first}
use Rattle.grade_sheets.proofs.Patterns.{none-parts}
use Rattle.grade_sheets.proofs.notation.around_mark.Goals as goal

pub returns-clause-none : goal.returns-clause-none
returns-clause-none c =
    none-parts c.args.mark c.args.word.now c.split_once.result (split_once_first c.args.mark c.args.word.now c.split_once.result c.split_once.ensures.cases c.requires)
