use Rattle.std.proofs.lemmas.Str.Pattern.{strip_prefix_char}
use Rattle.grade_sheets.proofs.Patterns.{none-begins}
use Rattle.grade_sheets.proofs.notation.behind_mark.Goals as goal

pub returns-clause-none : goal.returns-clause-none
returns-clause-none c =
    none-begins c.args.mark c.args.word.now c.strip_prefix.result
    (strip_prefix_char c.args.mark c.args.word.now c.strip_prefix.result c.strip_prefix.ensures.cases c.requires)
