use Rattle.grade_sheets.proofs.Prelude.{map_from_collect, YieldsList-from_lines}
use Rattle.grade_sheets.proofs.texts.lines_in.Goals as goal

pub returns : goal.returns
returns c = map_from_collect _ c.collect.ensures.ran (YieldsList-from_lines c.args.text.now c.lines.ensures.rest)
