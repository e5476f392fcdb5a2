use Rattle.grade_sheets.proofs.Prelude.{ends_line, map_from_collect, rules, YieldsList-from_slice_split}
use Rattle.grade_sheets.proofs.numbers.lines_of.Goals as goal

pub returns : goal.returns
returns c =
    let cut = c.split.ensures in
    map_from_collect _ c.collect.ensures.ran (YieldsList-from_slice_split _ ends_line c.args.shown.now cut.rest cut.done cut.closure (λ x b q k. search rules))
