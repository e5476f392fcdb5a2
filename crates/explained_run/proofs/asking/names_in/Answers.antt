use Rattle.std.proofs.Common.{lit<}
use Rattle.std.proofs.lemmas.Iterator.Consumers.{map_from_collect}
use Rattle.std.proofs.lemmas.Iterator.Splits.{YieldsList-from_str_split}
use Rattle.explained_run.proofs.asking.names_in.Goals as goal

pub returns : goal.returns
returns c =
    let cut = c.split.ensures in
    map_from_collect _ c.collect.ensures.ran (YieldsList-from_str_split 44 c.args.list.now (lit< tt) cut.text cut.has_more cut.pattern)
