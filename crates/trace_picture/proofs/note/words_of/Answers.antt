use Rattle.std.proofs.Common.{lit<}
use Rattle.std.proofs.lemmas.Iterator.Consumers.{map_from_collect}
use Rattle.std.proofs.lemmas.Iterator.Splits.{YieldsList-from_str_split}
use Rattle.trace_picture.proofs.note.words_of.Goals as goal

pub returns : goal.returns
returns c =
    let cut = c.split.ensures in
    map_from_collect _ c.collect.ensures.ran (YieldsList-from_str_split 32 c.args.line.now (lit< tt) cut.text cut.has_more cut.pattern)
