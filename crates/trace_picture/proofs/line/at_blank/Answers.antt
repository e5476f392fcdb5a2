use Rattle.std.proofs.lemmas.Str.Pattern.{split_once_first}
use Rattle.std.proofs.Common.{lit<}
use Rattle.trace_picture.proofs.Lines.{at-blank}
use Rattle.trace_picture.proofs.line.at_blank.Goals as goal

pub returns : goal.returns
returns c = at-blank c.args.text.now c.split_once.result (split_once_first 32 c.args.text.now c.split_once.result c.split_once.ensures.cases (lit< tt))
