use Rattle.std.proofs.Common.{rules}
use Rattle.std.proofs.lemmas.Str.{chars_from_encodes}
use Rattle.trace_picture.proofs.label.letters_in.Goals as goal

pub returns : goal.returns
returns c = search (rules, chars_from_encodes)
