use Rattle.std.proofs.Common.{rules}
use Rattle.file_table.proofs.descriptors.Descriptors.new.Goals as goal

pub returns : goal.returns
returns c = search rules
