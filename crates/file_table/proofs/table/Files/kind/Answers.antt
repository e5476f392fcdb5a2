use Rattle.std.proofs.Common.{rules}
use Rattle.file_table.proofs.table.Files.kind.Goals as goal

pub returns : goal.returns
returns c = search rules
