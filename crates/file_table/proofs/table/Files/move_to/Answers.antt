use Rattle.std.proofs.Common.{rules}
use Rattle.file_table.proofs.table.Files.move_to.Goals as goal

pub returns : goal.returns
returns c = search rules
