use Rattle.std.proofs.Common.{rules}
use Rattle.file_table.proofs.open_file.OpenFile.offset.Goals as goal

pub returns-in-Program : goal.returns-in-Program
returns-in-Program c = search rules
