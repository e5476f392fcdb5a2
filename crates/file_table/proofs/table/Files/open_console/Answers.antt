use Rattle.std.proofs.Common.{rules}
use Rattle.file_table.proofs.table.Files.open_console.Goals as goal

pub returns-clause-after : goal.returns-clause-after
returns-clause-after c = search rules
