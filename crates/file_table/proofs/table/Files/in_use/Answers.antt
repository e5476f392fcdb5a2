use Rattle.std.proofs.Common.{rules}
use Rattle.file_table.proofs.table.Files.in_use.Goals as goal

pub returns-clause-value : goal.returns-clause-value
returns-clause-value c = search rules
