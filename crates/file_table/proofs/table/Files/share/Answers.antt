use Rattle.std.proofs.Common.{arith, ap, ◌<◌, rules}
use Rattle.std.specs.Prelude.{option_map}
use Rattle.file_table.specs.OpenFiles.{entry_count}
use Rattle.file_table.specs.declared.open_file.TheConstants.{SHARERS_MAX}
use Rattle.file_table.proofs.Places.{table_set}
use Rattle.file_table.proofs.table.Files.share.Goals as goal

pub invariant_of-self : goal.invariant_of-self
invariant_of-self c =
    let room : c.entry-entry.result.count < SHARERS_MAX = c.requires.room _ (ap (option_map entry_count) c.entry-entry.ensures.value) in
    table_set _ _ _ c.self.invariant (omega arith) (omega (arith, room))

pub returns : goal.returns
returns c = search rules
