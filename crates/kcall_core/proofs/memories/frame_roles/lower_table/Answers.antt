use Rattle.kcall_core.proofs.Prelude.{◌∙◌, lower-entry, sym}
use Rattle.kcall_core.proofs.memories.frame_roles.lower_table.Goals as goal

pub returns-clause-table : goal.returns-clause-table
returns-clause-table c = c.read_lower_table.ensures.table ∙ sym (lower-entry c.args.ram.now c.args.root c.args.page c.args.upper c.requires.upper_is)
