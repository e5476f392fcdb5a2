use Rattle.kcall_core.proofs.Prelude.{◌/◌, ◌∙◌, arith, sym, upper-entry}
use Rattle.kcall_core.proofs.memories.frame_roles.upper_table.Goals as goal

pub returns-clause-table : goal.returns-clause-table
returns-clause-table c = c.read_upper_table.ensures.table ∙ sym (upper-entry c.args.ram.now c.args.root (c.args.page / 262144) (omega (arith, c.requires.page)))
