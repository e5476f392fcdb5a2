use Rattle.addr_space.proofs.Prelude.{◌/◌, ◌∙◌, arith, sym, upper-entry}
use Rattle.addr_space.proofs.upper_table.Goals as goal

pub returns : goal.returns
returns c = c.read_upper_table.ensures.table ∙ sym (upper-entry c.args.ram.now c.args.root (c.args.number / 262144) (omega (arith, c.requires.page)))
