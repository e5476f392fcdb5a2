use Rattle.addr_space.proofs.Prelude.{root-inside}
use Rattle.addr_space.proofs.Space.perm_at.Goals as goal

pub entry_of_page-requires-clause-root_in : goal.entry_of_page-requires-clause-root_in
entry_of_page-requires-clause-root_in c = root-inside c.args.ram.now c.args.self.now.root c.requires.whole.tree
