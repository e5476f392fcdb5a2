use Rattle.addr_space.proofs.Prelude.{arith, root-inside}
use Rattle.addr_space.proofs.Space.page_from.Goals as goal

pub returns-then-self-from-clause-none : goal.returns-then-self-from-clause-none
returns-then-self-from-clause-none c u ge lt = c.requires.whole.ends u (omega (arith, c.if-self-from.true, ge)) lt

pub next_page-requires-clause-root_in : goal.next_page-requires-clause-root_in
next_page-requires-clause-root_in c = root-inside c.args.ram.now c.args.self.now.root c.requires.whole.tree
