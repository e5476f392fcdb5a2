use Rattle.addr_space.proofs.Prelude.{◌∙◌, arith, sym}
use Rattle.addr_space.proofs.Trades.{space-price, space-counts, counts-few}
use Rattle.addr_space.proofs.PlainPrice.{tree-plain}
use Rattle.addr_space.proofs.Space.price.Goals as goal

pub overflow_add-result : goal.overflow_add-result
overflow_add-result c = omega (arith, counts-few c.requires.0 c.args.self.now c.requires.1)

pub returns-clause-owned : goal.returns-clause-owned
returns-clause-owned c ram is = sym (space-counts ram c.args.self.now is) ∙ space-price ram c.args.self.now is

pub returns-clause-price : goal.returns-clause-price
returns-clause-price c ram is = sym (space-counts ram c.args.self.now is)

pub returns-clause-plain : goal.returns-clause-plain
returns-clause-plain c ram is = sym (space-counts ram c.args.self.now is) ∙ tree-plain ram c.args.self.now.root c.args.self.now.size is.tree
