use Rattle.std.proofs.Common.{rules}
use Rattle.frame_list.proofs.FreeList.{not-all-free, with_first, first-put, Good-with_first}
use Rattle.frame_list.proofs.Trades.{given-list}
use Rattle.frame_list.proofs.Pool.give.Goals as goal

pub overflow_add-self : goal.overflow_add-self
overflow_add-self c = let few = not-all-free c.args.self.now c.args.ram.now c.args.f c.requires.good c.requires.inside c.requires.not_free in search (rules, few)

pub returns : goal.returns
returns c =
    let pool = c.args.self.now in
    let ram = c.args.ram.now in
    let put = c.write_u64.ensures in
    given-list pool (with_first pool c.args.f) ram c.write_u64.new.self c.args.f
    (Good-with_first pool ram c.write_u64.new.self c.args.f c.link_to.result c.requires.good c.requires.inside put
    c.link_to.ensures c.requires.not_free)
    (first-put pool ram c.write_u64.new.self c.args.f c.link_to.result put c.link_to.ensures c.requires.not_free) put.stay
