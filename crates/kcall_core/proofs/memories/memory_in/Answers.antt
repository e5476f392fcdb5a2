use Rattle.kcall_core.proofs.Prelude.{◌∙◌, arith, get_or_read, None, sym}
use Rattle.kcall_core.proofs.memory.Changes.{some-inside, read-some}
use Rattle.kcall_core.proofs.memories.memory_in.Goals as goal

pub index-requires : goal.index-requires
index-requires c = omega (arith, some-inside c.args.each.now.items c.args.slot c.requires, c.args.each.now.ok.0)

pub unreachable-requires : goal.unreachable-requires
unreachable-requires c = read-some c.args.each.now.items c.args.slot c.index.result.now c.requires c.index.ensures c.in_default.is

pub returns : goal.returns
returns c = sym (get_or_read c.args.each.now.items c.args.slot c.index.result.now (some-inside c.args.each.now.items c.args.slot c.requires) c.index.ensures None) ∙ c.in-Some.is
