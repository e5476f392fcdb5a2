use Rattle.std.proofs.Common.{rules, sym, ◌∙◌}
use Rattle.hart_core.proofs.Sparing.{none_stopped}
use Rattle.hart_core.proofs.watch.Watch.has_address.Goals as goal

pub returns-then-not-is_marked : goal.returns-then-not-is_marked
returns-then-not-is_marked c =
    sym (none_stopped c.args.self.now.addresses.now c.args.self.now.stops.marks c.args.address (search rules) (sym c.is_marked.ensures ∙ c.if-not-is_marked.true))
