use Rattle.std.proofs.Common.{ne_eqb, rules}
use Rattle.call_reasons.proofs.reason.BytesDisplay.fmt.Goals as goal

pub returns-clause-writes : goal.returns-clause-writes
returns-clause-writes g c = rw (ne_eqb c.args.self.now.count 1 c.if-count-eq1.false) (search rules)
