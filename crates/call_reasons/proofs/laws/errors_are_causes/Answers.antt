use Rattle.call_reasons.proofs.Causes as law
use Rattle.call_reasons.proofs.laws.errors_are_causes.Goals as goal

pub returns : goal.returns
returns c = law.errors_are_causes
