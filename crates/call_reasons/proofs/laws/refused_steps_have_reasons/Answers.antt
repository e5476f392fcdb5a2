use Rattle.call_reasons.proofs.Steps as law
use Rattle.call_reasons.proofs.laws.refused_steps_have_reasons.Goals as goal

pub returns : goal.returns
returns c = law.refused_steps_have_reasons
