use Rattle.call_reasons.proofs.Rows as law
use Rattle.call_reasons.proofs.laws.refusals_have_reasons.Goals as goal

pub returns-clause-reasons_refuse : goal.returns-clause-reasons_refuse
returns-clause-reasons_refuse c = law.reasons_refuse

pub returns-clause-refusals_have_reasons : goal.returns-clause-refusals_have_reasons
returns-clause-refusals_have_reasons c = law.refusals_have_reasons
