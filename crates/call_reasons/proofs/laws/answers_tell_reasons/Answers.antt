use Rattle.call_reasons.proofs.Rows as law
use Rattle.call_reasons.proofs.laws.answers_tell_reasons.Goals as goal

pub returns-clause-told_is_reason : goal.returns-clause-told_is_reason
returns-clause-told_is_reason c = law.told_is_reason

pub returns-clause-told_afterwards : goal.returns-clause-told_afterwards
returns-clause-told_afterwards c = law.told_afterwards

pub returns-clause-others_have_none : goal.returns-clause-others_have_none
returns-clause-others_have_none c = law.others_have_none
