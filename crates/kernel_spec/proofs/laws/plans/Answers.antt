use Rattle.kernel_spec.proofs.laws.plans.Goals as goal
use Rattle.kernel_spec.proofs.runs.Plans as law

pub returns-clause-rounds_then_plan : goal.returns-clause-rounds_then_plan
returns-clause-rounds_then_plan c = law.rounds_then_plan

pub returns-clause-rounds_follow_rounds : goal.returns-clause-rounds_follow_rounds
returns-clause-rounds_follow_rounds c = law.rounds_follow_rounds

pub returns-clause-plan_goes_by_rounds : goal.returns-clause-plan_goes_by_rounds
returns-clause-plan_goes_by_rounds c = law.plan_goes_by_rounds

pub returns-clause-cut_ends_in_round : goal.returns-clause-cut_ends_in_round
returns-clause-cut_ends_in_round c = law.cut_ends_in_round

pub returns-clause-stops_then_plan : goal.returns-clause-stops_then_plan
returns-clause-stops_then_plan c = law.stops_then_plan
