use Rattle.kernel_spec.proofs.laws.well_formed.Goals as goal
use Rattle.kernel_spec.proofs.well.FirstWell as in-first-well
use Rattle.kernel_spec.proofs.well.WellCloses as in-well-closes
use Rattle.kernel_spec.proofs.well.WellLaws as in-well-laws
use Rattle.kernel_spec.proofs.well.WellOpens as in-well-opens
use Rattle.kernel_spec.proofs.well.WellSteps as in-well-steps

pub returns-clause-first_well : goal.returns-clause-first_well
returns-clause-first_well c = in-first-well.first_well

pub returns-clause-well_forked : goal.returns-clause-well_forked
returns-clause-well_forked c = in-well-laws.forked

pub returns-clause-well_gone : goal.returns-clause-well_gone
returns-clause-well_gone c = in-well-laws.gone

pub returns-clause-well_reaped : goal.returns-clause-well_reaped
returns-clause-well_reaped c = in-well-laws.reaped

pub returns-clause-well_alone : goal.returns-clause-well_alone
returns-clause-well_alone c = in-well-laws.alone

pub returns-clause-well_piped : goal.returns-clause-well_piped
returns-clause-well_piped c = in-well-steps.well_piped

pub returns-clause-well_moved : goal.returns-clause-well_moved
returns-clause-well_moved c = in-well-steps.well_moved

pub returns-clause-well_marked : goal.returns-clause-well_marked
returns-clause-well_marked c = in-well-steps.well_marked

pub returns-clause-writes_take_nothing : goal.returns-clause-writes_take_nothing
returns-clause-writes_take_nothing c = in-well-laws.writes_take_nothing

pub returns-clause-stores_take_nothing : goal.returns-clause-stores_take_nothing
returns-clause-stores_take_nothing c = in-well-laws.stores_take_nothing

pub returns-clause-well_opened : goal.returns-clause-well_opened
returns-clause-well_opened c = in-well-opens.well_opened

pub returns-clause-well_dup : goal.returns-clause-well_dup
returns-clause-well_dup c = in-well-opens.well_dup

pub returns-clause-well_dup_pipe : goal.returns-clause-well_dup_pipe
returns-clause-well_dup_pipe c = in-well-opens.well_dup_pipe

pub returns-clause-well_closed : goal.returns-clause-well_closed
returns-clause-well_closed c = in-well-closes.well_closed

pub returns-clause-well_closed_pipe : goal.returns-clause-well_closed_pipe
returns-clause-well_closed_pipe c = in-well-closes.well_closed_pipe

pub returns-clause-well_made_pipe : goal.returns-clause-well_made_pipe
returns-clause-well_made_pipe c = in-well-closes.well_made_pipe

pub returns-clause-well_outside : goal.returns-clause-well_outside
returns-clause-well_outside c = in-well-laws.outside
