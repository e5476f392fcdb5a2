use Rattle.kernel_spec.proofs.laws.opens.Goals as goal
use Rattle.kernel_spec.proofs.waking.Openings as in-openings
use Rattle.kernel_spec.proofs.waking.WaitsOn as in-waits-on

pub returns-clause-opens_alone : goal.returns-clause-opens_alone
returns-clause-opens_alone c = in-openings.opens_alone

pub returns-clause-opens_nothing : goal.returns-clause-opens_nothing
returns-clause-opens_nothing c = in-openings.opens_nothing

pub returns-clause-opens_pipe : goal.returns-clause-opens_pipe
returns-clause-opens_pipe c = in-openings.opens_pipe

pub returns-clause-opens_marked : goal.returns-clause-opens_marked
returns-clause-opens_marked c = in-openings.opens_marked

pub returns-clause-opens_reaped : goal.returns-clause-opens_reaped
returns-clause-opens_reaped c = in-openings.opens_reaped

pub returns-clause-opens_forked : goal.returns-clause-opens_forked
returns-clause-opens_forked c = in-openings.opens_forked

pub returns-clause-opens_gone : goal.returns-clause-opens_gone
returns-clause-opens_gone c = in-openings.opens_gone

pub returns-clause-opens_tick : goal.returns-clause-opens_tick
returns-clause-opens_tick c = in-openings.opens_tick

pub returns-clause-opens_console : goal.returns-clause-opens_console
returns-clause-opens_console c = in-openings.opens_console

pub returns-clause-waits_stay : goal.returns-clause-waits_stay
returns-clause-waits_stay c = in-waits-on.waits_stay
