use Rattle.xv_live.proofs.Kept.{on_join}
use Rattle.terminal_session.proofs.conversing.live.Goals as goal

pub returns-clause-tells : goal.returns-clause-tells
returns-clause-tells g c =
    let outcome = c.converse-outcome in
    record { outcome = outcome.result; status_is = c.tell_outcome.ensures; end = outcome.ensures.end; came = outcome.ensures.lives }

pub returns-clause-goes_on : goal.returns-clause-goes_on
returns-clause-goes_on g c = on_join _ _ _ c.converse-outcome.ensures.goes_on c.record_anew.ensures.goes_on
