use Rattle.std.proofs.lemmas.Result.{on_ok_weaker}
use Rattle.xv_live.proofs.Joined.{on-ok}
use Rattle.xv_live.proofs.Kept.{on_join}
use Rattle.terminal_session.proofs.Lived.{stretch-of}
use Rattle.terminal_session.proofs.conversing.turn.Goals as goal

pub returns-clause-stretch : goal.returns-clause-stretch
returns-clause-stretch g c = on-ok c.end_behind.result (stretch-of _ _ _ _ _ _ _ c.in_ok-pause.ensures.attends.shown c.end_behind.ensures.lines)

pub returns-clause-kept : goal.returns-clause-kept
returns-clause-kept g c = on_ok_weaker c.end_behind.result (λ more k. more (c.in_ok-pause.ensures.kept k)) c.end_behind.ensures.kept

pub returns-clause-goes_on : goal.returns-clause-goes_on
returns-clause-goes_on g c = on_join _ _ _ c.in_ok-pause.ensures.goes_on c.end_behind.ensures.goes_on
