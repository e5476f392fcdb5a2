use Rattle.std.proofs.Common.{◌∙◌, refl}
use Rattle.xv_live.proofs.Kept.{on_join, on_still}
use Rattle.terminal_session.proofs.Lived.{lives-none, lives-more}
use Rattle.terminal_session.proofs.conversing.converse.Goals as goal

pub turns-init : goal.turns-init
turns-init g c = (lives-none _ _ c.args.session.now _, refl, λ kept. kept, on_still c.args.recorder.now)

pub turns-preserved : goal.turns-preserved
turns-preserved g c =
    let (lived, same, kept, on) = c.turns.invariant in (
      lives-more _ _ _ _ _ _ _ _ _ lived same c.in_ok-end.ensures.stretch,
      c.in_ok-end.ensures.plan ∙ same,
      λ k. c.in_ok-end.ensures.kept (kept k),
      on_join _ _ _ on c.in_ok-end.ensures.goes_on,
    )

pub returns-in-Some-clause-lives : goal.returns-in-Some-clause-lives
returns-in-Some-clause-lives g c =
    let (lived, same, _, _) = c.turns.invariant in
    lives-more _ _ _ _ _ _ _ _ _ lived same c.in_ok-end.ensures.stretch

pub returns-in-Some-clause-kept : goal.returns-in-Some-clause-kept
returns-in-Some-clause-kept g c = let (_, _, kept, _) = c.turns.invariant in λ k. c.in_ok-end.ensures.kept (kept k)

pub returns-in-Some-clause-goes_on : goal.returns-in-Some-clause-goes_on
returns-in-Some-clause-goes_on g c = let (_, _, _, on) = c.turns.invariant in on_join _ _ _ on c.in_ok-end.ensures.goes_on
