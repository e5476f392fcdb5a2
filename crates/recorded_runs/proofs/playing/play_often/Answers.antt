use Rattle.std.proofs.Common.{◌≡◌, ◌-◌, ap, arith, replicate, rules, subst, sym, ℕ}
use Rattle.xv_machine.specs.Events.{event_of}
use Rattle.xv_machine.specs.Stretches.{Played}
use Rattle.xv_machine.proofs.PlayedParts.{often-none, often-more, often-broke, played-of, broke-of, played-those}
use Rattle.xv_machine.proofs.Refused.{if-err}
use Rattle.recorded_runs.proofs.Often.{first-more}
use Rattle.recorded_runs.proofs.playing.play_often.Goals as goal

pub parts-init : goal.parts-init
parts-init g c = record { within = omega arith; played = often-none (event_of c.args.event) c.args.count _ _ c.requires; failures = search rules }

pub parts-smaller : goal.parts-smaller
parts-smaller g c = omega (arith, c.parts-test.true, c.at_once-now.ensures.within, c.at_once-now.ensures.some, c.from-left.ensures)

pub play_times-requires : goal.play_times-requires
play_times-requires g c = c.parts.invariant.played.goes.sound

pub parts-preserved : goal.parts-preserved
parts-preserved g c =
    let e = event_of c.args.event in
    let n = c.at_once-now.result in
    let same : n ≡ c.from-left.result = omega (arith, c.from-left.ensures) in
    record {
      within = omega (arith, c.parts.invariant.within);
      played = subst (λ (k : ℕ). Played (replicate (c.args.count - (c.parts.left - k)) e) (g.P.RoundPlayer.machine c.args.player.now) (g.P.RoundPlayer.machine c.play_times.new.player)
          (g.W.ByteSink.sink c.args.sink.now) (g.W.ByteSink.sink c.play_times.new.sink)) same
          (often-more e c.args.count c.parts.left n _ _ _ _ _ _ c.parts.invariant.within c.at_once-now.ensures.within c.parts.invariant.played
          (played-of (replicate n e) _ _ _ _ c.in_ok-written.written _ c.in-Ok.is c.in_ok-written.ensures.plays));
      failures = search rules;
    }

pub returns-in_default-clause-plays : goal.returns-in_default-clause-plays
returns-in_default-clause-plays g c =
    let e = event_of c.args.event in
    let n = c.at_once-now.result in
    often-broke e c.args.count c.parts.left n _ _ _ _ _ _ c.parts.invariant.within c.at_once-now.ensures.within c.parts.invariant.played
    (broke-of (replicate n e) _ _ _ _ c.in_ok-written.written _ c.in_default.is c.in_ok-written.ensures.plays)

pub returns-clause-plays : goal.returns-clause-plays
returns-clause-plays g c =
    let e = event_of c.args.event in
    let all : c.args.count - c.parts.left ≡ c.args.count = omega (arith, c.parts-test.false) in
    played-those (replicate (c.args.count - c.parts.left) e) (replicate c.args.count e) _ _ _ _ (ap (λ n. replicate n e) all) c.parts.invariant.played

pub returns-in_err-written-clause-refused : goal.returns-in_err-written-clause-refused
returns-in_err-written-clause-refused g c =
    if-err c.from_residual.result
    (first-more (event_of c.args.event) c.args.count c.parts.left c.at_once-now.result _ _ _ _ _ _ c.parts.invariant.within c.at_once-now.ensures.within c.parts.invariant.played
    c.in_err-written.ensures.refused)
