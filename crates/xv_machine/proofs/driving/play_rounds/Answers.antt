use Rattle.std.proofs.Common.{rules, arith, inl, inr, ap, sym, subst, refl, ◌∙◌, ◌≡◌, ◌⊎◌, ◌+◌, ◌≤◌, ℕ, Bool, true, false}
use Rattle.std.specs.Prelude.{is_none, is_some}
use Rattle.std.specs.Option.{option_to_list}
use Rattle.kernel_spec.specs.runs.Rounds.{round}
use Rattle.xv_machine.proofs.PlayedParts.{played-of, broke-of}
use Rattle.xv_machine.proofs.Rounds.{Going, none-going, one-more, over-more, none-from-some, all-done, read-stops, write-stops, player-stops}
use Rattle.xv_machine.proofs.Refused.{if-err}
use Rattle.xv_machine.proofs.driving.play_rounds.Goals as goal

pub rounds-init : goal.rounds-init
rounds-init g c = record { going = none-going _ _ _ _ _ c.status-halted.ensures.sound; halted = search rules; reads = search rules; writes = search rules; within = omega arith }

pub play_round-requires : goal.play_round-requires
play_round-requires g c = c.rounds.invariant.going.goes.sound

pub returns-in-Some-clause-done : goal.returns-in-Some-clause-done
returns-in-Some-clause-done g c =
    all-done c.args.plan c.rounds.count c.rounds.at_end _ (g.R.KeySource.source c.rounds.keys) _ (g.P.RoundPlayer.machine c.rounds.player) _ _ (omega arith)
    c.rounds.invariant.going (inr (ap is_some (sym c.rounds.invariant.halted ∙ c.in-Some.is)))

pub returns-in_default-take_key-clause-read : goal.returns-in_default-take_key-clause-read
returns-in_default-take_key-clause-read g c =
    read-stops c.args.plan c.rounds.count c.rounds.at_end _ (g.R.KeySource.source c.rounds.keys)
    (g.R.KeySource.source c.take_key.new.keys) _ (g.P.RoundPlayer.machine c.rounds.player) _ _ (omega arith) c.rounds.invariant.going
    (sym c.rounds.invariant.halted ∙ c.in_default.is) c.in_default-take_key.ensures.reads c.in_default-take_key.ensures.call

-- the rounds before the one that began last: those of earlier turns of the loop, and those over whose ends the player passed
whether : (at_end : Bool) (more passed : ℕ) → (at_end ≡ false → more ≡ 0) → passed ≤ more → (at_end ≡ true) ⊎ (passed ≡ 0)
whether true more passed none within = inl refl
whether false more passed none within = inr (omega (arith, none refl, within))

pub returns-in_default-written-clause-write : goal.returns-in_default-written-clause-write
returns-in_default-written-clause-write g c =
    let l = c.rounds in
    let played = c.in_ok-played.played in
    let source_now = g.R.KeySource.source l.keys in
    let on = sym l.invariant.halted ∙ c.in_default.is in
    let (start, q, plays) = c.in_ok-played.ensures.plays in
    let before = over-more c.args.plan.quantum l.count played.passed l.at_end _ source_now.left _ (g.P.RoundPlayer.machine l.player) start
    _ (g.W.ByteSink.sink l.sink) _ source_now.asked l.invariant.going on q
    (whether l.at_end _ played.passed c.rounds_without_key-more.ensures.none c.in_ok-played.ensures.within) in
    write-stops c.args.plan (l.count + played.passed) l.at_end _ source_now (g.R.KeySource.source c.take_key.new.keys) c.in-Ok.key
    _ start (g.P.RoundPlayer.machine c.play_round.new.player) _ (g.W.ByteSink.sink l.sink) (g.W.ByteSink.sink c.play_round.new.sink)
    (omega (arith, c.in_ok-played.ensures.within, c.rounds_without_key-more.ensures.within)) before (q.goes_on on) c.in-Ok.ensures.key c.in-Ok.ensures.call
    (broke-of (round c.args.plan.quantum (option_to_list c.in-Ok.key)) _ _ _ _ played.written _ c.in_default-written.is plays)

pub returns-in_err-played-clause-refused : goal.returns-in_err-played-clause-refused
returns-in_err-played-clause-refused g c =
    let l = c.rounds in
    let source_now = g.R.KeySource.source l.keys in
    let on = sym l.invariant.halted ∙ c.in_default.is in
    let (passed, start, within, q, first) = c.in_err-played.ensures.refused in
    let before = over-more c.args.plan.quantum l.count passed l.at_end _ source_now.left _ (g.P.RoundPlayer.machine l.player) start
    _ (g.W.ByteSink.sink l.sink) _ source_now.asked l.invariant.going on q
    (whether l.at_end _ passed c.rounds_without_key-more.ensures.none within) in
    if-err c.from_residual.result
    (player-stops c.args.plan (l.count + passed) l.at_end _ source_now (g.R.KeySource.source c.take_key.new.keys) c.in-Ok.key
    _ start (g.P.RoundPlayer.machine c.play_round.new.player) _ (g.W.ByteSink.sink l.sink) (g.W.ByteSink.sink c.play_round.new.sink)
    (omega (arith, within, c.rounds_without_key-more.ensures.within)) before (q.goes_on on) c.in-Ok.ensures.key c.in-Ok.ensures.call first)

pub rounds-preserved : goal.rounds-preserved
rounds-preserved g c =
    let l = c.rounds in
    let played = c.in_ok-played.played in
    let source_now = g.R.KeySource.source l.keys in
    let source_after = g.R.KeySource.source c.take_key.new.keys in
    let old = g.P.RoundPlayer.machine c.args.player.now in
    let new = g.P.RoundPlayer.machine c.play_round.new.player in
    let on = sym l.invariant.halted ∙ c.in_default.is in
    let (start, q, plays) = c.in_ok-played.ensures.plays in
    let before = over-more c.args.plan.quantum l.count played.passed l.at_end _ source_now.left _ (g.P.RoundPlayer.machine l.player) start
    _ (g.W.ByteSink.sink l.sink) _ source_now.asked l.invariant.going on q
    (whether l.at_end _ played.passed c.rounds_without_key-more.ensures.none c.in_ok-played.ensures.within) in
    let after =
    one-more c.args.plan.quantum (l.count + played.passed) l.at_end _ source_now.left source_after.left c.in-Ok.key _ start _ (g.W.ByteSink.sink l.sink)
    _ source_now.asked source_after.asked before c.in-Ok.ensures.key c.in-Ok.ensures.call new (g.W.ByteSink.sink c.play_round.new.sink) (q.goes_on on)
    (played-of (round c.args.plan.quantum (option_to_list c.in-Ok.key)) _ _ _ _ played.written _ c.in-Ok-written.is plays) in
    let count : l.count + played.passed + 1 ≡ l.count + (1 + played.passed) = omega arith in
    record {
      going = rw (none-from-some _ _ c.is_none-at_end.ensures)
          (subst (λ (n : ℕ). Going c.args.plan.quantum n (is_none c.in-Ok.key) (g.R.KeySource.source c.args.keys.now).left source_after.left old new (g.W.ByteSink.sink c.args.sink.now)
          (g.W.ByteSink.sink c.play_round.new.sink) (g.R.KeySource.source c.args.keys.now).asked source_after.asked) count after);
      halted = c.status-halted-in-rounds.ensures.status;
      reads = search rules;
      writes = search rules;
      within = omega (arith, c.in_ok-played.ensures.within, c.rounds_without_key-more.ensures.within);
    }

pub returns-in-Some-halted-clause-done : goal.returns-in-Some-halted-clause-done
returns-in-Some-halted-clause-done g c =
    all-done c.args.plan c.rounds.count c.rounds.at_end _ (g.R.KeySource.source c.rounds.keys) _ (g.P.RoundPlayer.machine c.rounds.player) _ _ (omega arith)
    c.rounds.invariant.going (inr (ap is_some (sym c.rounds.invariant.halted ∙ c.in-Some-halted.is)))

pub returns-in-None-clause-done : goal.returns-in-None-clause-done
returns-in-None-clause-done g c =
    all-done c.args.plan c.rounds.count c.rounds.at_end _ (g.R.KeySource.source c.rounds.keys) _ (g.P.RoundPlayer.machine c.rounds.player) _ _ (omega arith)
    c.rounds.invariant.going (inl (omega arith))
