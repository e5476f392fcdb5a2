use Rattle.std.proofs.Common.{ℕ, Option, IfErr, IfOk, arith, subst, sym}
use Rattle.std.specs.Option.{option_to_list}
use Rattle.kernel_spec.specs.runs.Rounds.{round}
use Rattle.xv_machine.specs.Stretches.{PlayedFirst, PlayedOnFirst, Plays, PlaysOn}
use Rattle.xv_machine.proofs.Quiet.{none-quiet}
use Rattle.xv_machine.proofs.Refused.{if-err}
use Rattle.xv_machine.proofs.driving.play_round.Goals as goal

pub returns-in_default-clause-plays : goal.returns-in_default-clause-plays
returns-in_default-clause-plays g c =
    subst
    (λ (key : Option ℕ). IfOk c.play_on.result (λ p. PlaysOn p.passed p.written c.args.quantum (option_to_list key) (g.P.RoundPlayer.machine c.args.player.now)
    (g.P.RoundPlayer.machine c.play_on.new.player) (g.W.ByteSink.sink c.args.sink.now) (g.W.ByteSink.sink c.play_on.new.sink)))
    (sym c.in_default.is) c.play_on.ensures.plays

pub returns-in_default-clause-refused : goal.returns-in_default-clause-refused
returns-in_default-clause-refused g c =
    subst
    (λ (key : Option ℕ). IfErr c.play_on.result (λ _. PlayedOnFirst c.args.more c.args.quantum (option_to_list key) (g.P.RoundPlayer.machine c.args.player.now)
    (g.P.RoundPlayer.machine c.play_on.new.player) (g.W.ByteSink.sink c.args.sink.now) (g.W.ByteSink.sink c.play_on.new.sink)))
    (sym c.in_default.is) c.play_on.ensures.refused

pub returns-in_err-written-clause-refused : goal.returns-in_err-written-clause-refused
returns-in_err-written-clause-refused g c =
    let m = g.P.RoundPlayer.machine c.args.player.now in
    let new = g.P.RoundPlayer.machine c.play_keyed_round.new.player in
    let sink = g.W.ByteSink.sink c.args.sink.now in
    let after = g.W.ByteSink.sink c.play_keyed_round.new.sink in
    if-err c.from_residual.result (
      0,
      m,
      omega arith,
      none-quiet c.args.quantum m c.requires,
      subst (λ (key : Option ℕ). PlayedFirst (round c.args.quantum (option_to_list key)) m new sink after) (sym c.in-Some.is) c.in_err-written.ensures.refused,
    )

pub returns-clause-plays : goal.returns-clause-plays
returns-clause-plays g c =
    let m = g.P.RoundPlayer.machine c.args.player.now in
    let new = g.P.RoundPlayer.machine c.play_keyed_round.new.player in
    let sink = g.W.ByteSink.sink c.args.sink.now in
    let after = g.W.ByteSink.sink c.play_keyed_round.new.sink in (
      m,
      none-quiet c.args.quantum m c.requires,
      subst (λ (key : Option ℕ). Plays c.in_ok-written.written (round c.args.quantum (option_to_list key)) m new sink after) (sym c.in-Some.is) c.in_ok-written.ensures.plays,
    )
