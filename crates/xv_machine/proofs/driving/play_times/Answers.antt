use Rattle.std.proofs.Common.{ℕ, ap, replicate, sym}
use Rattle.kernel_spec.specs.runs.Run.{Run, Tick}
use Rattle.xv_machine.specs.Events.{event_of}
use Rattle.xv_machine.specs.declared.event.Event as told
use Rattle.xv_machine.proofs.Joins.{none-played, silent-played}
use Rattle.xv_machine.proofs.PlayedParts.{played-those}
use Rattle.xv_machine.proofs.Refused.{if-err, first-those, first-silent}
use Rattle.xv_machine.proofs.driving.play_times.Goals as goal

-- nothing is played
pub returns-then-count-eq0-clause-plays : goal.returns-then-count-eq0-clause-plays
returns-then-count-eq0-clause-plays g c =
    let e = event_of c.args.event in
    played-those (replicate 0 e) (replicate c.args.count e) _ _ _ _ (ap (λ (n : ℕ). replicate n e) (sym c.if-count-eq0.true)) (none-played _ _ c.requires)

pub returns-in_ok-run_often-in-Run-clause-plays : goal.returns-in_ok-run_often-in-Run-clause-plays
returns-in_ok-run_often-in-Run-clause-plays g c =
    let old = g.P.RoundPlayer.machine c.args.player.now in
    let new = g.P.RoundPlayer.machine c.run_often.new.player in
    let sink = g.W.ByteSink.sink c.args.sink.now in
    let count = c.args.count in
    played-those (replicate count Run) (replicate count (event_of c.args.event)) old new sink sink (ap (λ (e : told.Event). replicate count (event_of e)) (sym c.in-Run.is))
    (silent-played (replicate count Run) old new sink c.in_ok-run_often-in-Run.ensures.sent)

pub returns-in_ok-tick_often-in-Tick-clause-plays : goal.returns-in_ok-tick_often-in-Tick-clause-plays
returns-in_ok-tick_often-in-Tick-clause-plays g c =
    let old = g.P.RoundPlayer.machine c.args.player.now in
    let new = g.P.RoundPlayer.machine c.tick_often.new.player in
    let sink = g.W.ByteSink.sink c.args.sink.now in
    let count = c.args.count in
    played-those (replicate count Tick) (replicate count (event_of c.args.event)) old new sink sink (ap (λ (e : told.Event). replicate count (event_of e)) (sym c.in-Tick.is))
    (silent-played (replicate count Tick) old new sink c.in_ok-tick_often-in-Tick.ensures.sent)

pub returns-in_err-run_often-in-Run-clause-refused : goal.returns-in_err-run_often-in-Run-clause-refused
returns-in_err-run_often-in-Run-clause-refused g c =
    let old = g.P.RoundPlayer.machine c.args.player.now in
    let new = g.P.RoundPlayer.machine c.run_often.new.player in
    let sink = g.W.ByteSink.sink c.args.sink.now in
    let count = c.args.count in
    if-err c.from_residual.result
    (first-those (replicate count Run) (replicate count (event_of c.args.event)) old new sink sink (ap (λ (e : told.Event). replicate count (event_of e)) (sym c.in-Run.is))
    (first-silent (replicate count Run) old new sink c.in_err-run_often-in-Run.ensures.refused))

pub returns-in_err-tick_often-in-Tick-clause-refused : goal.returns-in_err-tick_often-in-Tick-clause-refused
returns-in_err-tick_often-in-Tick-clause-refused g c =
    let old = g.P.RoundPlayer.machine c.args.player.now in
    let new = g.P.RoundPlayer.machine c.tick_often.new.player in
    let sink = g.W.ByteSink.sink c.args.sink.now in
    let count = c.args.count in
    if-err c.from_residual-in_err-tick_often-in-Tick.result
    (first-those (replicate count Tick) (replicate count (event_of c.args.event)) old new sink sink (ap (λ (e : told.Event). replicate count (event_of e)) (sym c.in-Tick.is))
    (first-silent (replicate count Tick) old new sink c.in_err-tick_often-in-Tick.ensures.refused))
