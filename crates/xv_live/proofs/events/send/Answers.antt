use Rattle.std.proofs.Common.{ℕ, List, [], ◌∷◌, subst}
use Rattle.std.proofs.lemmas.Result.{on_ok_weaker}
use Rattle.std.specs.Io.KnownBytes.{Appends}
use Rattle.xv_machine.specs.Events.{event_of, outcome_of}
use Rattle.xv_live.proofs.Broke.{begins-one, begins-still, on-err, write-breaks}
use Rattle.xv_live.proofs.Played.{plays-one}
use Rattle.xv_live.proofs.events.send.Goals as goal

pub returns-clause-plays : goal.returns-clause-plays
returns-clause-plays g c =
    let h = (g.W.ByteSink.sink c.args.screen.now.sink).held in
    let k = (g.W.ByteSink.sink c.show.new.self.sink).held in
    on_ok_weaker c.show.result
    (λ written. plays-one (event_of c.args.event) (outcome_of c.in_ok-outcome.outcome) c.args.session.now c.send.new.self h k
    c.in_ok-outcome.ensures.sent (subst (λ (bs : List ℕ). Appends h k bs) c.shown.ensures written))
    c.show.ensures.shown

pub returns-in_err-outcome-clause-begins : goal.returns-in_err-outcome-clause-begins
returns-in_err-outcome-clause-begins g c =
    on-err c.from_residual.result (begins-still (event_of c.args.event ∷ []) c.args.session.now c.send.new.self c.in_err-outcome.ensures.refused)

pub returns-clause-begins : goal.returns-clause-begins
returns-clause-begins g c =
    on-err c.show.result (begins-one (event_of c.args.event) (outcome_of c.in_ok-outcome.outcome) [] c.args.session.now c.send.new.self c.in_ok-outcome.ensures.sent)

pub returns-clause-why : goal.returns-clause-why
returns-clause-why g c = write-breaks c.show.result c.show.ensures.refused
