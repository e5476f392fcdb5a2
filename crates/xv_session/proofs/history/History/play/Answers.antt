use Rattle.std.proofs.Common.{◌≡◌, ◌-◌, ◌∙◌, ap, sym, subst, take, replicate, min, length, List}
use Rattle.kernel_spec.specs.runs.Run.{Event}
use Rattle.xv_machine.specs.Events.{event_of}
use Rattle.xv_session.specs.Follows.{Follows}
use Rattle.xv_session.specs.Spans.{Kept, all_events}
use Rattle.xv_session.proofs.LastSteps.{follows-join}
use Rattle.xv_session.proofs.Spans.{kept-first}
use Rattle.xv_session.proofs.history.History.play.Goals as goal

pub returns-clause-goes : goal.returns-clause-goes
returns-clause-goes g c =
    let h = c.self.inside in
    let xs = all_events h.over.items in
    let e = event_of h.last.event in
    let one : Follows (take c.args.place xs) c.args.followed.now c.play_first.new.followed =
    subst (λ ss. Follows (take c.args.place (all_events ss)) c.args.followed.now c.play_first.new.followed) c.as_slice.ensures.value
    c.in_ok-left.ensures.goes in
    let count : c.min-rest.result ≡ min h.last.count (c.args.place - length xs) = c.min-rest.ensures
    ∙ ap (min h.last.count) (c.in_ok-left.ensures.left ∙ ap (λ ss. c.args.place - length (all_events ss)) c.as_slice.ensures.value) in
    let two : Follows (replicate (min h.last.count (c.args.place - length xs)) e) c.play_first.new.followed c.play.new.followed =
    subst (λ n. Follows (replicate n e) c.play_first.new.followed c.play.new.followed) count c.in_ok-play.ensures.goes in
    subst (λ (es : List Event). Follows es c.args.followed.now c.play.new.followed) (sym (kept-first h.over.items h.last c.args.place) ∙ ap (λ (k : Kept). take c.args.place k.events) c.self.view_is)
    (follows-join (take c.args.place xs) (replicate (min h.last.count (c.args.place - length xs)) e) c.args.followed.now c.play_first.new.followed c.play.new.followed one two)
