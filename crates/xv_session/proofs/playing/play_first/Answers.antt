use Rattle.std.proofs.Common.{◌≡◌, ◌-◌, ◌∙◌, ℕ, List, length, take, replicate, min, get_or, sym, ap, subst}
use Rattle.kernel_spec.specs.runs.Run.{Event}
use Rattle.xv_machine.specs.Events.{event_of}
use Rattle.xv_machine.specs.declared.event.Event.TheVariants.{Run}
use Rattle.xv_session.specs.Follows.{Follows}
use Rattle.xv_session.specs.Spans.{all_events}
use Rattle.xv_session.specs.declared.history.Span.{Span}
use Rattle.xv_session.proofs.LastSteps.{follows-join, follows-sound}
use Rattle.xv_session.proofs.Spans.{first-more}
use Rattle.xv_session.proofs.playing.play_first.Goals as goal

pub loop-place-preserved : goal.loop-place-preserved
loop-place-preserved g c =
    let spans = c.args.spans.now in
    let place = c.loop-place.place in
    let none : Span = record { event = Run; count = 0 } in
    let s = get_or spans place none in
    let xs = all_events (take place spans) in
    let left = c.args.most - length xs in
    let count : c.min-count.result ≡ min s.count left = c.min-count.ensures ∙ ap (min s.count) c.loop-place.invariant.0 in
    let more = first-more spans place c.args.most none c.loop-place-test.true in
    let now : Follows (replicate (min s.count left) (event_of s.event)) c.loop-place.followed c.play.new.followed =
    subst (λ (n : ℕ). Follows (replicate n (event_of s.event)) c.loop-place.followed c.play.new.followed) count c.in_ok-play.ensures.goes in (
      (λ i. c.loop-place.invariant.0 i - count i) ∙ sym more.0,
      subst (λ (es : List Event). Follows es c.args.followed.now c.play.new.followed) (sym more.1)
          (follows-join (take c.args.most xs) (replicate (min s.count left) (event_of s.event)) c.args.followed.now c.loop-place.followed c.play.new.followed c.loop-place.invariant.1 now),
    )

pub play-requires : goal.play-requires
play-requires g c = follows-sound _ c.args.followed.now c.loop-place.followed c.requires c.loop-place.invariant.1

pub returns-clause-sound : goal.returns-clause-sound
returns-clause-sound g c = follows-sound _ c.args.followed.now c.loop-place.followed c.requires c.loop-place.invariant.1
