use Rattle.std.proofs.Common.{◌≡◌, ◌≤◌, ◌+◌, Some, length, subst, sym, arith}
use Rattle.xv_machine.specs.Events.{event_of}
use Rattle.xv_session.specs.Answers.{AreEqualFrom}
use Rattle.debug_views.specs.EventText.{AreAlike}
use Rattle.debug_views.proofs.Shown.{equal-within, equal-joined}
use Rattle.debug_views.proofs.history.joined.Goals as goal

pub loop-joins-preserved : goal.loop-joins-preserved
loop-joins-preserved c =
    let list = c.args.session.now.events in
    let place = c.args.place in
    let e = event_of c.args.equal.event in
    let count = c.loop-joins.count in
    let more = c.alike_from-more.result in
    let within : place + count ≤ length list = equal-within list place count e c.loop-joins.invariant in
    let next : c.saturating_add.result ≡ place + count = omega (arith, within, c.at-all.ensures) in
    let alike : AreAlike list (place + count) e more = subst (λ at. AreAlike list at e more) next c.alike_from-more.ensures in
    let all : AreEqualFrom list place (Some (e, count + more)) = equal-joined list place count more e c.loop-joins.invariant alike in
    let whole : place + (count + more) ≤ length list = equal-within list place (count + more) e all in
    let sum : c.saturating_add-count.result ≡ count + more = omega (arith, whole, c.at-all.ensures) in
    subst (λ n. AreEqualFrom list place (Some (e, n))) (sym sum) all
