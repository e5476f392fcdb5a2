use Rattle.std.proofs.Common.{◌∙◌, ◌+◌, ◌++◌, ℕ, ap, replicate, sym}
use Rattle.xv_session.specs.Spans.{Kept, kept}
use Rattle.xv_session.proofs.Spans.{apart-count, count-more, kept-more}
use Rattle.xv_session.proofs.history.History.add.Goals as goal

pub returns : goal.returns
returns c =
    let h = c.self.inside in
    ap (λ (n : ℕ). kept h.over.items (record h.last { count = h.last.count + n })) c.from.ensures
    ∙ kept-more h.over.items h.last c.args.count
    ∙ ap (λ (k : Kept). let more : Kept = record { events = k.events ++ replicate c.args.count k.next; next = k.next } in more) c.self.view_is

pub invariant_of-self : goal.invariant_of-self
invariant_of-self c =
    let h = c.self.inside in (
      count-more h.over.items h.last h.count c.from.result c.from-2.result c.self.invariant.0 (c.from-2.ensures ∙ sym c.from.ensures),
      apart-count h.over.items h.last (h.last.count + c.from.result) c.self.invariant.1,
    )
