use Rattle.std.proofs.Common.{◌∙◌, ◌-◌, ◌<◌, List, [], ◌∷◌, ◌++◌, arith, subst}
use Rattle.xv_session.specs.Spans.{AreApart}
use Rattle.xv_session.specs.declared.history.Span.{Span}
use Rattle.xv_session.proofs.Spans.{apart-count, apart-pop, cut-last, cut-off}
use Rattle.xv_session.proofs.history.History.cut.Goals as goal

pub cuts-preserved-then-self-past : goal.cuts-preserved-then-self-past
cuts-preserved-then-self-past c =
    let h = c.cuts.self-inside in
    let r = cut-last h.over.items h.last h.count c.args.place c.cuts.invariant.0 c.cuts-test.true c.if-self-past.true in
    (r.0, r.1 ∙ c.cuts.invariant.1, apart-count h.over.items h.last (h.last.count - (h.count - c.args.place)) c.cuts.invariant.2)

pub cuts-preserved : goal.cuts-preserved
cuts-preserved c =
    let h = c.cuts.self-inside in
    let past : h.last.count < h.count - c.args.place = omega (arith, c.if-self-past.false) in
    let r = cut-off h.over.items c.pop.new.self.items h.last c.in-Some.span h.count c.args.place c.in-Some.ensures.items c.cuts.invariant.0 c.cuts-test.true past in
    let apart : AreApart (c.pop.new.self.items ++ c.in-Some.span ∷ []) h.last = subst (λ (o : List Span). AreApart o h.last) c.in-Some.ensures.items c.cuts.invariant.2 in
    (r.0, r.1 ∙ c.cuts.invariant.1, (apart-pop c.pop.new.self.items c.in-Some.span h.last apart).0)

pub invariant_of-self : goal.invariant_of-self
invariant_of-self c = (c.cuts.invariant.0, c.cuts.invariant.2)
