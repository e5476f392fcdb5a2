use Rattle.std.proofs.Common.{◌≡◌, ◌∙◌, ℕ, ◌+◌, length, sym, ap, arith}
use Rattle.gdb_target.specs.Plan.{planned_at}
use Rattle.gdb_target.proofs.played.Played.next.Goals as goal

pub returns-clause-event : goal.returns-clause-event
returns-clause-event c =
    let s = c.args.self.now in
    let here : c.at.result + 0 ≡ length s.session.events = omega (arith, c.at.ensures) in
    ap (planned_at s.plan) (sym here) ∙ c.at-2.ensures.equal 0 c.at-2.ensures.some

pub returns-clause-equal : goal.returns-clause-equal
returns-clause-equal c = λ k h.
    let s = c.args.self.now in ap (λ (n : ℕ). planned_at s.plan (n + k)) (sym c.at.ensures) ∙ c.at-2.ensures.equal k h
