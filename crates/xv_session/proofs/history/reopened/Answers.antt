use Rattle.std.proofs.Common.{◌≡◌, arith}
use Rattle.xv_session.proofs.Spans.{reopens}
use Rattle.xv_session.proofs.history.reopened.Goals as goal

pub returns-in-Some : goal.returns-in-Some
returns-in-Some c =
    let none : c.args.last.count ≡ 0 = omega (arith, c.if-last-gt0.false) in
    reopens c.args.over.now.items c.pop.new.self.items c.args.last c.in-Some.span c.in-Some.ensures.items none
