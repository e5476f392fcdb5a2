use Rattle.std.proofs.Common.{◌<◌, arith}
use Rattle.xv_session.proofs.Spans.{closes}
use Rattle.xv_session.proofs.history.close.Goals as goal

pub returns-clause-closes : goal.returns-clause-closes
returns-clause-closes c =
    let some : 0 < c.args.last.count = omega (arith, c.if-last-eq0.false) in
    closes c.args.over.now.items c.push.new.self.items c.args.last c.in_ok-push.ensures.items some
