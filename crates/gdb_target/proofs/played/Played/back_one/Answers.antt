use Rattle.std.proofs.Common.{sym, arith}
use Rattle.gdb_target.proofs.played.Played.back_one.Goals as goal

pub returns-clause-before : goal.returns-clause-before
returns-clause-before c = record {
  after = c.args.self.now;
  same = sym c.back_to.ensures.same;
  next = omega (arith, c.in_ok-back_to.ensures.back, c.saturating_sub-place.ensures, c.at.ensures, c.requires.some);
  ends = c.requires.ended;
}

pub returns-clause-less : goal.returns-clause-less
returns-clause-less c = omega (arith, c.in_ok-back_to.ensures.back, c.saturating_sub-place.ensures, c.at.ensures, c.requires.some)
