use Rattle.std.proofs.Common.{◌<◌, Option, None, Some, ap, arith, length, subst}
use Rattle.std.specs.Prelude.{IfSome}
use Rattle.gdb_target.specs.LastHit.{IsHitBefore, IsLastOf}
use Rattle.gdb_target.specs.declared.played.Played.{Played}
use Rattle.gdb_target.specs.declared.reverse.Hit.{Hit}
use Rattle.gdb_target.proofs.target.Target.go_back.Goals as goal

pub returns-in_default-clause-last : goal.returns-in_default-clause-last
returns-in_default-clause-last c = record {
  to = c.search.new.self;
  hit = None;
  last = subst (λ h. IsLastOf c.args.back.now c.args.self.now c.search.new.self h) c.in_default.is c.in_ok-hit.ensures.last;
  ends = omega (arith, c.in_ok-back_to.ensures.back);
  told = c.stop_here.ensures;
}

pub returns-clause-last : goal.returns-clause-last
returns-clause-last c =
    let within : c.in-Some.hit.place < length c.args.self.now.run.session.events =
    (subst (λ (h : Option Hit). IfSome h (λ (f : Hit). IsHitBefore c.args.back.now (length c.args.self.now.run.session.events) f)) c.in-Some.is c.in_ok-hit.ensures.hit).0 in
    record {
      to = c.search.new.self;
      hit = Some c.in-Some.hit;
      last = subst (λ h. IsLastOf c.args.back.now c.args.self.now c.search.new.self h) c.in-Some.is c.in_ok-hit.ensures.last;
      ends = omega (arith, c.in_ok-back_to-2.ensures.back, within, c.in_ok-hit.ensures.end, ap (λ (r : Played). length r.session.events) c.forget_told.ensures.run);
      told = c.found.ensures.told;
    }

pub found-requires : goal.found-requires
found-requires c =
    (subst (λ (h : Option Hit). IfSome h (λ (f : Hit). IsHitBefore c.args.back.now (length c.args.self.now.run.session.events) f)) c.in-Some.is c.in_ok-hit.ensures.hit).1
