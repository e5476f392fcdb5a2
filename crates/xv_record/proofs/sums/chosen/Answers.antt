use Rattle.std.proofs.Common.{List, subst}
use Rattle.std.proofs.lemmas.List.{take_all}
use Rattle.std.proofs.lemmas.Result.{err_from_is_err_and}
use Rattle.xv_record.specs.Chosen.{AreThere}
use Rattle.xv_record.specs.declared.sums.ProgramSum.{ProgramSum}
use Rattle.xv_record.proofs.Refused.{refused-at, same-more, there-more}
use Rattle.xv_record.proofs.sums.chosen.Goals as goal

pub returns-in_err-program-clause-refused : goal.returns-in_err-program-clause-refused
returns-in_err-program-clause-refused c =
    let p = err_from_is_err_and c.from_residual.result c.from_residual.ensures.1 in
    rw (p.1, p.2) (refused-at c.args.programs.now c.args.wanted.now c.loop-sum.sum-index c.sum-item.result c.in_err-program.field-0.0 c.loop-sum-test.true c.sum-item.is c.loop-sum.invariant.there c.in_err-program.ensures.reason)

pub returns-in_default-clause-refused : goal.returns-in_default-clause-refused
returns-in_default-clause-refused c =
    refused-at c.args.programs.now c.args.wanted.now c.loop-sum.sum-index c.sum-item.result _ c.loop-sum-test.true c.sum-item.is c.loop-sum.invariant.there tt

pub loop-sum-preserved : goal.loop-sum-preserved
loop-sum-preserved c = record {
  same = same-more c.loop-sum.list.items c.push.new.self.items c.args.wanted.now c.loop-sum.sum-index c.in_ok-program.program c.sum-item.result c.loop-sum-test.true c.sum-item.is
      c.loop-sum.invariant.same c.in-Ok.ensures.items c.in_ok-program.ensures.same;
  there = there-more c.args.programs.now c.args.wanted.now c.loop-sum.sum-index c.sum-item.result c.loop-sum-test.true c.sum-item.is c.loop-sum.invariant.there c.in_ok-program.ensures.there;
}

pub returns-clause-there : goal.returns-clause-there
returns-clause-there c =
    subst (λ (ws : List ProgramSum). AreThere c.args.programs.now ws) (take_all c.loop-sum.sum-index c.args.wanted.now c.loop-sum-test.false) c.loop-sum.invariant.there
