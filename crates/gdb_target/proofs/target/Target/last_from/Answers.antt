use Rattle.std.proofs.Common.{◌∙◌, arith}
use Rattle.gdb_target.specs.declared.target.Target.{Target}
use Rattle.gdb_target.proofs.target.Target.last_from.Goals as goal

pub returns-clause-last : goal.returns-clause-last
returns-clause-last c =
    let from : Target = record c.args.self.now { run = c.back_to.new.self } in
    let (n, looked) = c.in_ok-hit.ensures.last in
    record {
      from = from;
      looks = n;
      same_run = c.back_to.ensures.same;
      begins = omega (arith, c.in_ok-back_to.ensures.back, c.requires);
      looked = looked;
      up_to = c.in_ok-hit.ensures.end ∙ c.at-end.ensures;
    }
