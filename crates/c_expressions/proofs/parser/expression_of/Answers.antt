use Rattle.std.proofs.Common.{◌≡◌, arith, length}
use Rattle.std.proofs.lemmas.Grind.{common_steps}
use Rattle.c_expressions.proofs.Read.{rest_refused}
use Rattle.c_expressions.proofs.parser.expression_of.Goals as goal

pub returns-clause-refused : goal.returns-clause-refused
returns-clause-refused c =
    let some : length c.in_ok-name.rest.now ≡ 0 → ⊥ = grind (arith, common_steps) in
    λ few. rest_refused c.args.tokens.now c.in_ok-name.rest.now c.in_ok-name.name c.new-steps.result.items c.read.new.steps.items c.in_ok-name.ensures.all some
