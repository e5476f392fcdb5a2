use Rattle.std.proofs.Common.{◌≡◌, length, map, arith}
use Rattle.std.proofs.lemmas.Grind.{common_steps}
use Rattle.c_expressions.specs.Tokens.{seen}
use Rattle.c_expressions.proofs.Pieces.{all-read, no-more, none-yet, one-more}
use Rattle.c_expressions.proofs.tokens.tokens_of.Goals as goal

pub loop-rest-init : goal.loop-rest-init
loop-rest-init c = none-yet c.args.text.now c.as_bytes-rest.result.now c.new-tokens.result.items c.new-tokens.ensures.items c.as_bytes-rest.ensures.value

pub loop-rest-preserved : goal.loop-rest-preserved
loop-rest-preserved c =
    one-more c.args.text.now c.loop-rest.rest.now c.in-Some.first c.loop-rest.tokens.items c.add.new.tokens.items c.loop-rest.invariant c.in-Some.ensures.some c.in_ok-add.ensures

pub returns-in_default-clause-refused : goal.returns-in_default-clause-refused
returns-in_default-clause-refused c = no-more c.args.text.now c.loop-rest.rest.now (map seen c.loop-rest.tokens.items) c.loop-rest.invariant c.in_default.ensures.none

pub returns-clause-read : goal.returns-clause-read
returns-clause-read c =
    let empty : length c.loop-rest.rest.now ≡ 0 = grind (arith, common_steps) in
    all-read c.args.text.now c.loop-rest.rest.now (map seen c.loop-rest.tokens.items) c.loop-rest.invariant empty
