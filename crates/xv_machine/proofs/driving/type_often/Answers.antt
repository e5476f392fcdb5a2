use Rattle.std.proofs.Common.{◌≡◌, ◌∷◌, [], ap, arith, replicate, rules}
use Rattle.kernel_spec.specs.runs.Run.{Key}
use Rattle.xv_machine.proofs.Joins.{none-played, played-more, broke-within}
use Rattle.xv_machine.proofs.PlayedParts.{played-of, broke-of, played-those}
use Rattle.xv_machine.proofs.Refused.{if-err, first-within}
use Rattle.xv_machine.proofs.driving.type_often.Goals as goal

pub loop-typed-init : goal.loop-typed-init
loop-typed-init g c = record { played = none-played _ _ c.requires; failures = search rules }

pub type_key-requires : goal.type_key-requires
type_key-requires g c = c.loop-typed.invariant.played.goes.sound

pub loop-typed-preserved : goal.loop-typed-preserved
loop-typed-preserved g c =
    let e = Key c.args.byte in
    record {
      played = played-more e c.loop-typed.typed _ _ _ _ _ _ c.loop-typed.invariant.played (played-of (e ∷ []) _ _ _ _ c.in_ok-written.written _ c.in-Ok.is c.in_ok-written.ensures.plays);
      failures = search rules;
    }

pub returns-in_default-clause-plays : goal.returns-in_default-clause-plays
returns-in_default-clause-plays g c =
    let e = Key c.args.byte in
    broke-within e c.loop-typed.typed c.args.count _ _ _ _ _ _ (omega arith) c.loop-typed.invariant.played
    (broke-of (e ∷ []) _ _ _ _ c.in_ok-written.written _ c.in_default.is c.in_ok-written.ensures.plays)

pub returns-clause-plays : goal.returns-clause-plays
returns-clause-plays g c =
    let e = Key c.args.byte in
    let all : c.loop-typed.typed ≡ c.args.count = omega (arith, c.loop-typed-test.false, c.loop-typed.auto.typed-end) in
    played-those (replicate c.loop-typed.typed e) (replicate c.args.count e) _ _ _ _ (ap (λ n. replicate n e) all) c.loop-typed.invariant.played

pub returns-in_err-written-clause-refused : goal.returns-in_err-written-clause-refused
returns-in_err-written-clause-refused g c =
    if-err c.from_residual.result
    (first-within (Key c.args.byte) c.loop-typed.typed c.args.count _ _ _ _ _ _ (omega (arith, c.loop-typed-test.true)) c.loop-typed.invariant.played c.in_err-written.ensures.refused)
