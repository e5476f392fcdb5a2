use Rattle.std.proofs.Common.{◌≡◌, ◌+◌, ◌∙◌, ℕ, [], ◌∷◌, ◌++◌, suc, ap, arith, rules}
use Rattle.std.specs.Prelude.{map}
use Rattle.std.specs.List.{range_with_len}
use Rattle.call_reasons.specs.Shown.{facts_in}
use Rattle.call_reasons.proofs.Reading.{one_more_byte}
use Rattle.call_reasons.proofs.texts.pointer_bytes.Goals as goal

pub loop-place-init : goal.loop-place-init
loop-place-init c = (c.new-bytes.ensures, search rules)

pub loop-place-preserved : goal.loop-place-preserved
loop-place-preserved c =
    let byte : ℕ → ℕ = (facts_in c.args.machine.now.world.state c.args.pid).byte in
    let a = c.args.address in
    let n = c.loop-place.place in
    let next : suc n ≡ n + 1 = omega arith in (
      c.push.ensures.items ∙ ap (λ bytes. bytes ++ c.byte.result ∷ []) c.loop-place.invariant.0 ∙ ap (λ x. map byte (range_with_len a n) ++ x ∷ []) c.byte.ensures
          ∙ one_more_byte n a byte ∙ ap (λ k. map byte (range_with_len a k)) next,
      omega (arith, c.loop-place.invariant.1, c.push.ensures.len),
    )
