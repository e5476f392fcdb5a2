use Rattle.std.proofs.Common.{◌∙◌, ap, sym, arith, ℕ, ◌+◌, ◌*◌, ◌<◌, List, [], ◌∷◌, ◌++◌, length, take}
use Rattle.grade_submissions.specs.Encodings.{units_of}
use Rattle.grade_submissions.proofs.Decoding.{units_more}
use Rattle.grade_submissions.proofs.encodings.units_of.Goals as goal

pub loop-place-preserved : goal.loop-place-preserved
loop-place-preserved c =
    let place = c.loop-place.place in
    let bytes = c.args.bytes.now in
    let within : 2 * place + 1 < length bytes = omega (arith, c.loop-place-test.true) in
    c.in_ok-push.ensures.items ∙ ap (λ (us : List ℕ). us ++ c.unit.result ∷ []) c.loop-place.invariant
    ∙ ap (λ (u : ℕ). units_of c.args.order (take (2 * place) bytes) ++ u ∷ []) c.unit.ensures ∙ sym (units_more c.args.order bytes place within)
