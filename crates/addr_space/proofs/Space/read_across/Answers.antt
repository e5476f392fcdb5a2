use Rattle.addr_space.proofs.Prelude.{◌*◌, ◌++◌, ◌+◌, ◌-◌, ◌∙◌, ◌≡◌, ◌≤◌, ap, arith, drop, image_bytes, image_of, length, length-drop, length-take-le, put_mid, rules, sym, take}
use Rattle.std.proofs.lemmas.Slice.{take-put_mid}
use Rattle.addr_space.proofs.Parts.{length-image_bytes, image_bytes-append}
use Rattle.addr_space.proofs.Space.read_across.Goals as goal

pub overflow_add-place : goal.overflow_add-place
overflow_add-place c = omega (arith, c.requires.inside c.parts.done (search rules))

pub of_address-vpn-requires : goal.of_address-vpn-requires
of_address-vpn-requires c = omega (arith, c.requires.inside c.parts.done (search rules))

pub parts-preserved : goal.parts-preserved
parts-preserved c =
    let i = image_of c.args.ram.now c.args.self.now in
    let a = c.args.address in
    let d = c.parts.done in
    let n = c.min-part.result in
    let out = c.parts.out in
    let ys = c.read_part.new.out in
    let fits : c.parts.done + c.min-part.result ≤ length c.parts.out = search rules in
    let got : ys ≡ image_bytes i (a + d) n =
    let at : 4096 * c.of_address-vpn.result + c.page_offset-at.result ≡ c.args.address + c.parts.done = omega (arith, c.of_address-vpn.ensures, c.page_offset-at.ensures.value) in
    let long : length (take (c.parts.done + c.min-part.result - c.parts.done) (drop c.parts.done c.parts.out)) ≡ c.min-part.result =
    length-take-le (c.parts.done + c.min-part.result - c.parts.done) (drop c.parts.done c.parts.out)
    (omega (arith, length-drop c.parts.done c.parts.out, fits)) ∙ omega arith in
    c.read_part.ensures ∙ ap (λ x. image_bytes i x (length (take (c.parts.done + c.min-part.result - c.parts.done) (drop c.parts.done c.parts.out)))) at ∙ ap (image_bytes i (a + d)) long in
    let long : length ys ≡ n = ap length got ∙ length-image_bytes i (a + d) n in
    let more : take (d + n) (put_mid d (d + n - d) out ys) ≡ image_bytes i a (d + n) =
    take-put_mid d (d + n - d) out ys (d + n) (omega (arith, long)) (omega (arith, fits))
    ∙ ap (λ xs. xs ++ ys) c.parts.invariant.2 ∙ ap (λ xs. image_bytes i a d ++ xs) got ∙ sym (image_bytes-append i a d n) in
    let same : length (put_mid d (d + n - d) out ys) ≡ length out = search rules in
    (omega (arith, same, fits), same ∙ c.parts.invariant.1, more)
