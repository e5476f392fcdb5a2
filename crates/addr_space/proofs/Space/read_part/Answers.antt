use Rattle.addr_space.proofs.Prelude.{◌%◌, ◌*◌, ◌+◌, ◌-◌, ◌/◌, ◌∙◌, ◌≡◌, ap, arith, drop, get, image_of, length, None, rules, sym, take}
use Rattle.addr_space.proofs.Parts.{part-read, part-zeros}
use Rattle.addr_space.proofs.Space.read_part.Goals as goal

pub returns-in-Some : goal.returns-in-Some
returns-in-Some c =
    let i = image_of c.args.ram.now c.args.self.now in
    let a = 4096 * c.args.vpn + c.args.at in
    let n = length c.args.out.now in
    let there = c.in-Some.ensures.there in
    let quotient : (4096 * c.args.vpn + c.args.at) / 4096 ≡ c.args.vpn = omega (arith, c.requires.inside) in
    let remainder : (4096 * c.args.vpn + c.args.at) % 4096 ≡ c.args.at = omega (arith, c.requires.inside) in
    let count : c.args.at + length c.args.out.now - c.args.at ≡ length c.args.out.now = omega arith in
    let array : length c.in-Some.page.now ≡ 4096 = search rules in
    c.copy_from_slice.ensures.after
    ∙ ap (λ k. take k (drop c.args.at c.in-Some.page.now)) count ∙ ap (λ o. take n (drop o c.in-Some.page.now)) (sym remainder) ∙ ap (λ b. take n (drop (a % 4096) b)) there.2
    ∙ part-read i a n there.0 (ap (get i.pages) quotient ∙ there.1) (ap length (sym there.2) ∙ array) (omega (arith, remainder, c.requires.fits))

pub returns-in-None : goal.returns-in-None
returns-in-None c =
    let i = image_of c.args.ram.now c.args.self.now in
    let a = 4096 * c.args.vpn + c.args.at in
    let none : get i.pages c.args.vpn ≡ None = c.in-None.ensures.none in
    let quotient : (4096 * c.args.vpn + c.args.at) / 4096 ≡ c.args.vpn = omega (arith, c.requires.inside) in
    let remainder : (4096 * c.args.vpn + c.args.at) % 4096 ≡ c.args.at = omega (arith, c.requires.inside) in
    c.fill.ensures.after (λ y e. e) ∙ part-zeros i a (length c.args.out.now) (ap (get i.pages) quotient ∙ none) (omega (arith, remainder, c.requires.fits))
