use Rattle.std.proofs.Common.{◌≡◌, ◌∙◌, ◌+◌, ◌-◌, ◌<◌, ◌/◌, ap, arith}
use Rattle.kernel_spec.specs.views.State.{live}
use Rattle.call_reasons.specs.Shown.{pages_in}
use Rattle.call_reasons.proofs.Reach.{reached_by_pages}
use Rattle.call_reasons.proofs.shown.reaches.Goals as goal

pub returns : goal.returns
returns c =
    let o = live c.args.machine.now.world.state c.args.pid in
    let some : 0 < c.args.count = omega (arith, c.if-count-eq0.false) in
    let first : c.number.result ≡ c.args.address / 4096 = c.number.ensures.value ∙ c.of_address-first.ensures in
    let before : c.in-Some.end - 1 ≡ c.args.address + (c.args.count - 1) = omega (arith, c.in-Some.ensures.some.0, some) in
    let last : c.number-2.result ≡ (c.args.address + (c.args.count - 1)) / 4096 = c.number-2.ensures.value ∙ c.of_address-last.ensures ∙ ap (λ n. n / 4096) before in
    c.reaches_pages.ensures
    ∙ ap (λ n. pages_in c.args.access o n c.number-2.result) first ∙ ap (pages_in c.args.access o (c.args.address / 4096)) last
    ∙ reached_by_pages c.args.access o c.args.address c.args.count some (omega (arith, c.in-Some.ensures.some.0, c.in-Some.ensures.some.1))
