use Rattle.std.proofs.Common.{◌≡◌, ◌∙◌, ℕ, Bool, false, sym, ap, arith}
use Rattle.kernel_spec.specs.views.State.{live}
use Rattle.call_reasons.specs.Shown.{page_in}
use Rattle.call_reasons.proofs.Reach.{page_missing, pages_so_far}
use Rattle.call_reasons.proofs.shown.reaches_pages.Goals as goal

pub returns-then-not-reaches_page : goal.returns-then-not-reaches_page
returns-then-not-reaches_page c =
    let o = live c.args.machine.now.world.state c.args.pid in
    let test : ℕ → Bool = page_in c.args.access o in
    let missing : test c.loop-number.number ≡ false = ap test (sym c.new.ensures) ∙ sym c.reaches_page.ensures ∙ c.if-not-reaches_page.true in
    sym (page_missing c.args.access o c.args.first c.args.last c.loop-number.number c.loop-number.auto.number c.loop-number-test.true missing)

pub returns : goal.returns
returns c = sym (pages_so_far c.args.access (live c.args.machine.now.world.state c.args.pid) c.args.first c.args.last
    (λ k from below. c.loop-number.invariant k from (omega (arith, below, c.loop-number-test.false))))
