use Rattle.std.proofs.Common.{◌≡◌, ◌∙◌, ℕ, Bool, cond, ap, subst, arith}
use Rattle.xk_base.specs.Words.{count_below}
use Rattle.xk_base.specs.declared.limits.TheConstants.{NOFILE}
use Rattle.call_reasons.specs.Shown.{is_free_in}
use Rattle.call_reasons.proofs.Counts.{none_counted, one_more_counted}
use Rattle.call_reasons.proofs.shown.free_descriptors.Goals as goal

pub loop-number-init : goal.loop-number-init
loop-number-init c = (none_counted _, omega arith)

pub loop-number-preserved : goal.loop-number-preserved
loop-number-preserved c =
    let test : ℕ → Bool = is_free_in c.args.machine.now.world.state c.args.pid in (
      one_more_counted test c.loop-number.number c.loop-number.free c.one_if-free.result c.loop-number.invariant.0
          (c.one_if-free.ensures.value ∙ ap (λ (b : Bool). cond b 1 0) c.is_free.ensures),
      omega (arith, c.loop-number.invariant.1, c.one_if-free.ensures.few),
    )

pub returns : goal.returns
returns c =
    let test : ℕ → Bool = is_free_in c.args.machine.now.world.state c.args.pid in
    let same : c.loop-number.number ≡ NOFILE = omega (arith, c.loop-number-test.false, c.loop-number.auto.number-end) in
    subst (λ (n : ℕ). c.loop-number.free ≡ count_below test n) same c.loop-number.invariant.0
