use Rattle.kcall_core.proofs.Prelude.{◌&&◌, ◌∙◌, ◌≡◌, ap, arith, descriptors_at, is_none, least_below-found, least_below-next, least_below-zero, named_by, nat_lt, Some, sym}
use Rattle.kcall_core.proofs.kernel.sysfile.lowest_above.Goals as goal

pub loop-number-init : goal.loop-number-init
loop-number-init c = least_below-zero (λ d. nat_lt c.args.low d && is_none (named_by (descriptors_at c.args.table.now c.args.slot) d))

pub returns-then-is_free_above : goal.returns-then-is_free_above
returns-then-is_free_above c =
    let number : c.new.result ≡ c.loop-number.number = omega (arith, c.new.ensures, c.loop-number-test.true) in
    ap Some number ∙ sym (least_below-found _ _ _ c.loop-number.invariant (sym c.is_free_above.ensures ∙ c.if-is_free_above.true) c.loop-number-test.true)

pub loop-number-preserved : goal.loop-number-preserved
loop-number-preserved c = least_below-next _ _ c.loop-number.invariant (sym c.is_free_above.ensures ∙ c.if-is_free_above.false)
