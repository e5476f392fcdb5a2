use Rattle.std.proofs.Common.{◌≡◌, ◌∙◌, sym, arith}
use Rattle.xk_base.specs.declared.limits.TheConstants.{ARG_BYTES, MAXARG}
use Rattle.call_reasons.specs.Shown.{facts_in}
use Rattle.call_reasons.proofs.Reading.{all_listed, lists_first, no_pointer, no_text, null_pointer, one_text}
use Rattle.call_reasons.proofs.texts.has_texts.Goals as goal

pub loop-done-init : goal.loop-done-init
loop-done-init c = (lists_first _ _ _ _, omega (arith, c.ranges.address.fits))

pub returns-in_default : goal.returns-in_default
returns-in_default c =
    let f = facts_in c.args.machine.now.world.state c.args.pid in
    sym (no_pointer f MAXARG ARG_BYTES c.args.address c.loop-done.done c.loop-done-test.true c.loop-done.invariant.0 (sym c.pointer_at.ensures.value ∙ c.in_default.is))

pub returns-then-pointer-eq0 : goal.returns-then-pointer-eq0
returns-then-pointer-eq0 c =
    let f = facts_in c.args.machine.now.world.state c.args.pid in
    sym (null_pointer f MAXARG ARG_BYTES c.args.address c.loop-done.done c.loop-done-test.true c.loop-done.invariant.0 c.in-Some.pointer
    (sym c.pointer_at.ensures.value ∙ c.in-Some.is) c.if-pointer-eq0.true)

pub returns-then-not-has_text : goal.returns-then-not-has_text
returns-then-not-has_text c =
    let f = facts_in c.args.machine.now.world.state c.args.pid in
    sym (no_text f MAXARG ARG_BYTES c.args.address c.loop-done.done c.loop-done-test.true c.loop-done.invariant.0 c.in-Some.pointer
    (sym c.pointer_at.ensures.value ∙ c.in-Some.is) c.if-pointer-eq0.false (sym c.has_text.ensures ∙ c.if-not-has_text.true))

pub loop-done-preserved : goal.loop-done-preserved
loop-done-preserved c =
    let f = facts_in c.args.machine.now.world.state c.args.pid in (
      one_text f MAXARG ARG_BYTES c.args.address c.loop-done.done c.loop-done-test.true c.loop-done.invariant.0 c.in-Some.pointer
          (sym c.pointer_at.ensures.value ∙ c.in-Some.is) c.if-pointer-eq0.false (sym c.has_text.ensures ∙ c.if-not-has_text.false),
      omega (arith, c.in-Some.ensures.low),
    )

pub overflow_add-last : goal.overflow_add-last
overflow_add-last c = omega (arith, c.loop-done.invariant.1, c.loop-done-test.false, c.loop-done.auto.done-end)

pub returns : goal.returns
returns c =
    let f = facts_in c.args.machine.now.world.state c.args.pid in
    let same : c.loop-done.done ≡ MAXARG = omega (arith, c.loop-done-test.false, c.loop-done.auto.done-end) in
    c.is_null_at.ensures ∙ sym (all_listed f MAXARG ARG_BYTES c.args.address c.loop-done.done same c.loop-done.invariant.0)
