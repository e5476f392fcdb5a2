use Rattle.std.proofs.Common.{◌≡◌, ◌+◌, ◌++◌, [], ◌∷◌, ◌∙◌, sym, subst, arith, ap}
use Rattle.std.proofs.lemmas.Option.{none-some}
use Rattle.xk_base.specs.declared.limits.TheConstants.{ARG_BYTES, MAXARG}
use Rattle.exec_core.specs.ArgTexts.{push_refusal}
use Rattle.kcall_core.proofs.memory.Arguments.{push-long}
use Rattle.call_reasons.specs.Shown.{facts_in}
use Rattle.call_reasons.proofs.Reading.{Gathers, all_gathered, gathers_first, last_gathered, last_missing, long_gathered, no_text_gathered, none_gathered, one_gathered, refused_if, taken_if}
use Rattle.call_reasons.proofs.texts.args_at.Goals as goal

pub loop-done-init : goal.loop-done-init
loop-done-init c =
    let f = facts_in c.args.machine.now.world.state c.args.pid in
    (subst (λ texts. Gathers f MAXARG ARG_BYTES c.args.address 0 texts) (sym c.new-texts.ensures) (gathers_first f MAXARG ARG_BYTES c.args.address), omega (arith, c.ranges.address.fits))

pub returns-in_default-clause-none : goal.returns-in_default-clause-none
returns-in_default-clause-none c texts is =
    let f = facts_in c.args.machine.now.world.state c.args.pid in
    absurd (none-some texts (sym (none_gathered f MAXARG ARG_BYTES c.args.address c.loop-done.done c.loop-done-test.true c.loop-done.texts c.loop-done.invariant.0
    (sym c.pointer_at.ensures.value ∙ c.in_default.is)) ∙ is))

pub returns-then-pointer-eq0-clause-found : goal.returns-then-pointer-eq0-clause-found
returns-then-pointer-eq0-clause-found c =
    let f = facts_in c.args.machine.now.world.state c.args.pid in
    all_gathered f MAXARG ARG_BYTES c.args.address c.loop-done.done c.loop-done-test.true c.loop-done.texts c.loop-done.invariant.0 c.in-Some.pointer
    (sym c.pointer_at.ensures.value ∙ c.in-Some.is) c.if-pointer-eq0.true

pub returns-in_default-text_at-clause-none : goal.returns-in_default-text_at-clause-none
returns-in_default-text_at-clause-none c texts is =
    let f = facts_in c.args.machine.now.world.state c.args.pid in
    absurd (none-some texts (sym (no_text_gathered f MAXARG ARG_BYTES c.args.address c.loop-done.done c.loop-done-test.true c.loop-done.texts c.loop-done.invariant.0 c.in-Some.pointer
    (sym c.pointer_at.ensures.value ∙ c.in-Some.is) c.if-pointer-eq0.false c.in_default-text_at.ensures.none) ∙ is))

pub returns-then-is_err-clause-none : goal.returns-then-is_err-clause-none
returns-then-is_err-clause-none c texts is =
    let f = facts_in c.args.machine.now.world.state c.args.pid in
    let e = refused_if c.push.result (sym c.is_err.ensures.value ∙ c.if-is_err.true) in
    let refused = ap (push_refusal c.loop-done.texts) (sym c.as_slice.ensures.value) ∙ sym c.push.ensures.refusal ∙ e.1 in
    let long = push-long c.loop-done.texts c.in-Some-text_at.text.items e.0 (omega (arith, c.loop-done.invariant.0.1, c.loop-done-test.true)) refused in
    long_gathered f MAXARG ARG_BYTES c.args.address c.loop-done.done c.loop-done-test.true c.loop-done.texts c.loop-done.invariant.0 c.in-Some.pointer
    (sym c.pointer_at.ensures.value ∙ c.in-Some.is) c.in-Some-text_at.text.items c.if-pointer-eq0.false c.in-Some-text_at.ensures.found long texts is

pub loop-done-preserved : goal.loop-done-preserved
loop-done-preserved c =
    let f = facts_in c.args.machine.now.world.state c.args.pid in
    let added = taken_if c.push.result (sym c.is_err.ensures.value ∙ c.if-is_err.false) c.push.ensures.added in
    let same = added ∙ ap (λ text. c.loop-done.texts ++ text ∷ []) c.as_slice.ensures.value in (
      subst (λ texts. Gathers f MAXARG ARG_BYTES c.args.address (c.loop-done.done + 1) texts) (sym same)
          (one_gathered f MAXARG ARG_BYTES c.args.address c.loop-done.done c.loop-done-test.true c.loop-done.texts c.loop-done.invariant.0 c.in-Some.pointer
          (sym c.pointer_at.ensures.value ∙ c.in-Some.is) c.in-Some-text_at.text.items c.if-pointer-eq0.false c.in-Some-text_at.ensures.found),
      omega (arith, c.in-Some.ensures.low),
    )

pub overflow_add-last : goal.overflow_add-last
overflow_add-last c = omega (arith, c.loop-done.invariant.1, c.loop-done-test.false, c.loop-done.auto.done-end)

pub returns-then-not-is_null_at-clause-none : goal.returns-then-not-is_null_at-clause-none
returns-then-not-is_null_at-clause-none c texts is =
    let f = facts_in c.args.machine.now.world.state c.args.pid in
    let same : c.loop-done.done ≡ MAXARG = omega (arith, c.loop-done-test.false, c.loop-done.auto.done-end) in
    let no = sym c.is_null_at.ensures ∙ c.if-not-is_null_at.true in
    absurd (none-some texts (sym (last_missing f MAXARG ARG_BYTES c.args.address c.loop-done.done same c.loop-done.texts c.loop-done.invariant.0 no) ∙ is))

pub returns-clause-found : goal.returns-clause-found
returns-clause-found c =
    let f = facts_in c.args.machine.now.world.state c.args.pid in
    let same : c.loop-done.done ≡ MAXARG = omega (arith, c.loop-done-test.false, c.loop-done.auto.done-end) in
    last_gathered f MAXARG ARG_BYTES c.args.address c.loop-done.done same c.loop-done.texts c.loop-done.invariant.0 (sym c.is_null_at.ensures ∙ c.if-not-is_null_at.false)
