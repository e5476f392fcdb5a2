use Rattle.kcall_core.proofs.Prelude.{◌∙◌, ◌≡◌, arith, first_bad, is_bad_program, least_below, least_below-found, least_below-next, least_below-zero, length, length-map, map, named_file, None, subst}
use Rattle.kcall_core.proofs.Prelude.{sym}
use Rattle.kcall_core.proofs.kernel.program_list.first_refused.Goals as goal

pub loop-i-init : goal.loop-i-init
loop-i-init c = least_below-zero (is_bad_program (map named_file c.args.programs.now))

pub returns-then-is_refused : goal.returns-then-is_refused
unfolding first_bad
returns-then-is_refused c =
    sym (least_below-found _ _ _ c.loop-i.invariant (sym c.is_refused.ensures ∙ c.if-is_refused.true) (omega (arith, c.loop-i-test.true, length-map c.args.programs.now named_file)))

pub loop-i-preserved : goal.loop-i-preserved
loop-i-preserved c = least_below-next _ _ c.loop-i.invariant (sym c.is_refused.ensures ∙ c.if-is_refused.false)

pub returns : goal.returns
unfolding first_bad
returns c =
    let at_end : c.loop-i.i ≡ length (map named_file c.args.programs.now) = omega (arith, length-map c.args.programs.now named_file) in
    sym (subst (λ n. least_below (is_bad_program (map named_file c.args.programs.now)) n ≡ None) at_end c.loop-i.invariant)
