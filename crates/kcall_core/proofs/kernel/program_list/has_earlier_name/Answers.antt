use Rattle.kcall_core.proofs.Prelude.{◌∙◌, ap, is_some, least_below-found, least_below-next, least_below-zero, map, named_file, same_name, sym}
use Rattle.kcall_core.proofs.kernel.program_list.has_earlier_name.Goals as goal

pub loop-k-init : goal.loop-k-init
loop-k-init c = least_below-zero (same_name (map named_file c.args.programs.now) c.args.i)

pub returns-then-have_one_name : goal.returns-then-have_one_name
returns-then-have_one_name c =
    sym (ap is_some (least_below-found _ _ _ c.loop-k.invariant (sym c.have_one_name.ensures ∙ c.if-have_one_name.true) c.loop-k-test.true))

pub loop-k-preserved : goal.loop-k-preserved
loop-k-preserved c = least_below-next _ _ c.loop-k.invariant (sym c.have_one_name.ensures ∙ c.if-have_one_name.false)
