use Rattle.std.proofs.Common.{rules, ◌≡◌, ◌-◌, None, arith, true, sym, ap, ◌∙◌, subst}
use Rattle.xk_base.specs.Words.{least_below}
use Rattle.xk_base.specs.ProgramFile.{is_refused, unless_refused, segments_from}
use Rattle.elf_image.proofs.Fitting.{fit_if_none}
use Rattle.xk_base.proofs.Least.{least_below-found, least_below-next, least_below-zero}
use Rattle.elf_image.proofs.Walks.{kept_if_some, refused_if_none}
use Rattle.elf_image.proofs.segments.Goals as goal

pub loop-i-init : goal.loop-i-init
loop-i-init c = record {
  none_refused = least_below-zero (is_refused c.args.file.now c.args.header.now);
  ends = search rules;
  in_memory = search rules;
  in_file = search rules;
}

pub loop-i-preserved : goal.loop-i-preserved
loop-i-preserved c = record {
  none_refused =
      least_below-next _ _ c.loop-i.invariant.none_refused
      (kept_if_some _ _ _ _ _ _ c.loop-i.invariant.ends (sym c.tested_header.ensures.value ∙ c.in-Some.is));
  ends = search rules;
  in_memory = search rules;
  in_file = search rules;
}

pub returns-in_default-clause-listed : goal.returns-in_default-clause-listed
returns-in_default-clause-listed c =
    let refused : is_refused c.args.file.now c.args.header.now c.loop-i.i ≡ true =
    refused_if_none _ _ _ _ _ c.loop-i.invariant.ends (sym c.tested_header.ensures.value ∙ c.in_default.is) in
    sym (ap (λ o. unless_refused o (segments_from c.args.file.now c.args.header.now 0 c.args.header.now.phnum))
    (least_below-found _ _ c.loop-i.i c.loop-i.invariant.none_refused refused c.loop-i-test.true))

pub returns-clause-fit : goal.returns-clause-fit
returns-clause-fit c =
    let at_end : c.loop-i.i ≡ c.args.header.now.phnum - 0 = omega arith in
    let none : least_below (is_refused c.args.file.now c.args.header.now) (c.args.header.now.phnum - 0) ≡ None =
    subst (λ n. least_below (is_refused c.args.file.now c.args.header.now) n ≡ None) at_end c.loop-i.invariant.none_refused in
    fit_if_none c.args.file.now c.args.header.now (c.args.header.now.phnum - 0) none
