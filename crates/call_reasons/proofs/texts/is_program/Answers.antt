use Rattle.std.proofs.Common.{◌≡◌, ◌∙◌, ap, rules}
use Rattle.std.specs.Prelude.{bytes_eq, is_some}
use Rattle.std.specs.List.{list_any}
use Rattle.std.proofs.lemmas.Iterator.{YieldsList-from_slice}
use Rattle.std.proofs.lemmas.Iterator.Search.{any_from_yields_List}
use Rattle.xk_base.specs.declared.program.Program.{Program}
use Rattle.kernel_spec.specs.views.Programs.{program_named}
use Rattle.call_reasons.proofs.Names.{one_named}
use Rattle.call_reasons.proofs.texts.is_program.Goals as goal

pub returns : goal.returns
returns c =
    let found : c.any.result ≡ list_any (λ (p : Program). bytes_eq p.name.items c.args.name.now) c.programs.result.now =
    any_from_yields_List (λ (p : Program). bytes_eq p.name.items c.args.name.now) _ _ _ c.any.ensures.ran (YieldsList-from_slice c.programs.result.now cc) (λ x b q k. search rules) in
    found ∙ one_named c.args.name.now c.programs.result.now ∙ ap (λ programs. is_some (program_named c.args.name.now programs)) c.programs.ensures
