use Rattle.std.proofs.Common.{◌≡◌, ◌∙◌, ap, rules}
use Rattle.std.specs.Prelude.{bytes_eq, find, option_copied, option_map}
use Rattle.std.proofs.lemmas.Iterator.{YieldsList-from_slice}
use Rattle.std.proofs.lemmas.Iterator.Search.{find_from_yields_List}
use Rattle.xk_base.specs.declared.program.Program.{Program}
use Rattle.kernel_spec.specs.views.Programs.{program_named}
use Rattle.kernel_spec.specs.views.State.{named_file}
use Rattle.kcall_core.proofs.processes.Asking.{found-among}
use Rattle.call_reasons.proofs.texts.program_named.Goals as goal

pub returns : goal.returns
returns c =
    let found : option_copied c.find.result ≡ find (λ (p : Program). bytes_eq p.name.items c.args.name.now) c.programs.result.now =
    find_from_yields_List (λ (p : Program). bytes_eq p.name.items c.args.name.now) _ _ _ c.find.ensures.ran (YieldsList-from_slice c.programs.result.now cc) (λ x b q k. search rules) in
    ap (option_map named_file) found ∙ found-among c.args.name.now c.programs.result.now ∙ ap (program_named c.args.name.now) c.programs.ensures
