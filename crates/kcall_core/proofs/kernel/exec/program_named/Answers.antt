use Rattle.kcall_core.proofs.Prelude.{◌∙◌, ◌≡◌, ap, bytes_eq, find, find_from_yields_List, named_file, option_copied, option_map, Program, rules, YieldsList-from_slice}
use Rattle.kcall_core.proofs.processes.Asking.{found-among}
use Rattle.kcall_core.proofs.kernel.exec.program_named.Goals as goal

pub returns : goal.returns
returns c =
    let found : option_copied c.find.result ≡ find (λ (p : Program). bytes_eq p.name.items c.args.name.now) c.args.programs.now =
    find_from_yields_List (λ (p : Program). bytes_eq p.name.items c.args.name.now) _ _ _ c.find.ensures.ran (YieldsList-from_slice c.args.programs.now cc) (λ x b q k. search rules) in
    ap (option_map named_file) found ∙ found-among c.args.name.now c.args.programs.now
