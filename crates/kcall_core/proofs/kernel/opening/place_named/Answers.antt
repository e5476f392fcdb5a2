use Rattle.kcall_core.proofs.Prelude.{◌∙◌, ◌≡◌, bytes_eq, position_from, position_from-zero, position_from_yields_List, Program, rules, YieldsList-from_slice}
use Rattle.kcall_core.proofs.files.OpenRows.{place-among}
use Rattle.kcall_core.proofs.kernel.opening.place_named.Goals as goal

pub returns : goal.returns
returns c =
    let found : c.position.result ≡ position_from (λ (p : Program). bytes_eq p.name.items c.args.name.now) 0 c.args.programs.now =
    position_from_yields_List (λ (p : Program). bytes_eq p.name.items c.args.name.now) _ _ c.position.result c.position.ensures.ran
    (YieldsList-from_slice c.args.programs.now cc) (λ x b q k. search rules)
    ∙ position_from-zero (λ (p : Program). bytes_eq p.name.items c.args.name.now) c.args.programs.now in
    found ∙ place-among c.args.name.now 0 c.args.programs.now
