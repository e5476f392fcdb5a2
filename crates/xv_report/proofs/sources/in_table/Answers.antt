use Rattle.std.proofs.Common.{ℕ, List, Option, Some, option_map, refl, subst, Bor}
use Rattle.xv_report.specs.Locations.{IsTextOf}
use Rattle.xv_report.proofs.sources.in_table.Goals as goal

pub returns : goal.returns
returns c =
    let told = subst (λ (r : Option (Bor (List ℕ))). IsTextOf c.args.lines.now c.args.place c.args.address (option_map (λ t. t.now) r)) c.in_ok-text.was c.text.ensures in
    (Some c.in_ok-text.text.now, told, refl)
