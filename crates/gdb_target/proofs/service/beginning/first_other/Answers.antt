use Rattle.std.proofs.Common.{rules, ◌≡◌, ◌∙◌, Option, ℕ, ap}
use Rattle.std.specs.Prelude.{codes, not, unwrap_or}
use Rattle.std.specs.Prelude.{position}
use Rattle.std.proofs.lemmas.Iterator.{YieldsList-from_slice}
use Rattle.std.proofs.lemmas.Iterator.Search.{position_from_yields_List}
use Rattle.xk_base.specs.declared.program.Program.{Program}
use Rattle.gdb_target.specs.Beginning.{is_named}
use Rattle.gdb_target.proofs.service.beginning.first_other.Goals as goal

pub returns : goal.returns
returns c =
    let all = c.args.programs.now in
    let found : c.position.result ≡ position (λ (p : Program). not (is_named (codes "init") p)) all =
    position_from_yields_List (λ (p : Program). not (is_named (codes "init") p)) _ _ c.position.result c.position.ensures.ran (YieldsList-from_slice all cc) (λ x b q k. search rules) in
    c.unwrap_or.ensures ∙ ap (λ (o : Option ℕ). unwrap_or o 0) found
