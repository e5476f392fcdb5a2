use Rattle.std.proofs.Common.{rules, ◌≡◌, ◌∙◌, Option, ap, option_map, sym, Bor, ℕ, List}
use Rattle.std.specs.Prelude.{position}
use Rattle.std.proofs.lemmas.Iterator.{YieldsList-from_slice}
use Rattle.std.proofs.lemmas.Iterator.Search.{position_from_yields_List}
use Rattle.gdb_target.specs.Beginning.{is_named, known}
use Rattle.gdb_target.proofs.service.beginning.chosen.Goals as goal

pub returns-in-Some : goal.returns-in-Some
returns-in-Some c =
    let all = c.args.programs.now in
    let found : c.position.result ≡ position (is_named c.in-Some.name.now) all =
    position_from_yields_List (is_named c.in-Some.name.now) _ _ c.position.result c.position.ensures.ran (YieldsList-from_slice all cc) (λ x b q k. search rules) in
    found ∙ sym (ap (λ (n : Option (Bor (List ℕ))). known all (option_map (λ m. m.now) n)) c.in-Some.is)
