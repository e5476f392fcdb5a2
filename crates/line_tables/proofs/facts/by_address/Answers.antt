use Rattle.std.proofs.Common.{rules, ◌≡◌, ◌∙◌, ℕ, []}
use Rattle.std.specs.Global.{Vec}
use Rattle.std.specs.Prelude.{IfOk, true, false}
use Rattle.std.proofs.lemmas.Result.{IfOk-weaker}
use Rattle.line_tables.specs.Passes.{put_rows}
use Rattle.line_tables.specs.declared.fact.Fact.{Fact}
use Rattle.line_tables.proofs.Passes.{rows-are}
use Rattle.line_tables.proofs.facts.by_address.Goals as goal

pub returns : goal.returns
returns c =
    let rows = c.args.rows.now in
    let made : IfOk c.collect.result (λ (v : Vec (ℕ × Fact)). v.items ≡ put_rows false rows (put_rows true rows [])) = search rules in
    IfOk-weaker c.collect.result _ _ (λ v is. is ∙ rows-are rows) made
