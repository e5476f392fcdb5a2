use Rattle.std.proofs.Common.{rules, ◌≡◌, ◌∙◌, ℕ, ◌/◌, [], length}
use Rattle.std.specs.Global.{Vec}
use Rattle.std.specs.Prelude.{IfOk, true, false}
use Rattle.std.proofs.lemmas.Result.{IfOk-weaker}
use Rattle.line_tables.specs.Passes.{put_symbols}
use Rattle.line_tables.specs.declared.names.Named.{Named}
use Rattle.line_tables.proofs.Passes.{symbols-are}
use Rattle.line_tables.proofs.names.names_of.Goals as goal

pub returns : goal.returns
returns c =
    let table = c.args.symbols.now in
    let count = length table / 24 in
    let made : IfOk c.collect.result (λ (v : Vec (ℕ × Named)). v.items ≡ put_symbols true table count (put_symbols false table count [])) = search rules in
    IfOk-weaker c.collect.result _ _ (λ v is. is ∙ symbols-are table) made
