use Rattle.std.proofs.Common.{◌∙◌, IfOk, refl, subst, sym}
use Rattle.std.proofs.lemmas.Result.{IfOk-weaker}
use Rattle.gdb_target.specs.Chosen.{IsInsertedIf}
use Rattle.gdb_target.specs.declared.target.Target.{Target}
use Rattle.gdb_target.proofs.target.Target.insert.Goals as goal

pub returns-then-is_too_long-clause-chosen : goal.returns-then-is_too_long-clause-chosen
returns-then-is_too_long-clause-chosen c =
    let t = c.args.self.now in
    subst (λ b. IfOk c.refusal.result (λ text. IsInsertedIf b c.args.point c.args.address c.args.length t t text.items)) (sym c.if-is_too_long.true ∙ c.is_too_long.ensures)
    (IfOk-weaker c.refusal.result _ _ (λ x e. (refl, e)) c.refusal.ensures)

pub returns-clause-chosen : goal.returns-clause-chosen
returns-clause-chosen c =
    let t = c.args.self.now in
    let new : Target = record t { points = c.insert.new.self } in
    subst (λ b. IfOk c.text.result (λ text. IsInsertedIf b c.args.point c.args.address c.args.length t new text.items)) (sym c.if-is_too_long.false ∙ c.is_too_long.ensures)
    (IfOk-weaker c.text.result _ _ (λ x e. (refl, c.in_ok-insert.ensures, e)) c.text.ensures)
