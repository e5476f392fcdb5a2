use Rattle.std.proofs.Common.{◌≡◌, ◌∙◌, ◌++◌, ℕ, Option, string_bytes, OnOk, sym, subst}
use Rattle.call_lines.specs.Line.{text_by}
use Rattle.call_lines.proofs.line.Lines.show_text.Goals as goal

pub returns-in-None : goal.returns-in-None
returns-in-None c =
    let lines = c.args.self.now in
    let s = lines.machine.now.world.state in
    subst (λ (o : Option ℕ). OnOk c.show_address.result (string_bytes c.show_address.new.answer ≡ string_bytes c.args.answer.now ++ text_by lines.shown s lines.pid c.args.address o))
    (sym c.in-None.is ∙ c.read_at.ensures) c.show_address.ensures

pub returns-in-Some : goal.returns-in-Some
returns-in-Some c =
    let lines = c.args.self.now in
    let s = lines.machine.now.world.state in
    subst (λ (o : Option ℕ). OnOk c.show_known_text.result (string_bytes c.show_known_text.new.answer ≡ string_bytes c.args.answer.now ++ text_by lines.shown s lines.pid c.args.address o))
    (sym c.in-Some.is ∙ c.read_at.ensures) c.show_known_text.ensures
