use Rattle.std.proofs.Common.{◌≡◌, ◌∙◌, ◌++◌, Bool, if◌then◌else◌, string_bytes, OnOk, sym, subst}
use Rattle.debug_words.specs.Texts.{hexadecimal}
use Rattle.call_lines.specs.Line.{ints_stored}
use Rattle.call_lines.proofs.line.Lines.show_pair.Goals as goal

pub returns-then-is_zero : goal.returns-then-is_zero
returns-then-is_zero c =
    let lines = c.args.self.now in
    let old = string_bytes c.args.answer.now in
    let stored = ints_stored lines.machine.now.world.state lines.pid c.args.address in
    subst (λ (b : Bool). OnOk c.show_stored_ints.result (string_bytes c.show_stored_ints.new.answer ≡ old ++ (if b then stored else hexadecimal c.args.address)))
    (sym c.if-is_zero.true ∙ c.is_zero.ensures) c.show_stored_ints.ensures

pub returns-else-is_zero : goal.returns-else-is_zero
returns-else-is_zero c =
    let lines = c.args.self.now in
    let old = string_bytes c.args.answer.now in
    let stored = ints_stored lines.machine.now.world.state lines.pid c.args.address in
    subst (λ (b : Bool). OnOk c.show_address.result (string_bytes c.show_address.new.answer ≡ old ++ (if b then stored else hexadecimal c.args.address)))
    (sym c.if-is_zero.false ∙ c.is_zero.ensures) c.show_address.ensures
