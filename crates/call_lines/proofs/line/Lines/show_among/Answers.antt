use Rattle.std.proofs.Common.{◌++◌, ◌∙◌, ap, string_bytes}
use Rattle.call_lines.specs.Line.{comma_unless, text_shown}
use Rattle.debug_views.proofs.Texts.{shown_behind}
use Rattle.call_lines.proofs.line.Lines.show_among.Goals as goal

pub returns : goal.returns
returns c =
    shown_behind c.show_text.result _ _ _ (comma_unless c.args.is_first) (text_shown c.args.self.now.shown c.args.self.now.machine.now.world.state c.args.self.now.pid c.args.text)
    (c.in_ok-push_str.ensures.bytes ∙ ap (λ t. string_bytes c.args.answer.now ++ t) c.comma_unless.ensures) c.show_text.ensures
