use Rattle.std.proofs.Common.{◌++◌, ◌∙◌, ap, codes, string_bytes}
use Rattle.kernel_calls.specs.Table.{entry_of}
use Rattle.call_lines.specs.Line.{arguments_shown}
use Rattle.debug_views.proofs.Texts.{four_shown, pushed}
use Rattle.call_lines.proofs.line.Lines.show_known.Goals as goal

pub returns : goal.returns
returns c =
    let lines = c.args.self.now in
    four_shown c.push_str-3.result _ _ _ _ _ (entry_of c.args.call).name (codes "(")
    (arguments_shown lines.shown lines.machine.now.world.state lines.pid c.args.call c.args.asked.now c.args.answered) (codes ")")
    (c.in_ok-push_str.ensures.bytes ∙ ap (λ t. string_bytes c.args.answer.now ++ t) c.name.ensures) c.in_ok-push_str-2.ensures.bytes c.in_ok-show_arguments.ensures
    (pushed c.push_str-3.result _ _ _ c.push_str-3.ensures.bytes)
