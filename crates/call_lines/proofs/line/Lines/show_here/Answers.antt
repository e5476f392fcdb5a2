use Rattle.std.proofs.Common.{◌++◌, ◌∙◌, ap, string_bytes}
use Rattle.call_lines.proofs.Reading.{here_written}
use Rattle.call_lines.proofs.line.Lines.show_here.Goals as goal

pub returns : goal.returns
returns c =
    let lines = c.args.self.now in
    here_written c.show_argument.result lines.shown lines.machine.now.world.state lines.pid c.args.call c.args.asked.now c.args.answered c.args.place c.args.argument c.kind.result c.value_at.result
    c.buffer_length.result _ _ _ c.kind.ensures c.value_at.ensures c.buffer_length.ensures (c.in_ok-push_str.ensures.bytes ∙ ap (λ t. string_bytes c.args.answer.now ++ t) c.comma_unless.ensures)
    c.show_argument.ensures
