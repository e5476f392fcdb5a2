use Rattle.std.proofs.Common.{w64}
use Rattle.std.proofs.lemmas.Int.{to_z-of_z}
use Rattle.call_lines.proofs.Reading.{answer_written}
use Rattle.call_lines.proofs.line.show_answer.Goals as goal

pub returns : goal.returns
returns c =
    answer_written c.show_reason.result c.args.machine.now.world.state c.args.pid c.args.asked.now c.args.value _ c.call_of-call.result _ _ _ _ _ (to_z-of_z w64 c.args.value c.ranges.value)
    c.call_of-call.ensures c.in_ok-push_str.ensures.bytes c.in_ok-show_value.ensures c.in_ok-show_stored.ensures c.show_reason.ensures
