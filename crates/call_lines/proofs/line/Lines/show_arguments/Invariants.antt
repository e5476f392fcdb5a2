use Rattle.std.proofs.Common.{◌≡◌, ◌++◌, string_bytes, flat_map}
use Rattle.std.specs.List.{range_with_len}
use Rattle.call_lines.specs.Line.{argument_at}
use Rattle.call_lines.proofs.line.Lines.show_arguments.Given as goal

abbrev pub invariant-loop-place : goal.invariant-loop-place
invariant-loop-place l =
    string_bytes l.answer ≡ string_bytes l.fn.answer ++ flat_map (argument_at l.self.shown l.self.machine.now.world.state l.self.pid l.call l.asked l.answered) (range_with_len 0 l.place)
