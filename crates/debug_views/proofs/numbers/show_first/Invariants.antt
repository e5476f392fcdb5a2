use Rattle.std.proofs.Common.{◌≡◌, ◌++◌, string_bytes}
use Rattle.debug_views.specs.NumberText.{first_numbers}
use Rattle.debug_views.proofs.numbers.show_first.Given as goal

abbrev pub invariant-loop-place : goal.invariant-loop-place
invariant-loop-place l = string_bytes l.answer ≡ string_bytes l.fn.answer ++ first_numbers l.size l.machine.world.state l.pid l.address l.place
