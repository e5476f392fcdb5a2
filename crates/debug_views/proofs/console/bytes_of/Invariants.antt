use Rattle.std.proofs.Common.{◌≡◌, take}
use Rattle.console_core.specs.Lists.{list_of}
use Rattle.debug_views.proofs.console.bytes_of.Given as goal

abbrev pub invariant-loop-place : goal.invariant-loop-place
invariant-loop-place l = l.bytes.items ≡ take l.place (list_of l.list l.machine.world.state.console)
