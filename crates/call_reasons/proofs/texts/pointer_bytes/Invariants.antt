use Rattle.std.proofs.Common.{◌≡◌, ◌≤◌}
use Rattle.std.specs.Prelude.{map}
use Rattle.std.specs.List.{range_with_len}
use Rattle.arrayvec.specs.ArrayVec.{array_vec_len}
use Rattle.call_reasons.specs.Shown.{facts_in}
use Rattle.call_reasons.proofs.texts.pointer_bytes.Given as goal

abbrev pub invariant-loop-place : goal.invariant-loop-place
invariant-loop-place l = (l.bytes.items ≡ map (facts_in l.machine.world.state l.pid).byte (range_with_len l.address l.place)) × (array_vec_len l.bytes ≤ l.place)
