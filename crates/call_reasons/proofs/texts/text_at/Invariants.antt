use Rattle.std.proofs.Common.{◌+◌, ◌^◌, ◌<◌, ◌≤◌}
use Rattle.arrayvec.specs.ArrayVec.{array_vec_len}
use Rattle.call_reasons.specs.Shown.{facts_in}
use Rattle.call_reasons.proofs.Reading.{Reads}
use Rattle.call_reasons.proofs.texts.text_at.Given as goal

abbrev pub invariant-loop-done : goal.invariant-loop-done
invariant-loop-done l = Reads (facts_in l.machine.world.state l.pid) l.limit l.address l.done l.text.items × (array_vec_len l.text ≤ l.done) × (l.address + l.done < 2 ^ 64)
