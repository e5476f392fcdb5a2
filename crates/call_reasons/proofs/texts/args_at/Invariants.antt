use Rattle.std.proofs.Common.{◌+◌, ◌*◌, ◌^◌, ◌<◌}
use Rattle.xk_base.specs.declared.limits.TheConstants.{ARG_BYTES, MAXARG}
use Rattle.call_reasons.specs.Shown.{facts_in}
use Rattle.call_reasons.proofs.Reading.{Gathers}
use Rattle.call_reasons.proofs.texts.args_at.Given as goal

abbrev pub invariant-loop-done : goal.invariant-loop-done
invariant-loop-done l = Gathers (facts_in l.machine.world.state l.pid) MAXARG ARG_BYTES l.address l.done l.texts × (l.address + 8 * l.done < 2 ^ 64)
