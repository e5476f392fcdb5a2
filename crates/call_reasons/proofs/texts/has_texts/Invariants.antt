use Rattle.std.proofs.Common.{◌+◌, ◌*◌, ◌^◌, ◌<◌}
use Rattle.xk_base.specs.declared.limits.TheConstants.{ARG_BYTES, MAXARG}
use Rattle.call_reasons.specs.Shown.{facts_in}
use Rattle.call_reasons.proofs.Reading.{Lists}
use Rattle.call_reasons.proofs.texts.has_texts.Given as goal

abbrev pub invariant-loop-done : goal.invariant-loop-done
invariant-loop-done l = Lists (facts_in l.machine.world.state l.pid) MAXARG ARG_BYTES l.address l.done × (l.address + 8 * l.done < 2 ^ 64)
