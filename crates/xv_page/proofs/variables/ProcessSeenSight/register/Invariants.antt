use Rattle.std.proofs.Common.{◌≡◌, drop}
use Rattle.xv_page.specs.Variables.{register_among}
use Rattle.xv_page.proofs.variables.ProcessSeenSight.register.Given as goal

abbrev pub invariant-loop-known : goal.invariant-loop-known
invariant-loop-known l = register_among (drop l.known-index l.known-items) l.number ≡ register_among l.self.registers.now l.number
