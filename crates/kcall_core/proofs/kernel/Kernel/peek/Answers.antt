use Rattle.kcall_core.proofs.Prelude.{◌∙◌, ap, byte_in, sym}
use Rattle.kcall_core.proofs.table.Observed.{byte-told, live-has}
use Rattle.kcall_core.proofs.kernel.Kernel.peek.Goals as goal

pub peek-requires-clause-there : goal.peek-requires-clause-there
peek-requires-clause-there c = live-has c.args.self.now c.requires.0 c.requires.1 c.args.pid c.in_ok-slot.slot c.in_ok-slot.ensures.found

pub returns : goal.returns
returns c = λ hart. c.peek.ensures ∙ sym (byte-told c.args.self.now hart c.requires.1.table c.args.pid c.in_ok-slot.slot c.in_ok-slot.ensures.found c.args.address)

pub returns-in_err-slot : goal.returns-in_err-slot
returns-in_err-slot c = rw c.from_residual.ensures (λ hart. sym (ap (byte_in c.args.address) (c.in_err-slot.ensures.none hart)))
