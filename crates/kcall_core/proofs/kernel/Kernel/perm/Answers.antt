use Rattle.kcall_core.proofs.Prelude.{◌∙◌, ap, rights_in, sym}
use Rattle.kcall_core.proofs.table.Observed.{rights-told, live-has}
use Rattle.kcall_core.proofs.kernel.Kernel.perm.Goals as goal

pub perm-requires-clause-there : goal.perm-requires-clause-there
perm-requires-clause-there c = live-has c.args.self.now c.requires.0 c.requires.1 c.args.pid c.in_ok-slot.slot c.in_ok-slot.ensures.found

pub returns : goal.returns
returns c = λ hart. c.perm.ensures ∙ sym (rights-told c.args.self.now hart c.requires.1.table c.args.pid c.in_ok-slot.slot c.in_ok-slot.ensures.found c.args.vpn)

pub returns-in_err-slot : goal.returns-in_err-slot
returns-in_err-slot c = rw c.from_residual.ensures (λ hart. sym (ap (rights_in c.args.vpn) (c.in_err-slot.ensures.none hart)))
