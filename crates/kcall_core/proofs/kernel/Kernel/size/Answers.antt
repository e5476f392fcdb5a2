use Rattle.kcall_core.proofs.Prelude.{◌∙◌, ap, Live, option_map, Some, sym}
use Rattle.kcall_core.proofs.table.Observed.{size-told, live-has}
use Rattle.kcall_core.proofs.kernel.Kernel.size.Goals as goal

pub size-requires-clause-there : goal.size-requires-clause-there
size-requires-clause-there c = live-has c.args.self.now c.requires.0 c.requires.1 c.args.pid c.in_ok-slot.slot c.in_ok-slot.ensures.found

pub returns : goal.returns
returns c = λ hart. ap Some c.size.ensures.value ∙ sym (size-told c.args.self.now hart c.requires.1.table c.args.pid c.in_ok-slot.slot c.in_ok-slot.ensures.found)

pub returns-in_err-slot : goal.returns-in_err-slot
returns-in_err-slot c = rw c.from_residual.ensures (λ hart. sym (ap (option_map (λ (l : Live). l.image.size)) (c.in_err-slot.ensures.none hart)))
