use Rattle.kcall_core.proofs.Prelude.{◌∙◌, ap, named_by, sym}
use Rattle.kcall_core.proofs.table.States.{slot-inside}
use Rattle.kcall_core.proofs.files.AllClosed.{unused-closed}
use Rattle.kcall_core.proofs.kernel.Kernel.close_if_used.Goals as goal

pub descriptors-requires : goal.descriptors-requires
descriptors-requires c =
    let closing = c.requires.closing.1 in
    let now = closing.sound.current c.args.slot c.requires.slot in
    slot-inside c.args.self.now c.requires.closing.0 closing.sound c.args.slot now.process now.is

pub returns-in_default : goal.returns-in_default
returns-in_default c = λ hart closing. unused-closed closing c.requires.slot (ap (λ ds. named_by ds c.args.fd) (sym c.descriptors.ensures) ∙ sym c.get.ensures ∙ c.in_default.is)
