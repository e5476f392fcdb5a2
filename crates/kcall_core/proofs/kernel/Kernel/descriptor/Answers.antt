use Rattle.kcall_core.proofs.Prelude.{◌∙◌, ap, file_of, named_by, opened, state_of, sym}
use Rattle.kcall_core.proofs.files.DescriptorsTold.{told-inside, named-open, named-below, descriptor-told, descriptor-unused}
use Rattle.kcall_core.proofs.kernel.Kernel.descriptor.Goals as goal

pub descriptors-requires : goal.descriptors-requires
descriptors-requires c = told-inside c.args.self.now c.requires.0 c.requires.1 c.args.pid c.in_ok-slot.slot c.in_ok-slot.ensures.found

pub returns-in_err-file : goal.returns-in_err-file
returns-in_err-file c =
    rw c.from_residual-in_err-file.ensures
    (λ hart. sym (descriptor-unused c.args.self.now c.requires.0 c.requires.1 c.args.pid c.in_ok-slot.slot c.in_ok-slot.ensures.found c.args.fd hart
    (ap (λ ds. named_by ds c.args.fd) (sym c.descriptors.ensures) ∙ sym c.in_err-file.ensures)))

pub kind-requires : goal.kind-requires
kind-requires c = named-open c.args.self.now c.requires.0 c.requires.1 c.args.pid c.in_ok-slot.slot c.in_ok-slot.ensures.found c.args.fd
    (named-below c.args.self.now c.requires.0 c.requires.1 c.args.pid c.in_ok-slot.slot c.in_ok-slot.ensures.found c.args.fd c.in_ok-file.file
    (ap (λ ds. named_by ds c.args.fd) (sym c.descriptors.ensures) ∙ sym c.in_ok-file.ensures)) c.in_ok-file.file
    (ap (λ ds. named_by ds c.args.fd) (sym c.descriptors.ensures) ∙ sym c.in_ok-file.ensures)

pub returns : goal.returns
returns c = λ hart. sym
    (descriptor-told c.args.self.now c.requires.0 c.requires.1 c.args.pid c.in_ok-slot.slot c.in_ok-slot.ensures.found c.args.fd
    (named-below c.args.self.now c.requires.0 c.requires.1 c.args.pid c.in_ok-slot.slot c.in_ok-slot.ensures.found c.args.fd c.in_ok-file.file
    (ap (λ ds. named_by ds c.args.fd) (sym c.descriptors.ensures) ∙ sym c.in_ok-file.ensures)) hart c.in_ok-file.file c.kind.result
    (ap (λ ds. named_by ds c.args.fd) (sym c.descriptors.ensures) ∙ sym c.in_ok-file.ensures) c.kind.ensures)

pub returns-in_err-slot : goal.returns-in_err-slot
returns-in_err-slot c = rw c.from_residual.ensures (λ hart. sym (ap (λ o. opened (state_of c.args.self.now hart) (file_of o c.args.fd)) (c.in_err-slot.ensures.none hart)))
