use Rattle.kcall_core.proofs.Prelude.{◌∙◌, ap, named_by, sym}
use Rattle.kcall_core.proofs.kernel.Kernel.hand_down.Goals as goal

pub share-requires-clause-may : goal.share-requires-clause-may
share-requires-clause-may c = c.requires.may c.in-Some.file (ap (λ ds. named_by ds c.args.fd) (sym c.descriptors.ensures) ∙ sym c.get.ensures ∙ c.in-Some.is)
