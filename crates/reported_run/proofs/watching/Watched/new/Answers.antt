use Rattle.reported_run.specs.Known.{known_of}
use Rattle.reported_run.proofs.Learned.{known-first}
use Rattle.reported_run.proofs.watching.Watched.new.Goals as goal

pub invariant_of-result : goal.invariant_of-result
invariant_of-result g c = record { known = ∣ (λ whole. known-first c.args.session (known_of c.args.teller.ends) c.requires.fresh c.requires.unknown) ∣₁ }
