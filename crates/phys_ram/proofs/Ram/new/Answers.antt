use Rattle.std.proofs.Common.{ℕ, replicate}
use Rattle.std.proofs.lemmas.List.{length-replicate}
use Rattle.phys_ram.specs.Ram.{zero_frame}
use Rattle.phys_ram.proofs.Words.{same_by_zip}
use Rattle.phys_ram.proofs.Ram.new.Goals as goal

pub returns-clause-zeros : goal.returns-clause-zeros
unfolding zero_frame
returns-clause-zeros c = c.in_ok-frames.ensures.items_if_clones_equal (λ y h. same_by_zip (replicate 4096 0) y 4096 (length-replicate {A = ℕ} 4096 0) h)
