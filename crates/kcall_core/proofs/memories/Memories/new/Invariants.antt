use Rattle.kcall_core.proofs.Prelude.{◌≡◌, None, replicate}
use Rattle.kcall_core.proofs.memories.Memories.new.Given as goal

abbrev pub invariant-slots : goal.invariant-slots
invariant-slots l = l.each.items ≡ replicate l.counter None
