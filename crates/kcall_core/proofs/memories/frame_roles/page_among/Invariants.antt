use Rattle.kcall_core.proofs.Prelude.{ℕ, ◌<◌, ◌≢◌, frame_of, Some}
use Rattle.sv39_core.specs.Sv39.{entry_at}
use Rattle.kcall_core.proofs.memories.frame_roles.page_among.Given as goal

abbrev pub invariant-loop-entry : goal.invariant-loop-entry
invariant-loop-entry l = (k : ℕ) → k < l.entry → frame_of (entry_at l.ram l.table k) ≢ Some l.frame
