use Rattle.addr_space.proofs.Prelude.{ℕ, ◌<◌, ◌≡◌, ◌≤◌, entry_at, frame_of, None}
use Rattle.addr_space.proofs.next_leaf.Given as goal

abbrev pub invariant-loop-index : goal.invariant-loop-index
invariant-loop-index l = (k : ℕ) → l.from ≤ k → k < l.index → frame_of (entry_at l.ram l.table k) ≡ None
