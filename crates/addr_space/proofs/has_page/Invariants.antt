use Rattle.addr_space.proofs.Prelude.{ℕ, ◌%◌, ◌+◌, ◌-◌, ◌<◌, ◌≡◌, entry_at, frame_of, None}
use Rattle.addr_space.proofs.has_page.Given as goal

abbrev pub invariant-loop-back : goal.invariant-loop-back
invariant-loop-back l = (k : ℕ) → k < l.back → frame_of (entry_at l.ram l.table ((l.from + 513 - k) % 512)) ≡ None
