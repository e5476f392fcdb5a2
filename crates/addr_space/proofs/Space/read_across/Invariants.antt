use Rattle.addr_space.proofs.Prelude.{◌-◌, ◌≡◌, ◌≤◌, image_bytes, image_of, length, take}
use Rattle.addr_space.proofs.Space.read_across.Given as goal

abbrev pub invariant-parts : goal.invariant-parts
invariant-parts l = (l.done ≤ length l.out) × (length l.out ≡ length l.fn.out) × (take l.done l.out ≡ image_bytes (image_of l.ram l.self) l.address l.done)

abbrev pub decreases-parts : goal.decreases-parts
decreases-parts l = length l.out - l.done
