use Rattle.addr_space.proofs.Prelude.{◌-◌, ◌≡◌, ◌≤◌, Belongs, Changed, image_of, length, Pool, take, write_image, WrittenInPlace}
use Rattle.addr_space.proofs.Space.write_across.Given as goal

abbrev pub invariant-parts : goal.invariant-parts
invariant-parts l = (l.done ≤ length l.bytes) × (image_of l.ram l.self ≡ write_image (image_of l.fn.ram l.self) l.address (take l.done l.bytes)) × WrittenInPlace l.fn.ram l.ram l.self
    × ((pool : Pool) → Belongs pool l.fn.ram l.self → Changed pool l.fn.ram l.self pool l.ram l.self)

abbrev pub decreases-parts : goal.decreases-parts
decreases-parts l = length l.bytes - l.done
