use Rattle.std.proofs.Common.{◌≡◌, ◌-◌, ◌≤◌, take}
use Rattle.xk_base.specs.Bytes.{write_image}
use Rattle.frame_list.specs.declared.Pool.{Pool}
use Rattle.addr_space.specs.Space.{image_of, Belongs, Changed}
use Rattle.addr_space.specs.InPlace.{WrittenInPlace}
use Rattle.pipe_core.specs.Pipe.{pipe_in}
use Rattle.user_copy.proofs.fast.pipes.copy_from_pipe.Given as goal

abbrev pub invariant-parts : goal.invariant-parts
invariant-parts l = (l.done ≤ l.size) × (image_of l.ram l.space ≡ write_image (image_of l.fn.ram l.space) l.address
    (take l.done (pipe_in l.fn.ram l.pipe).bytes)) × WrittenInPlace l.fn.ram l.ram l.space
    × ((pool : Pool) → Belongs pool l.fn.ram l.space → Changed pool l.fn.ram l.space pool l.ram l.space)

abbrev pub decreases-parts : goal.decreases-parts
decreases-parts l = l.size - l.done
