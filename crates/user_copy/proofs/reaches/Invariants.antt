use Rattle.std.proofs.Common.{◌≡◌, ◌-◌, ◌≤◌, true}
use Rattle.addr_space.specs.Space.{image_of}
use Rattle.user_copy.specs.Reach.{image_seen, reaches}
use Rattle.user_copy.proofs.reaches.Given as goal

abbrev pub invariant-pages : goal.invariant-pages
invariant-pages l = (l.done ≤ l.len) × (reaches l.access (image_seen l.absent (image_of l.ram l.space)) l.address l.done ≡ true)

abbrev pub decreases-pages : goal.decreases-pages
decreases-pages l = l.len - l.done
