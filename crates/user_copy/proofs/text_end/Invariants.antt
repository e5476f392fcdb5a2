use Rattle.std.proofs.Common.{◌≡◌, ◌-◌, ◌≤◌, true}
use Rattle.xk_base.specs.declared.access.Access.TheVariants.{Load}
use Rattle.addr_space.specs.Space.{image_of}
use Rattle.user_copy.specs.Reach.{image_seen, reaches}
use Rattle.user_copy.proofs.Texts.{NoneWithin}
use Rattle.user_copy.proofs.text_end.Given as goal

abbrev pub invariant-pages : goal.invariant-pages
invariant-pages l = (l.done ≤ l.limit) × (reaches Load (image_seen l.absent (image_of l.ram l.space)) l.address l.done ≡ true)
    × NoneWithin (image_seen l.absent (image_of l.ram l.space)) l.address l.done

abbrev pub decreases-pages : goal.decreases-pages
decreases-pages l = l.limit - l.done
