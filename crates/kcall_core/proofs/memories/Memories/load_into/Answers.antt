use Rattle.kcall_core.proofs.Prelude.{ap, arith, free_of, length, refl}
use Rattle.kcall_core.proofs.memory.Changes.{vacant-below}
use Rattle.kcall_core.proofs.memory.Births.{taken-length, born}
use Rattle.kcall_core.proofs.memories.Memories.load_into.Goals as goal

pub returns-then-from-price-clause-refused : goal.returns-then-from-price-clause-refused
unfolding free_of
returns-then-from-price-clause-refused c =
    (omega (arith, c.free.ensures c.args.self.now.ram c.requires.sound.good, c.from.ensures, c.price.ensures, c.if-from-price.true), refl)

pub unreachable-requires : goal.unreachable-requires
unreachable-requires c =
    omega (arith, c.free.ensures c.args.self.now.ram c.requires.sound.good, c.from.ensures, c.if-from-price.false, ap length c.in_default.ensures.none.0)

pub unreachable-requires-in_default-build : goal.unreachable-requires-in_default-build
unreachable-requires-in_default-build c =
    omega (
      arith,
      c.free.ensures c.args.self.now.ram c.requires.sound.good,
      c.from.ensures,
      c.price.ensures,
      c.if-from-price.false,
      c.in_default-build.ensures.refused.1,
      taken-length c.in-Some.ensures.taken,
    )

pub index_mut-requires : goal.index_mut-requires
index_mut-requires c = vacant-below _ _ c.requires.vacant

pub returns-clause-loaded : goal.returns-clause-loaded
returns-clause-loaded c =
    born _ c.in-Some.trapframe c.in-Ok.space _ c.requires.sound c.requires.vacant c.in-Some.ensures.taken c.in-Ok.ensures.made c.in-Ok.ensures.image refl refl

pub returns-clause-fits : goal.returns-clause-fits
unfolding free_of
returns-clause-fits c = omega (arith, c.in-Ok.ensures.fits, taken-length c.in-Some.ensures.taken)
