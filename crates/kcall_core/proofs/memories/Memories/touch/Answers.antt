use Rattle.kcall_core.proofs.Prelude.{ap, arith, free_of, price, refl}
use Rattle.kcall_core.proofs.memory.Changes.{image-seen}
use Rattle.kcall_core.proofs.memory.Written.{whole-of, touched-seen}
use Rattle.kcall_core.proofs.memories.Memories.touch.Goals as goal

pub touch_price-price-requires : goal.touch_price-price-requires
touch_price-price-requires c = record { whole = whole-of c.memory.ensures }

pub returns-then-from-clause-refused : goal.returns-then-from-clause-refused
unfolding free_of
returns-then-from-clause-refused c short =
    let s = c.memory.ensures in (
      omega (
        arith,
        c.if-from.true,
        c.from.ensures,
        c.from-2.ensures,
        c.from-3.ensures,
        c.free.ensures c.args.self.now.ram c.requires.sound.good,
        c.touch_price-price.ensures,
        ap price (touched-seen s c.args.address c.args.len),
        ap price (image-seen s),
      ),
      refl,
    )

pub bring-requires-clause-fits : goal.bring-requires-clause-fits
unfolding free_of
bring-requires-clause-fits c =
    let s = c.memory.ensures in
    omega (
      arith,
      c.if-from.false,
      c.from.ensures,
      c.from-2.ensures,
      c.from-3.ensures,
      c.free.ensures c.args.self.now.ram c.requires.sound.good,
      c.touch_price-price.ensures,
      ap price (touched-seen s c.args.address c.args.len),
      ap price (image-seen s),
    )

pub returns-clause-fits : goal.returns-clause-fits
unfolding free_of
returns-clause-fits c came =
    let s = c.memory.ensures in
    omega (
      arith,
      c.if-from.false,
      c.from.ensures,
      c.from-2.ensures,
      c.from-3.ensures,
      c.free.ensures c.args.self.now.ram c.requires.sound.good,
      c.touch_price-price.ensures,
      ap price (touched-seen s c.args.address c.args.len),
      ap price (image-seen s),
    )
