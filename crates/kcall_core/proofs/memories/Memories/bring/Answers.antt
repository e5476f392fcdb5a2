use Rattle.kcall_core.proofs.Prelude.{◌∙◌, ap, arith, free_of, price, refl, Some, sym}
use Rattle.kcall_core.proofs.memory.Changes.{there-below, there-some, stands, belongs-of, image-seen, space-changes}
use Rattle.kcall_core.proofs.memory.Lists.{set-twice}
use Rattle.kcall_core.proofs.memory.Runs.{runs-on}
use Rattle.kcall_core.proofs.memory.Written.{touched-seen}
use Rattle.kcall_core.proofs.memories.Memories.bring.Goals as goal

pub index_mut-requires : goal.index_mut-requires
index_mut-requires c = there-below _ _ c.requires.there

pub unreachable-requires : goal.unreachable-requires
unreachable-requires c = there-some _ _ c.index_mut.result.now c.requires.there c.index_mut.ensures.value (sym c.take.ensures.value ∙ c.in_default.is)

pub touch-requires : goal.touch-requires
touch-requires c =
    record {
      belongs =
          belongs-of (stands c.index_mut.result.now c.in-Some.memory c.requires.sound c.requires.there c.index_mut.ensures.value
          (sym c.take.ensures.value ∙ c.in-Some.is));
    }

pub unreachable-requires-in_default-touch : goal.unreachable-requires-in_default-touch
unfolding free_of
unreachable-requires-in_default-touch c =
    let s = stands c.index_mut.result.now c.in-Some.memory c.requires.sound c.requires.there c.index_mut.ensures.value (sym c.take.ensures.value ∙ c.in-Some.is) in
    omega (arith, c.in_default-touch.ensures.refused.0, c.requires.fits, ap price (touched-seen s c.args.address c.args.len), ap price (image-seen s))

pub index_mut-requires-2 : goal.index_mut-requires-2
index_mut-requires-2 c = there-below _ _ c.requires.there

pub returns-clause-touched : goal.returns-clause-touched
returns-clause-touched c =
    let s = stands c.index_mut.result.now c.in-Some.memory c.requires.sound c.requires.there c.index_mut.ensures.value (sym c.take.ensures.value ∙ c.in-Some.is) in
    space-changes _ c.touch.new.self _ s c.in-Ok.ensures.changed (c.in-Ok.ensures.image ∙ sym (touched-seen s c.args.address c.args.len))
    (set-twice c.args.self.now.each.items c.args.slot c.take.new.self (Some record { space = c.touch.new.self; trapframe = c.in-Some.memory.trapframe })) refl

pub returns-clause-runs : goal.returns-clause-runs
returns-clause-runs c =
    let s = stands c.index_mut.result.now c.in-Some.memory c.requires.sound c.requires.there c.index_mut.ensures.value (sym c.take.ensures.value ∙ c.in-Some.is) in
    runs-on _ c.touch.new.self s c.in-Ok.ensures.changed.root c.in-Ok.ensures.translations
    (set-twice c.args.self.now.each.items c.args.slot c.take.new.self
    (Some record { space = c.touch.new.self; trapframe = c.in-Some.memory.trapframe }))
