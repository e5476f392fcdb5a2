use Rattle.kcall_core.proofs.Prelude.{◌∙◌, ◌≤◌, ap, grown_lazily, Image, refl, Some, subst, sym}
use Rattle.kcall_core.proofs.memory.Changes.{there-below, there-some, stands, belongs-of, image-seen, space-changes}
use Rattle.kcall_core.proofs.memory.Lists.{set-twice}
use Rattle.kcall_core.proofs.memory.Runs.{runs-on, same-translations}
use Rattle.kcall_core.proofs.memories.Memories.grow_lazily.Goals as goal

pub index_mut-requires : goal.index_mut-requires
index_mut-requires c = there-below _ _ c.requires.there

pub unreachable-requires : goal.unreachable-requires
unreachable-requires c = there-some _ _ c.index_mut.result.now c.requires.there c.index_mut.ensures.value (sym c.take.ensures.value ∙ c.in_default.is)

pub grow_lazily-requires-clause-more : goal.grow_lazily-requires-clause-more
grow_lazily-requires-clause-more c =
    let s = stands c.index_mut.result.now c.in-Some.memory c.requires.sound c.requires.there c.index_mut.ensures.value (sym c.take.ensures.value ∙ c.in-Some.is) in
    subst (λ (i : Image). i.size ≤ c.args.size) (image-seen s) c.requires.more

pub index_mut-requires-2 : goal.index_mut-requires-2
index_mut-requires-2 c = there-below _ _ c.requires.there

pub returns-clause-grown : goal.returns-clause-grown
returns-clause-grown c =
    let s = stands c.index_mut.result.now c.in-Some.memory c.requires.sound c.requires.there c.index_mut.ensures.value (sym c.take.ensures.value ∙ c.in-Some.is) in
    space-changes _ c.grow_lazily.new.self _ s (c.grow_lazily.ensures.changed c.args.self.now.pool c.args.self.now.ram (belongs-of s))
    (c.grow_lazily.ensures.image c.args.self.now.ram ∙ ap (λ i. grown_lazily i c.args.size) (sym (image-seen s)))
    (set-twice c.args.self.now.each.items c.args.slot c.take.new.self (Some record { space = c.grow_lazily.new.self; trapframe = c.in-Some.memory.trapframe })) refl

pub returns-clause-runs : goal.returns-clause-runs
returns-clause-runs c =
    let s = stands c.index_mut.result.now c.in-Some.memory c.requires.sound c.requires.there c.index_mut.ensures.value (sym c.take.ensures.value ∙ c.in-Some.is) in
    let ram = c.args.self.now.ram in
    runs-on _ c.grow_lazily.new.self s (c.grow_lazily.ensures.changed c.args.self.now.pool ram (belongs-of s)).root
    (same-translations ram ram c.in-Some.memory.space.root refl)
    (set-twice c.args.self.now.each.items c.args.slot c.take.new.self
    (Some record { space = c.grow_lazily.new.self; trapframe = c.in-Some.memory.trapframe }))
