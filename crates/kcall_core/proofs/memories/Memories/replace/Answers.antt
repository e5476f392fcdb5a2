use Rattle.kcall_core.proofs.Prelude.{[], ◌∙◌, ap, free_of, Hart, refl, Some, sym}
use Rattle.kcall_core.proofs.memory.Lists.{set-twice}
use Rattle.kcall_core.proofs.memory.Changes.{there-below, there-some, stands, same-if}
use Rattle.kcall_core.proofs.memory.Births.{untraded}
use Rattle.kcall_core.proofs.memory.Runs.{switched-runs}
use Rattle.kcall_core.proofs.memory.Replaced.{old-belongs, space-replaced}
use Rattle.kcall_core.proofs.memories.Memories.replace.Goals as goal

pub returns-in_default-clause-refused : goal.returns-in_default-clause-refused
unfolding free_of
returns-in_default-clause-refused c =
    let r = c.in_default.ensures.refused in
    (r.1, same-if c.args.self.now _ c.requires.sound (untraded _ _ _ _ [] c.requires.sound.good r.2 r.3) refl refl, refl)

pub index_mut-requires : goal.index_mut-requires
index_mut-requires c = there-below _ _ c.requires.there

pub unreachable-requires : goal.unreachable-requires
unreachable-requires c = there-some _ _ c.index_mut.result.now c.requires.there c.index_mut.ensures.value (sym c.take.ensures.value ∙ c.in_default-take.is)

pub drop_all-requires : goal.drop_all-requires
drop_all-requires c =
    let s = stands c.index_mut.result.now c.in-Some.memory c.requires.sound c.requires.there c.index_mut.ensures.value (sym c.take.ensures.value ∙ c.in-Some.is) in
    record { belongs = old-belongs s c.in-Ok.ensures.made }

pub index_mut-requires-2 : goal.index_mut-requires-2
index_mut-requires-2 c = there-below _ _ c.requires.there

pub returns-clause-replaced : goal.returns-clause-replaced
returns-clause-replaced c =
    let s = stands c.index_mut.result.now c.in-Some.memory c.requires.sound c.requires.there c.index_mut.ensures.value (sym c.take.ensures.value ∙ c.in-Some.is) in
    space-replaced s c.in-Ok.ensures.made c.drop_all.ensures.traded _ _ c.in-Ok.ensures.image refl refl
    (set-twice c.args.self.now.each.items c.args.slot c.take.new.self (Some record { space = c.in-Ok.new; trapframe = c.in-Some.memory.trapframe })) refl

pub returns-clause-fits : goal.returns-clause-fits
unfolding free_of
returns-clause-fits c = c.in-Ok.ensures.fits

pub returns-clause-runs : goal.returns-clause-runs
returns-clause-runs c =
    let s = stands c.index_mut.result.now c.in-Some.memory c.requires.sound c.requires.there c.index_mut.ensures.value (sym c.take.ensures.value ∙ c.in-Some.is) in
    switched-runs _ c.in-Ok.new s (set-twice c.args.self.now.each.items c.args.slot c.take.new.self (Some record { space = c.in-Ok.new; trapframe = c.in-Some.memory.trapframe })) c.switch.new.self
    (ap (λ (h : Hart). h.root) c.switch.ensures.value ∙ ap Some c.root.ensures) (c.switch.ensures.fits c.drop_all.new.ram)
