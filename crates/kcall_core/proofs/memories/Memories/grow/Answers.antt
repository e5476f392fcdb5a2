use Rattle.kcall_core.proofs.Prelude.{[], ◌+◌, ◌<◌, ◌∙◌, ◌≤◌, ap, free_in, free_of, grown, Image, length, List, Memory, None, Option, price, refl, set, Some, Space, subst, sym}
use Rattle.kcall_core.proofs.memory.Lists.{set-twice, set-read}
use Rattle.kcall_core.proofs.memory.Changes.{there-below, there-some, stands, belongs-of, image-seen, space-changes, same-if}
use Rattle.kcall_core.proofs.memory.Runs.{grown-runs}
use Rattle.kcall_core.proofs.memory.Births.{done-both, fails, untraded}
use Rattle.kcall_core.proofs.memories.Memories.grow.Goals as goal

pub index_mut-requires : goal.index_mut-requires
index_mut-requires c = there-below _ _ c.requires.there

pub unreachable-requires : goal.unreachable-requires
unreachable-requires c = there-some _ _ c.index_mut.result.now c.requires.there c.index_mut.ensures.value (sym c.take.ensures.value ∙ c.in_default.is)

pub grow-answer-requires-clause-belongs : goal.grow-answer-requires-clause-belongs
grow-answer-requires-clause-belongs c =
    belongs-of (stands c.index_mut.result.now c.in-Some.memory c.requires.sound c.requires.there c.index_mut.ensures.value
    (sym c.take.ensures.value ∙ c.in-Some.is))

pub grow-answer-requires-clause-more : goal.grow-answer-requires-clause-more
grow-answer-requires-clause-more c =
    let s = stands c.index_mut.result.now c.in-Some.memory c.requires.sound c.requires.there c.index_mut.ensures.value (sym c.take.ensures.value ∙ c.in-Some.is) in
    subst (λ (i : Image). i.size ≤ c.args.size) (image-seen s) c.requires.more

pub index_mut-requires-2 : goal.index_mut-requires-2
index_mut-requires-2 c = there-below _ _ c.requires.there

pub returns-clause-grown : goal.returns-clause-grown
returns-clause-grown c =
    let s = stands c.index_mut.result.now c.in-Some.memory c.requires.sound c.requires.there c.index_mut.ensures.value (sym c.take.ensures.value ∙ c.in-Some.is) in
    done-both c.grow-answer.result c.grow-answer.ensures.changed c.grow-answer.ensures.image (λ changed image.
    space-changes _ c.grow-answer.new.self _ s changed (image ∙ ap (λ i. grown i c.args.size c.args.perm) (sym (image-seen s)))
    (set-twice c.args.self.now.each.items c.args.slot c.take.new.self (Some record { space = c.grow-answer.new.self; trapframe = c.in-Some.memory.trapframe })) refl)

pub returns-clause-refused : goal.returns-clause-refused
unfolding free_of
returns-clause-refused c =
    let s = stands c.index_mut.result.now c.in-Some.memory c.requires.sound c.requires.there c.index_mut.ensures.value (sym c.take.ensures.value ∙ c.in-Some.is) in
    fails c.grow-answer.result c.grow-answer.ensures.refused (λ h.
    let items = c.args.self.now.each.items in
    let put : Space → List (Option Memory) = λ x. set items c.args.slot (Some record { space = x; trapframe = c.in-Some.memory.trapframe }) in (
      subst (λ i. price i + length (free_in c.args.self.now.pool c.args.self.now.ram) < price (grown i c.args.size c.args.perm)) (sym (image-seen s)) h.0,
      same-if c.args.self.now _ c.requires.sound (untraded _ _ _ _ [] c.requires.sound.good h.1.same_pool h.1.same_ram)
          (set-twice items c.args.slot c.take.new.self (Some record { space = c.grow-answer.new.self; trapframe = c.in-Some.memory.trapframe })
          ∙ ap put h.1.same_space ∙ set-read items c.args.slot (Some c.in-Some.memory) None s.inside s.is) refl,
    ))

pub returns-clause-runs : goal.returns-clause-runs
returns-clause-runs c hart r =
    let s = stands c.index_mut.result.now c.in-Some.memory c.requires.sound c.requires.there c.index_mut.ensures.value (sym c.take.ensures.value ∙ c.in-Some.is) in
    grown-runs _ _ c.grow-answer.new.self s c.grow-answer.result c.grow-answer.ensures.changed c.grow-answer.ensures.translations c.grow-answer.ensures.refused
    (set-twice c.args.self.now.each.items c.args.slot c.take.new.self (Some record { space = c.grow-answer.new.self; trapframe = c.in-Some.memory.trapframe })) hart r
