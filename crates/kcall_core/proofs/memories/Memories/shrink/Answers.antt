use Rattle.kcall_core.proofs.Prelude.{ℕ, ◌*◌, ◌∙◌, ◌≡◌, ◌≤◌, ap, arith, Fits, FitsBut, Image, is_between, Memory, None, Option, refl, shrunk, Some, subst, sym, WalksStayBelow}
use Rattle.kcall_core.proofs.memory.Lists.{set-twice}
use Rattle.kcall_core.proofs.memory.Runs.{runs-root, forgot-runs}
use Rattle.kcall_core.proofs.memory.Changes.{there-below, there-some, stands, belongs-of, image-seen, space-changes}
use Rattle.kcall_core.proofs.memories.Memories.shrink.Goals as goal

-- the end of the space in a slot
abbrev end_of : Option Memory → ℕ
end_of None = 0
end_of (Some m) = m.space.end

pub index_mut-requires : goal.index_mut-requires
index_mut-requires c = there-below _ _ c.requires.there

pub unreachable-requires : goal.unreachable-requires
unreachable-requires c = there-some _ _ c.index_mut.result.now c.requires.there c.index_mut.ensures.value (sym c.take.ensures.value ∙ c.in_default.is)

pub shrink-requires-clause-belongs : goal.shrink-requires-clause-belongs
shrink-requires-clause-belongs c = belongs-of (stands c.index_mut.result.now c.in-Some.memory c.requires.sound c.requires.there c.index_mut.ensures.value (sym c.take.ensures.value ∙ c.in-Some.is))

pub shrink-requires-clause-less : goal.shrink-requires-clause-less
shrink-requires-clause-less c =
    let s = stands c.index_mut.result.now c.in-Some.memory c.requires.sound c.requires.there c.index_mut.ensures.value (sym c.take.ensures.value ∙ c.in-Some.is) in
    subst (λ (i : Image). c.args.size ≤ i.size) (image-seen s) c.requires.less

pub index_mut-requires-2 : goal.index_mut-requires-2
index_mut-requires-2 c = there-below _ _ c.requires.there

pub returns-clause-shrunk : goal.returns-clause-shrunk
returns-clause-shrunk c =
    let s = stands c.index_mut.result.now c.in-Some.memory c.requires.sound c.requires.there c.index_mut.ensures.value (sym c.take.ensures.value ∙ c.in-Some.is) in
    space-changes _ c.shrink.new.self _ s c.shrink.ensures.changed (c.shrink.ensures.image ∙ ap (λ i. shrunk i c.args.size) (sym (image-seen s)))
    (set-twice c.args.self.now.each.items c.args.slot c.take.new.self (Some record { space = c.shrink.new.self; trapframe = c.in-Some.memory.trapframe })) refl

-- the hart runs the memory that stands in the slot
pub forget_from-requires-clause-root : goal.forget_from-requires-clause-root
forget_from-requires-clause-root c =
    let s = stands c.index_mut.result.now c.in-Some.memory c.requires.sound c.requires.there c.index_mut.ensures.value (sym c.take.ensures.value ∙ c.in-Some.is) in
    runs-root s c.requires.running ∙ ap Some (sym (c.root.ensures ∙ c.shrink.ensures.changed.root))

pub returns-clause-runs : goal.returns-clause-runs
returns-clause-runs c =
    let s = stands c.index_mut.result.now c.in-Some.memory c.requires.sound c.requires.there c.index_mut.ensures.value (sym c.take.ensures.value ∙ c.in-Some.is) in
    let ram = c.shrink.new.ram in
    let first = c.page_count-first.result in
    let end = c.end-end.result in
    let old = c.args.hart.now.cache in
    let new = c.forget_from.new.hart.cache in
    forgot-runs _ c.shrink.new.self s c.shrink.ensures.changed.root
    (set-twice c.args.self.now.each.items c.args.slot c.take.new.self (Some record { space = c.shrink.new.self; trapframe = c.in-Some.memory.trapframe }))
    first end (subst (λ n. WalksStayBelow (4096 * n) c.args.self.now.ram ram c.in-Some.memory.space.root) (sym c.page_count-first.ensures.value)
    c.shrink.ensures.walks) (λ va access far. c.end-end.ensures.unreached c.args.self.now.ram va access (belongs-of s).whole far)
    c.args.hart.now c.forget_from.new.hart c.requires.running (c.forget_from.ensures.root ∙ ap Some c.root.ensures)
    (subst (λ (r : ℕ). FitsBut ram r old (is_between first end) → Fits ram r new) c.root.ensures (c.forget_from.ensures.fits ram))

pub returns-clause-kept : goal.returns-clause-kept
returns-clause-kept c memory is few page lt =
    let s = stands c.index_mut.result.now c.in-Some.memory c.requires.sound c.requires.there c.index_mut.ensures.value (sym c.take.ensures.value ∙ c.in-Some.is) in
    let end : memory.space.end ≡ c.in-Some.memory.space.end = ap end_of (sym is ∙ s.is) in
    c.forget_from.ensures.kept (omega (arith, few, end, c.end-end.ensures.value, c.page_count-first.ensures.value)) page (omega (arith, lt, c.page_count-first.ensures.value))
