use Rattle.kcall_core.proofs.Prelude.{[], ◌∙◌, ◌∷◌, ap, arith, copies, free_in, free_of, length, price, refl, sym, trade-join, Traded}
use Rattle.kcall_core.proofs.memory.Changes.{there-held, vacant-below, stood, image-seen, cost-seen, same-if}
use Rattle.kcall_core.proofs.memory.Births.{untraded, taken-apart, taken-length, there-stands, beside-belongs, beside-image, born}
use Rattle.kcall_core.proofs.memories.Memories.fork_into.Goals as goal

pub returns-in_default-clause-refused : goal.returns-in_default-clause-refused
unfolding free_of
returns-in_default-clause-refused c =
    let found = there-stands _ _ c.requires.sound c.requires.there in
    let none = c.in_default.ensures.none in
    (omega (arith, cost-seen found.1, ap length none.0), same-if c.args.self.now _ c.requires.sound (untraded _ _ _ _ [] c.requires.sound.good none.1.same_pool none.1.same_ram) refl refl)

pub memory_in-memory-requires : goal.memory_in-memory-requires
memory_in-memory-requires c = there-held _ _ c.requires.there

pub copy-requires : goal.copy-requires
copy-requires c =
    record { belongs = beside-belongs (stood c.requires.sound c.requires.there c.memory_in-memory.ensures) c.in-Some.ensures.taken }

pub give-requires-clause-not_free : goal.give-requires-clause-not_free
give-requires-clause-not_free c =
    let r = c.in_default-copy.ensures.refused in
    ap (λ p. copies c.in-Some.trapframe (free_in p c.copy.new.ram)) r.1 ∙ ap (λ m. copies c.in-Some.trapframe (free_in c.take.new.self m)) r.2
    ∙ taken-apart c.requires.sound.good c.in-Some.ensures.taken

pub returns-in_default-copy-clause-refused : goal.returns-in_default-copy-clause-refused
unfolding free_of
returns-in_default-copy-clause-refused c =
    let s = stood c.requires.sound c.requires.there c.memory_in-memory.ensures in
    let r = c.in_default-copy.ensures.refused in
    let t = c.in-Some.trapframe in
    let taken = c.in-Some.ensures.taken in
    let back : Traded c.args.self.now.pool c.args.self.now.ram c.give.new.self c.give.new.ram [] [] =
    trade-join _ _ _ _ _ _ [] (t ∷ []) [] taken.traded (trade-join _ _ _ _ _ _ (t ∷ []) (t ∷ []) [] (untraded _ _ _ _ (t ∷ []) taken.traded.good r.1 r.2) c.give.ensures) in
    (omega (arith, cost-seen s, ap price (beside-image s taken), r.0, taken-length taken), same-if c.args.self.now _ c.requires.sound back refl refl)

pub index_mut-requires : goal.index_mut-requires
index_mut-requires c = vacant-below _ _ c.requires.vacant

pub returns-clause-copied : goal.returns-clause-copied
returns-clause-copied c =
    let s = stood c.requires.sound c.requires.there c.memory_in-memory.ensures in
    born _ c.in-Some.trapframe c.in-Ok.space _ c.requires.sound c.requires.vacant c.in-Some.ensures.taken c.in-Ok.ensures.made
    (c.in-Ok.ensures.image ∙ beside-image s c.in-Some.ensures.taken ∙ sym (image-seen s)) refl refl
