use Rattle.kcall_core.proofs.Prelude.{[], ◌∙◌, ◌∷◌, ap, arith, copies-nil, frames_of, refl, set, sym, trade-join, Traded}
use Rattle.kcall_core.proofs.memory.Changes.{there-below, there-some, stands, belongs-of, trapframe-apart, trapframe-inside, trade-first, slot-gone}
use Rattle.kcall_core.proofs.memories.Memories.give_back.Goals as goal

pub index_mut-requires : goal.index_mut-requires
index_mut-requires c = there-below _ _ c.requires.there

pub unreachable-requires : goal.unreachable-requires
unreachable-requires c = there-some _ _ c.index_mut.result.now c.requires.there c.index_mut.ensures.value (sym c.take.ensures.value ∙ c.in_default.is)

pub drop_all-requires : goal.drop_all-requires
drop_all-requires c =
    record {
      belongs =
          belongs-of (stands c.index_mut.result.now c.in-Some.memory c.requires.sound c.requires.there c.index_mut.ensures.value
          (sym c.take.ensures.value ∙ c.in-Some.is));
    }

pub give-requires-clause-inside : goal.give-requires-clause-inside
give-requires-clause-inside c =
    let s = stands c.index_mut.result.now c.in-Some.memory c.requires.sound c.requires.there c.index_mut.ensures.value (sym c.take.ensures.value ∙ c.in-Some.is) in
    omega (arith, trapframe-inside s, c.drop_all.ensures.traded.count)

pub give-requires-clause-not_free : goal.give-requires-clause-not_free
give-requires-clause-not_free c =
    let s = stands c.index_mut.result.now c.in-Some.memory c.requires.sound c.requires.there c.index_mut.ensures.value (sym c.take.ensures.value ∙ c.in-Some.is) in
    omega (arith, (trapframe-apart s).0, (trapframe-apart s).1, c.drop_all.ensures.traded.frames c.in-Some.memory.trapframe, copies-nil c.in-Some.memory.trapframe)

pub returns : goal.returns
returns c =
    let s = stands c.index_mut.result.now c.in-Some.memory c.requires.sound c.requires.there c.index_mut.ensures.value (sym c.take.ensures.value ∙ c.in-Some.is) in
    let own = frames_of c.args.self.now.ram c.in-Some.memory.space in
    let gone : Traded c.args.self.now.pool c.args.self.now.ram c.give.new.self c.give.new.ram (c.in-Some.memory.trapframe ∷ own) [] =
    trade-join _ _ _ _ _ _ (c.in-Some.memory.trapframe ∷ own) (c.in-Some.memory.trapframe ∷ []) [] (trade-first _ _ _ _ own [] c.in-Some.memory.trapframe c.drop_all.ensures.traded) c.give.ensures in
    slot-gone _ s gone (ap (set c.args.self.now.each.items c.args.slot) c.take.ensures.after) refl
