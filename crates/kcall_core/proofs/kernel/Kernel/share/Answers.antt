use Rattle.kcall_core.proofs.Prelude.{◌∙◌, ◌≡◌, ap, File, Joins, Memories, None, none-some, OpenFile, Pipe_end, pipe_of_target, refl, same_Some, subst, sym, Target, Terminal}
use Rattle.kcall_core.proofs.kernel.Kernel.share.Goals as goal

pub share-requires-clause-room : goal.share-requires-clause-room
share-requires-clause-room c = c.requires.may.room

pub join-requires-clause-sound : goal.join-requires-clause-sound
join-requires-clause-sound c = c.requires.may.sound

pub join-requires-clause-there : goal.join-requires-clause-there
join-requires-clause-there c = let e = c.in-Some.ensures.found in c.requires.may.there e.0 c.in-Some.at.frame c.in-Some.at.end e.1 e.2

pub join-requires-clause-room : goal.join-requires-clause-room
join-requires-clause-room c = let e = c.in-Some.ensures.found in c.requires.may.ends e.0 c.in-Some.at.frame c.in-Some.at.end e.1 e.2

joins-none : (t : Target) (m : Memories) → pipe_of_target t ≡ None → Joins t m m
joins-none Terminal m none = refl
joins-none (File program offset) m none = refl
joins-none (Pipe_end i end) m none = absurd (none-some i (sym none))

pub returns-in_default-clause-memories : goal.returns-in_default-clause-memories
returns-in_default-clause-memories c y is =
    let none = c.in_default.ensures.none in
    let same : none.0 ≡ y = same_Some none.0 y (sym none.1 ∙ is) in
    joins-none y.target _ (ap (λ (z : OpenFile). pipe_of_target z.target) (sym same) ∙ none.2)

pub returns-clause-memories : goal.returns-clause-memories
returns-clause-memories c y is =
    let e = c.in-Some.ensures.found in
    let same : e.0 ≡ y = same_Some e.0 y (sym e.1 ∙ is) in
    subst (λ (t : Target). Joins t c.args.self.now.memories c.join.new.self) (sym e.2 ∙ ap (λ (z : OpenFile). z.target) same) c.join.ensures
