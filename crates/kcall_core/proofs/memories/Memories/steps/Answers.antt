use Rattle.kcall_core.proofs.Prelude.{ℕ, ◌≤◌, ap, arith, IsTree, refl, root_of, subst, sym}
use Rattle.kcall_core.proofs.memory.Stepping.{steps-in-a-row}
use Rattle.kcall_core.proofs.memories.Memories.steps.Goals as goal

pub steps-requires-clause-tree : goal.steps-requires-clause-tree
steps-requires-clause-tree c =
    let r = c.requires.running.1 in
    let tree = (c.requires.sound.memories c.requires.running.0 r.memory r.is).space.tree in
    subst (λ (x : ℕ). IsTree c.args.self.now.ram x) (sym (ap root_of r.root)) tree

pub returns : goal.returns
returns c slot r =
    let some : 1 ≤ c.args.most = let none = c.if-most-eq0.false in omega (arith, none) in
    steps-in-a-row c.args.self.now _ slot c.args.hart.now c.steps.new.hart c.args.most c.steps.result.made c.steps.result.stop some
    c.requires.sound r c.steps.ensures.root refl refl refl c.steps.ensures.row

pub returns-then-most-eq0 : goal.returns-then-most-eq0
returns-then-most-eq0 c slot r = record { mid = c.args.self.now; between = c.args.hart.now; done = (refl, refl); last = (sym c.if-most-eq0.true, refl, refl) }
