use Rattle.kcall_core.proofs.Prelude.{ℕ, ap, IsTree, refl, root_of, subst, sym}
use Rattle.kcall_core.proofs.memory.Unwatched.{unwatched-done, unwatched-refused}
use Rattle.kcall_core.proofs.memory.Vectors.{memories-same}
use Rattle.kcall_core.proofs.memories.Memories.step_unwatched.Goals as goal

pub step_unwatched-requires-clause-tree : goal.step_unwatched-requires-clause-tree
step_unwatched-requires-clause-tree c =
    let r = c.requires.running.1 in
    let tree = (c.requires.sound.memories c.requires.running.0 r.memory r.is).space.tree in
    subst (λ (x : ℕ). IsTree c.args.self.now.ram x) (sym (ap root_of r.root)) tree

pub returns : goal.returns
returns c slot r =
    let e = c.step_unwatched.ensures in
    unwatched-done c.args.self.now _ slot c.args.hart.now c.step_unwatched.new.self
    c.args.watch.now.addresses.now c.args.watch.now.bytes.now c.requires.sound r c.step_unwatched.result c.if-not-step_unwatched.false
    (record { done = e.done; refused = e.refused; kept = e.kept; root = e.root; fault = e.fault_address; fits = e.fits }) refl refl refl

pub returns-then-not-step_unwatched : goal.returns-then-not-step_unwatched
returns-then-not-step_unwatched c slot r =
    let e = c.step_unwatched.ensures in
    unwatched-refused c.args.self.now _ slot c.args.hart.now c.step_unwatched.new.self
    c.args.watch.now.addresses.now c.args.watch.now.bytes.now c.requires.sound r c.step_unwatched.result c.if-not-step_unwatched.true
    (record { done = e.done; refused = e.refused; kept = e.kept; root = e.root; fault = e.fault_address; fits = e.fits })
    (memories-same c.args.self.now c.step_unwatched.new.ram _ (e.kept c.if-not-step_unwatched.true).0)
