use Rattle.kcall_core.proofs.Prelude.{ℕ, ap, IsTree, refl, root_of, subst, sym}
use Rattle.kcall_core.proofs.memory.Stepping.{runs-stands, steps}
use Rattle.kcall_core.proofs.memory.Changes.{runs-inside}
use Rattle.kcall_core.proofs.memories.Memories.step.Goals as goal

pub step-requires-clause-tree : goal.step-requires-clause-tree
step-requires-clause-tree c =
    let r = c.requires.running.1 in
    let tree = (c.requires.sound.memories c.requires.running.0 r.memory r.is).space.tree in
    subst (λ (x : ℕ). IsTree c.args.self.now.ram x) (sym (ap root_of r.root)) tree

pub returns : goal.returns
returns c slot r =
    steps c.args.self.now _ slot c.args.hart.now c.step.new.self c.step.result r (runs-stands c.args.self.now slot c.args.hart.now c.requires.sound r (runs-inside r))
    (record {
      ends = c.step.ensures.stop;
      regs = c.step.ensures.regs;
      stepped = c.step.ensures.stepped;
      root = c.step.ensures.root;
      fits = c.step.ensures.fits;
      fault = c.step.ensures.fault_address;
    }) refl refl refl
