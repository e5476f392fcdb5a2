use Rattle.std.proofs.Common.{ℕ, List, subst}
use Rattle.xv_debug.specs.motion.Shown.{KeepsShown}
use Rattle.xv_debug.proofs.motion.searching.send_one.Goals as goal

pub returns-clause-shown : goal.returns-clause-shown
returns-clause-shown c = subst (λ (bs : List ℕ). KeepsShown bs c.args.output.now c.add.new.self) c.shown.ensures c.add.ensures
