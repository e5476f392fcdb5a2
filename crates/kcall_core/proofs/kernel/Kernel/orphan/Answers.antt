use Rattle.kcall_core.proofs.Prelude.{◌∙◌, ap, each_changed, given, refl}
use Rattle.kcall_core.proofs.table.Adopted.{adopted-state, adopted-sound, adopted-pid}
use Rattle.kcall_core.proofs.kernel.Kernel.orphan.Goals as goal

pub returns-clause-sound : goal.returns-clause-sound
returns-clause-sound c = adopted-sound c.args.self.now _ c.args.pid (c.adopt.ensures ∙ ap (λ n. each_changed (given c.args.pid n) c.args.self.now.table) c.new.ensures) refl

pub returns-clause-state : goal.returns-clause-state
returns-clause-state c = adopted-state c.args.self.now _ c.args.pid (c.adopt.ensures ∙ ap (λ n. each_changed (given c.args.pid n) c.args.self.now.table) c.new.ensures) refl

pub returns-clause-pid : goal.returns-clause-pid
returns-clause-pid c =
    λ hart sound runs. adopted-pid c.args.self.now _ c.args.pid
    (c.adopt.ensures ∙ ap (λ n. each_changed (given c.args.pid n) c.args.self.now.table) c.new.ensures) refl hart sound runs refl

pub returns-clause-table : goal.returns-clause-table
returns-clause-table c = c.adopt.ensures ∙ ap (λ n. each_changed (given c.args.pid n) c.args.self.now.table) c.new.ensures
