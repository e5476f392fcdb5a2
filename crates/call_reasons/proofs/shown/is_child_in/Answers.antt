use Rattle.std.proofs.Common.{◌≡◌, ◌∙◌, sym, ap}
use Rattle.std.specs.Prelude.{is_some}
use Rattle.kernel_spec.proofs.Common.{is_some-map}
use Rattle.kcall_core.specs.Observers.{child_at, shown}
use Rattle.call_reasons.proofs.Children.{child_found}
use Rattle.call_reasons.proofs.shown.is_child_in.Goals as goal

pub returns-in-Some-clause-found : goal.returns-in-Some-clause-found
returns-in-Some-clause-found c = λ e.
    let s = c.args.machine.now.world.state in
    let told : is_some (child_at s c.args.pid c.in-Some.child) ≡ c.is_some.result =
    ap is_some (sym c.child_state.ensures) ∙ is_some-map shown c.child_state.result ∙ sym c.is_some.ensures in
    child_found s c.args.pid c.in-Some.child (told ∙ e)
