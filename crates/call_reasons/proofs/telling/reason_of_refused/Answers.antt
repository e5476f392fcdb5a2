use Rattle.std.proofs.Common.{◌∙◌, refl, sym, ap}
use Rattle.std.specs.Prelude.{is_none}
use Rattle.kernel_spec.specs.views.Words.{minus_one}
use Rattle.call_reasons.proofs.ByCall.{none_of_dead, told_of_live}
use Rattle.call_reasons.proofs.telling.reason_of_refused.Goals as goal

pub returns-in-Some : goal.returns-in-Some
returns-in-Some c =
    c.reason.ensures ∙ told_of_live c.args.machine.now.world.state c.args.pid c.args.call.now minus_one refl (ap is_none (sym c.size.ensures ∙ c.in-Some.is))

pub returns-in-None : goal.returns-in-None
returns-in-None c = none_of_dead c.args.machine.now.world.state c.args.pid c.args.call.now minus_one (ap is_none (sym c.size.ensures ∙ c.in-None.is))
