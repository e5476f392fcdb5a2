use Rattle.std.proofs.Common.{ap, sym, ◌∙◌}
use Rattle.std.specs.Prelude.{is_some}
use Rattle.std.specs.List.{slice_get}
use Rattle.kernel_spec.proofs.Common.{none_from_is_some}
use Rattle.xv_machine.proofs.OverTicks.{nothing-waits}
use Rattle.xv_machine.proofs.machine.Machine.has_to_send.Goals as goal

pub returns-clause-no : goal.returns-clause-no
returns-clause-no c = λ none. nothing-waits c.args.self.now.world.state.console.to_send (sym c.console_byte.ensures ∙ none_from_is_some c.console_byte.result (sym c.is_some.ensures ∙ none))

pub returns-clause-yes : goal.returns-clause-yes
returns-clause-yes c = λ empty. c.is_some.ensures ∙ ap is_some (c.console_byte.ensures ∙ ap (λ l. slice_get l 0) empty)
