use Rattle.std.proofs.Common.{◌∙◌, ap, subst, sym}
use Rattle.xv_machine.specs.Meaning.{Meaning}
use Rattle.xv_live.specs.Asks.{IsAskedOf, led_by}
use Rattle.xv_live.specs.Keys.{key_of}
use Rattle.xv_live.specs.Resting.{NothingHappens}
use Rattle.xv_live.proofs.Led.{key-asks, key-leads}
use Rattle.xv_live.proofs.Typed.{looks-came}
use Rattle.xv_live.proofs.attending.look.Goals as goal

pub returns-in_default-clause-asked : goal.returns-in_default-clause-asked
returns-in_default-clause-asked g c = subst (IsAskedOf c.args.session.now) (sym c.in_ok-asked-in-Came.ensures.asked) (key-asks c.args.session.now (key_of c.in-Came.byte))

pub returns-in_default-clause-looks : goal.returns-in_default-clause-looks
returns-in_default-clause-looks g c =
    looks-came c.in_ok-byte.field-0 c.in-Came.byte _ _ _ _ _ _ _ c.looks.invariant.1 c.in-Came.is c.in_ok-byte.ensures c.in_ok-asked-in-Came.ensures.waits
    (key-leads (key_of c.in-Came.byte) ∙ ap led_by (sym c.in_ok-asked-in-Came.ensures.asked))

pub looks-preserved : goal.looks-preserved
looks-preserved g c = (
  c.in_ok-asked-in-Came.ensures.sink ∙ c.looks.invariant.0,
  looks-came c.in_ok-byte.field-0 c.in-Came.byte _ _ _ _ _ _ _ c.looks.invariant.1 c.in-Came.is c.in_ok-byte.ensures c.in_ok-asked-in-Came.ensures.waits
      (key-leads (key_of c.in-Came.byte) ∙ ap led_by (sym c.in_ok-asked-in-Came.ensures.asked ∙ c.in-Nothing.is)),
)

pub returns-in-Ended-2-clause-asked : goal.returns-in-Ended-2-clause-asked
returns-in-Ended-2-clause-asked g c = subst (λ (m : Meaning). NothingHappens m.world) c.machine.ensures.machine (c.goes_on_without_keys.ensures c.if-goes_on_without_keys.false)
