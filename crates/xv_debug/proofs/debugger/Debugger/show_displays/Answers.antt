use Rattle.std.proofs.Common.{string_bytes, subst}
use Rattle.xv_debug.specs.ToldOfC.{IsDisplayTold}
use Rattle.xv_debug.specs.declared.displays.Displayed.{Displayed}
use Rattle.xv_debug.proofs.Displayed.{told-one}
use Rattle.xv_debug.proofs.debugger.Debugger.show_displays.Goals as goal

pub loop-displayed-init : goal.loop-displayed-init
loop-displayed-init c = λ end told. told

pub loop-displayed-preserved : goal.loop-displayed-preserved
loop-displayed-preserved c =
    let known = c.args.self.now.sources in
    let chosen = c.args.self.now.chosen in
    let s = c.args.session.now in
    let before = string_bytes c.loop-displayed.answer in
    let after = string_bytes c.show_displayed.new.answer in
    told-one known chosen s c.as_slice-displayed-items.result.now c.loop-displayed.displayed-index _ (string_bytes c.args.answer.now) before after c.loop-displayed-test.true c.loop-displayed.invariant
    (subst (λ (d : Displayed). IsDisplayTold known chosen s d before after) c.displayed-item.is c.in_ok-show_displayed.ensures)
