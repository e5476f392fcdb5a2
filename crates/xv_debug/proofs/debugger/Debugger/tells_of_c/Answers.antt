use Rattle.std.proofs.Common.{◌≡◌, ◌∙◌, refl, rules, sym}
use Rattle.xv_debug.specs.ToldOfC.{TellsOfC, writes, shows_place, writes_nothing}
use Rattle.xv_debug.proofs.debugger.Debugger.tells_of_c.Goals as goal

pub returns-in-Some : goal.returns-in-Some
returns-in-Some c = writes c.in_ok-told.told c.in-Some.text.now c.in_ok-told.ensures (search rules) c.in_ok-put_text.ensures

pub returns-then-is_of_c_alone : goal.returns-then-is_of_c_alone
returns-then-is_of_c_alone c =
    shows_place c.in_ok-told.told c.in_ok-told.ensures (search rules) (sym c.is_of_c_alone.ensures ∙ c.if-is_of_c_alone.true) c.in_ok-show_focus.ensures

pub returns : goal.returns
returns c = writes_nothing c.in_ok-told.told c.in_ok-told.ensures (search rules) (sym c.is_of_c_alone.ensures ∙ c.if-is_of_c_alone.false) refl
