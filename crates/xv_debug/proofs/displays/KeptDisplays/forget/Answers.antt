use Rattle.std.proofs.Common.{◌∙◌, rules, not, ap, sym}
use Rattle.arrayvec.proofs.ArrayVecLemmas.{filter-from_retain}
use Rattle.xv_debug.specs.Displays.{is_numbered, left_without}
use Rattle.xv_debug.specs.declared.displays.Displayed.{Displayed}
use Rattle.xv_debug.proofs.displays.KeptDisplays.forget.Goals as goal

pub returns-in-Some : goal.returns-in-Some
returns-in-Some c =
    filter-from_retain _ (λ (k : Displayed). not (is_numbered c.in-Some.number k)) _ (λ x b f y. search rules) _ _ c.retain.ensures.filtered
    ∙ ap (λ number. left_without number c.args.self.now.kept.items) (sym c.in-Some.is)
