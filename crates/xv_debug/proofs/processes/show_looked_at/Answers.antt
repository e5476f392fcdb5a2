use Rattle.std.proofs.Common.{◌≡◌, ◌++◌, ℕ, Option, OnOk, refl, string_bytes, subst, sym}
use Rattle.debug_views.specs.Written.{Writes}
use Rattle.debug_views.proofs.Shown.{shows-text}
use Rattle.debug_views.proofs.Texts.{pushed}
use Rattle.xv_debug.specs.WhereText.{IsFocusText, nobody}
use Rattle.xv_debug.proofs.processes.show_looked_at.Goals as goal

pub returns-in-Some : goal.returns-in-Some
returns-in-Some c =
    subst (λ (o : Option ℕ). OnOk c.show_process.result (Writes (string_bytes c.args.answer.now) (string_bytes c.show_process.new.answer) (IsFocusText c.args.session.now o))) (sym c.in-Some.is) c.show_process.ensures

pub returns-in-None : goal.returns-in-None
returns-in-None c =
    let old = string_bytes c.args.answer.now in
    let new = string_bytes c.push_str.new.self in
    subst (λ (o : Option ℕ). OnOk c.push_str.result (Writes old new (IsFocusText c.args.session.now o))) (sym c.in-None.is)
    (shows-text c.push_str.result (λ t. t ≡ nobody) old new nobody refl (pushed c.push_str.result new (old ++ nobody) old c.push_str.ensures.bytes))
