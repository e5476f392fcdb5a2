use Rattle.std.proofs.Common.{List, ℕ, refl, subst}
use Rattle.xv_page.specs.Tables.{table_kept}
use Rattle.xv_page.specs.Texts.{IsMade, a-text, no-text}
use Rattle.xv_page.proofs.texts.xv_page_assemble.Goals as goal

pub returns-in-Ok : goal.returns-in-Ok
returns-in-Ok c =
    let P : List ℕ → Type 0 = λ source. IsMade source c.args.room.now c.made.new.room (table_kept c.made.new.table) c.made.result in
    a-text c.in-Ok.ensures.cases.1 (subst P c.in-Ok.ensures.cases.0 c.made.ensures)

pub returns-in-Err : goal.returns-in-Err
returns-in-Err c = no-text (c.in-Err.ensures.cases.0, refl, refl, refl)
