use Rattle.std.proofs.Common.{List, ℕ, length, refl, ap, ◌∙◌}
use Rattle.std.specs.Prelude.{Ok, Err}
use Rattle.xv_page.specs.Texts.{filed}
use Rattle.xv_page.specs.Told.{laid}
use Rattle.xv_page.proofs.texts.made.Goals as goal

pub returns-in-Err : goal.returns-in-Err
returns-in-Err c = record { made = Err c.in-Err.error; stands = c.in-Err.ensures.file; is_told = c.refusal.ensures; is_laid = refl; is_kept = refl }

pub returns-in-Ok : goal.returns-in-Ok
returns-in-Ok c =
    let room = c.args.room.now in
    record {
      made = Ok c.in-Ok.translation.file.items;
      stands = c.in-Ok.ensures.file;
      is_told = c.filed.ensures.told ∙ ap (λ (file : List ℕ). filed (length file) (length room)) c.as_slice.ensures.value;
      is_laid = c.filed.ensures.laid ∙ ap (λ (file : List ℕ). laid file room) c.as_slice.ensures.value;
      is_kept = c.in-Ok.ensures.table;
    }
