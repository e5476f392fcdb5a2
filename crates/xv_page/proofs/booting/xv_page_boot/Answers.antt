use Rattle.std.proofs.Common.{List, refl, subst}
use Rattle.std.specs.Prelude.{Some, Ok, Err}
use Rattle.kernel_spec.specs.views.State.{ProgramFile}
use Rattle.xv_page.specs.Booting.{IsBooted, held}
use Rattle.xv_page.proofs.booting.xv_page_boot.Goals as goal

pub returns-in-Ok-clause-booted : goal.returns-in-Ok-clause-booted
returns-in-Ok-clause-booted c =
    let s = c.in-Ok.fresh.value in
    let P : List ProgramFile → Type 0 = λ programs. IsBooted c.args.frames c.args.trace programs c.refusal.result (held c.args.session.now) (Some s) in
    subst P c.taken-list.ensures.list (record { answer = Ok s; boots = c.in-Ok.ensures.boots; is_told = c.refusal.ensures; replaces = (refl, c.in-Ok.ensures.fresh) })

pub returns-in-Err-clause-booted : goal.returns-in-Err-clause-booted
returns-in-Err-clause-booted c =
    let old = held c.args.session.now in
    let P : List ProgramFile → Type 0 = λ programs. IsBooted c.args.frames c.args.trace programs c.boot_told.result old old in
    subst P c.taken-list.ensures.list (record { answer = Err c.in-Err.error; boots = c.in-Err.ensures.boots; is_told = c.boot_told.ensures; replaces = refl })
