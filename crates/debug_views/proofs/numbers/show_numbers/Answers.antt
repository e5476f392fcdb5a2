use Rattle.std.proofs.Common.{◌≡◌, ◌∙◌, ◌++◌, Bool, true, false, if◌then◌else◌, string_bytes, OnOk, sym, ap, subst}
use Rattle.std.specs.Prelude.{is_some}
use Rattle.kernel_spec.specs.views.State.{live}
use Rattle.xv_machine.specs.Meaning.{Meaning}
use Rattle.debug_views.specs.Focus.{no_process}
use Rattle.debug_views.specs.NumberText.{numbers_text}
use Rattle.debug_views.proofs.numbers.show_numbers.Goals as goal

pub returns-then-lives : goal.returns-then-lives
returns-then-lives c =
    let s = c.args.session.now in
    let p = c.args.pid in
    let new = string_bytes c.show_known.new.answer in
    let is : true ≡ is_some (live s.machine.world.state p) = sym c.if-lives.true ∙ c.lives.ensures ∙ ap (λ (m : Meaning). is_some (live m.world.state p)) c.machine.ensures.machine in
    subst (λ (b : Bool). OnOk c.show_known.result
    (new ≡ string_bytes c.args.answer.now ++ (if b then numbers_text s c.args.size p c.args.address c.args.count else no_process p))) is c.show_known.ensures

pub returns-else-lives : goal.returns-else-lives
returns-else-lives c =
    let s = c.args.session.now in
    let p = c.args.pid in
    let new = string_bytes c.show_none.new.answer in
    let is : false ≡ is_some (live s.machine.world.state p) = sym c.if-lives.false ∙ c.lives.ensures ∙ ap (λ (m : Meaning). is_some (live m.world.state p)) c.machine.ensures.machine in
    subst (λ (b : Bool). OnOk c.show_none.result
    (new ≡ string_bytes c.args.answer.now ++ (if b then numbers_text s c.args.size p c.args.address c.args.count else no_process p))) is c.show_none.ensures
