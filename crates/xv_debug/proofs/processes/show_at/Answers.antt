use Rattle.std.proofs.Common.{◌≡◌, ◌∙◌, ◌++◌, ℤ, Option, None, Some, ap, of_z, refl, rules, string_bytes, subst, sym, to_z}
use Rattle.std.proofs.lemmas.Int.{to_z-of_z}
use Rattle.std.proofs.lemmas.Result.{on_ok_weaker}
use Rattle.std.specs.Int.{w32}
use Rattle.xv_machine.specs.Meaning.{Meaning}
use Rattle.debug_views.proofs.Shown.{shows-behind, shows-text}
use Rattle.xv_debug.specs.ProcessText.{place_text}
use Rattle.xv_debug.specs.WhereText.{IsGoingText, IsStateText, IsWhereText, halted_text}
use Rattle.xv_debug.proofs.processes.show_at.Goals as goal

pub returns-in-Some : goal.returns-in-Some
returns-in-Some c =
    let s = c.args.session.now in
    let focus = c.args.focus in
    let status = c.in-Some.status in
    let old = string_bytes c.args.answer.now in
    let mid = string_bytes c.show_place.new.answer in
    let new = string_bytes c.show_halted.new.answer in
    let halted : s.machine.world.turns.halted ≡ Some status = ap (λ (m : Meaning). m.world.turns.halted) (sym c.machine.ensures.machine) ∙ sym c.halted.ensures.status ∙ c.in-Some.is in
    let same : to_z w32 (of_z w32 status) ≡ status = search (rules, to_z-of_z) in
    shows-behind c.show_halted.result (λ t. t ≡ halted_text status) (IsWhereText s focus) old mid new (place_text s) c.in_ok-show_place.ensures
    (λ rest is. (rest, subst (λ (h : Option ℤ). IsStateText s focus h rest) (sym halted) is, refl))
    (shows-text c.show_halted.result (λ t. t ≡ halted_text status) mid new (halted_text status) refl
    (on_ok_weaker c.show_halted.result (λ wrote. wrote ∙ ap (λ (n : ℤ). mid ++ halted_text n) same) c.show_halted.ensures))

pub returns-in-None : goal.returns-in-None
returns-in-None c =
    let s = c.args.session.now in
    let focus = c.args.focus in
    let none : s.machine.world.turns.halted ≡ None = ap (λ (m : Meaning). m.world.turns.halted) (sym c.machine.ensures.machine) ∙ sym c.halted.ensures.status ∙ c.in-None.is in
    shows-behind c.show_going.result (IsGoingText s focus) (IsWhereText s focus) _ _ _ (place_text s) c.in_ok-show_place.ensures
    (λ rest is. (rest, subst (λ (h : Option ℤ). IsStateText s focus h rest) (sym none) is, refl)) c.show_going.ensures
