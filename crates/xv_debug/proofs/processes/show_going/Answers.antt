use Rattle.std.proofs.Common.{◌≡◌, ◌∙◌, ◌++◌, List, ℕ, ap, refl, string_bytes}
use Rattle.xv_machine.specs.Meaning.{Meaning}
use Rattle.debug_views.proofs.Shown.{shows-behind}
use Rattle.xv_debug.specs.WhereText.{IsFocusText, IsGoingText, if_nobody}
use Rattle.xv_debug.proofs.processes.show_going.Goals as goal

pub returns : goal.returns
returns c =
    let s = c.args.session.now in
    let old = string_bytes c.args.answer.now in
    let mid = string_bytes c.push_str.new.self in
    let front : mid ≡ old ++ if_nobody s.machine.world.turns.current =
    c.in_ok-push_str.ensures.bytes
    ∙ ap (λ (t : List ℕ). old ++ t) (c.if_nobody.ensures ∙ ap if_nobody (c.current.ensures.pid ∙ ap (λ (m : Meaning). m.world.turns.current) c.machine.ensures.machine)) in
    shows-behind c.show_looked_at.result (IsFocusText s c.args.focus) (IsGoingText s c.args.focus) old mid _ (if_nobody s.machine.world.turns.current) front (λ rest is. (rest, is, refl)) c.show_looked_at.ensures
