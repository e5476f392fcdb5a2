use Rattle.std.proofs.Common.{◌≡◌, ◌++◌, ◌∙◌, List, ℕ, ap₂, rules, sym}
use Rattle.std.proofs.lemmas.List.{take-append-drop}
use Rattle.xv_record.proofs.reading.behind.Goals as goal

pub returns-then-eq : goal.returns-then-eq
returns-then-eq c =
    let same : c.in_ok-front.front.now ≡ c.args.begun.now = search rules in
    let parts = c.in_ok-front.ensures.cases in
    sym (take-append-drop _ c.args.text.now) ∙ ap₂ (λ (us vs : List ℕ). us ++ vs) (sym parts.1 ∙ same) (sym parts.2)
