use Rattle.std.proofs.Common.{Bor, List, ℕ, ◌∙◌, ap, codes, sym, map}
use Rattle.std.specs.Prelude.{Option}
use Rattle.grade_sheets.specs.Notation.{is_word, pattern_at}
use Rattle.grade_sheets.proofs.Patterns.{cut-words, position-map}
use Rattle.grade_sheets.proofs.notation.pattern_of_words.Goals as goal

pub returns-in-Some : goal.returns-in-Some
returns-in-Some c =
    let ws = c.args.words.now in
    let now = λ (w : Bor (List ℕ)). w.now in
    let found = sym c.place_of_given.ensures ∙ c.in-Some.is in
    c.pattern_of_both.ensures ∙ cut-words c.in-Some.place ws
    ∙ sym (ap (λ (o : Option ℕ). pattern_at o (map now ws)) (position-map now (is_word (codes "given")) ws ∙ found))

pub returns-in-None : goal.returns-in-None
returns-in-None c =
    let ws = c.args.words.now in
    let now = λ (w : Bor (List ℕ)). w.now in
    let found = sym c.place_of_given.ensures ∙ c.in-None.is in
    c.pattern_of_line.ensures
    ∙ sym (ap (λ (o : Option ℕ). pattern_at o (map now ws)) (position-map now (is_word (codes "given")) ws ∙ found))
