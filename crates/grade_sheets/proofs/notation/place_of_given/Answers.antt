use Rattle.std.proofs.Common.{Bor, List, ℕ, codes, rules}
use Rattle.std.proofs.lemmas.Iterator.{YieldsList-from_slice}
use Rattle.std.proofs.lemmas.Iterator.Search.{position_from_yields_List}
use Rattle.grade_sheets.specs.Notation.{is_word}
use Rattle.grade_sheets.proofs.notation.place_of_given.Goals as goal

pub returns : goal.returns
returns c =
    position_from_yields_List (λ (w : Bor (List ℕ)). is_word (codes "given") w.now) _ _ _ c.position.ensures.ran (YieldsList-from_slice c.args.words.now cc) (λ x b q k. search rules)
