-- Which variable a name is.
use Rattle.std.proofs.Common.{◌≡◌, ◌∙◌, ℕ, List, length, map, sym, ap, subst, Option, Some, None, option_map, slice_get}
use Rattle.std.proofs.lemmas.Bool.{true≢false}
use Rattle.std.proofs.lemmas.List.{length-map}
use Rattle.std.proofs.lemmas.Option.{slice_get-map}
use Rattle.std.specs.Borrow.{Bor}
use Rattle.c_expressions.specs.Scopes.{HasNone, IsInnermost, IsInnermostOf, IsThere, IsVariable, is_named, local, name_of, other}
use Rattle.c_expressions.specs.declared.rows.VariableRow.{VariableRow}

moved : (rows : List VariableRow) (name : List ℕ) (names : List (Bor (List ℕ))) (count place : ℕ) → names ≡ map name_of rows → count ≡ length names → IsInnermost names name count place
    → IsInnermost (map name_of rows) name (length rows) place
moved rows name names count place is counted inner =
    subst (λ (n : ℕ). IsInnermost (map name_of rows) name n place) (counted ∙ ap length is ∙ length-map rows name_of) (subst (λ (ns : List (Bor (List ℕ))). IsInnermost ns name count place) is inner)

pub placed : (rows : List VariableRow) (name : List ℕ) (names : List (Bor (List ℕ))) (count place : ℕ) (row : Option VariableRow) → names ≡ map name_of rows → count ≡ length names
    → IsInnermost names name count place → row ≡ slice_get rows place → IsInnermostOf rows name row
placed rows name names count place (Some row) is counted inner there = record { place = place; innermost = moved rows name names count place is counted inner; row_is = sym there }
placed rows name names count place None is counted inner there =
    absurd (true≢false (sym (moved rows name names count place is counted inner).named ∙ ap (is_named name) (slice_get-map name_of rows place ∙ ap (option_map name_of) (sym there))))

pub unplaced : (rows : List VariableRow) (name : List ℕ) (names : List (Bor (List ℕ))) (count : ℕ) → names ≡ map name_of rows → count ≡ length names → HasNone names name 0 count
    → HasNone (map name_of rows) name 0 (length rows)
unplaced rows name names count is counted none =
    subst (λ (n : ℕ). HasNone (map name_of rows) name 0 n) (counted ∙ ap length is ∙ length-map rows name_of) (subst (λ (ns : List (Bor (List ℕ))). HasNone ns name 0 count) is none)

pub local-named : (locals globals rows : List VariableRow) (name : List ℕ) (row : VariableRow) → rows ≡ locals → IsThere rows name row → IsVariable locals globals name (Some row)
local-named locals globals rows name row same there = local row (subst (λ (rs : List VariableRow). IsThere rs name row) same there)

pub other-named : (locals globals rows others : List VariableRow) (name : List ℕ) (found : Option VariableRow) → rows ≡ locals → others ≡ globals → HasNone (map name_of rows) name 0 (length rows)
    → IsInnermostOf others name found → IsVariable locals globals name found
other-named locals globals rows others name found same_rows same_others none inner =
    other found (subst (λ (rs : List VariableRow). HasNone (map name_of rs) name 0 (length rs)) same_rows none) (subst (λ (rs : List VariableRow). IsInnermostOf rs name found) same_others inner)
