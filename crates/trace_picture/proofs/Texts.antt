-- Texts that are written part by part.
use Rattle.std.proofs.Common.{◌≡◌, ◌∙◌, ℕ, List, [], ◌∷◌, ◌++◌, length, flat_map, ap, sym, append-nil}
use Rattle.std.proofs.lemmas.Grind.{flat_map-append}
use Rattle.trace_picture.specs.Names.{letter_text, names_room}
use Rattle.trace_picture.specs.Shapes.{shapes_of}
use Rattle.trace_picture.specs.Svg.{picture_by, picture_of, row_top}
use Rattle.trace_picture.specs.declared.chart.Chart.{Chart}
use Rattle.trace_picture.specs.declared.remark.Remarks.{Remarks}
use Rattle.trace_picture.specs.declared.shape.Shape.{Shape}

-- nothing is left
pub left-none : (text left all : List ℕ) → text ++ left ≡ all → left ≡ [] → text ≡ all
left-none text left all before is = sym (append-nil text) ∙ ap (λ (z : List ℕ). text ++ z) (sym is) ∙ before

-- letters of a text, and then one more
pub letters-next : (xs : List ℕ) (c : ℕ) → flat_map letter_text xs ++ letter_text c ≡ flat_map letter_text (xs ++ c ∷ [])
letters-next xs c = sym (flat_map-append letter_text xs (c ∷ []) ∙ ap (λ (z : List ℕ). flat_map letter_text xs ++ z) (append-nil (letter_text c)))

-- ---- the whole picture

pub picture-made : (chart : Chart) (remarks : Remarks) (left events bottom : ℕ) (list : List Shape) → left ≡ names_room chart remarks
    → events ≡ length chart.notes.items → bottom ≡ row_top (length chart.rows.items) → list ≡ shapes_of chart → picture_by chart remarks left events bottom list ≡ picture_of chart remarks
unfolding picture_of
picture-made chart remarks left events bottom list at all low are =
    ap (λ (n : ℕ). picture_by chart remarks n events bottom list) at
    ∙ ap (λ (n : ℕ). picture_by chart remarks (names_room chart remarks) n bottom list) all
    ∙ ap (λ (n : ℕ). picture_by chart remarks (names_room chart remarks) (length chart.notes.items) n list) low
    ∙ ap (λ (xs : List Shape). picture_by chart remarks (names_room chart remarks) (length chart.notes.items) (row_top (length chart.rows.items)) xs) are
