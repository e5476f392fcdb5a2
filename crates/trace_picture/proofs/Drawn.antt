-- Shapes that are drawn one after another.
use Rattle.std.proofs.Common.{◌≡◌, ◌∙◌, ℕ, ◌+◌, ◌<◌, List, ◌++◌, length, drop, get_or, Option, None, Some, sym, ap, append_assoc}
use Rattle.std.specs.Prelude.{⊤, OnOk, Result, Ok, Err}
use Rattle.std.proofs.lemmas.List.{drop_more}
use Rattle.trace_picture.specs.Shapes.{Draws, all_at, bar, bars, behind}
use Rattle.trace_picture.specs.declared.row.Phase.{Phase}
use Rattle.trace_picture.specs.declared.shape.Shape.{Shape}

-- some, and then others
pub draws-join : (a b c : Option (List Shape)) (xs ys : List Shape) → Draws a b xs → Draws b c ys → Draws a c (xs ++ ys)
draws-join None b c xs ys first next = tt
draws-join (Some was) None c xs ys first next = absurd first
draws-join (Some was) (Some mid) None xs ys first next = absurd next
draws-join (Some was) (Some mid) (Some is) xs ys first next = next ∙ ap (λ (zs : List Shape). zs ++ ys) first ∙ append_assoc was xs ys

-- ---- in a loop

-- of all shapes these are left, and just the others are drawn
pub record IsDrawnUpTo (before now : Option (List Shape)) (left all : List Shape) : Type 0 where
  pub done : List Shape
  pub draws : Draws before now done
  pub are : done ++ left ≡ all

pub more-drawn : (a b c : Option (List Shape)) (some left rest all : List Shape) → IsDrawnUpTo a b left all → left ≡ some ++ rest → Draws b c some → IsDrawnUpTo a c rest all
more-drawn a b c some left rest all so-far is more = record {
  done = so-far.done ++ some;
  draws = draws-join a b c so-far.done some so-far.draws more;
  are = append_assoc so-far.done some rest ∙ ap (λ (zs : List Shape). so-far.done ++ zs) (sym is) ∙ so-far.are;
}

-- what is left of a list, item by item
pub item-left : {A : Type 0} (show : ℕ → A → List Shape) (items : List A) (place : ℕ) (d : A) → place < length items
    → all_at show place (drop place items) ≡ show place (get_or items place d) ++ all_at show (place + 1) (drop (place + 1) items)
item-left show items place d within = ap (all_at show place) (drop_more items place d within)

-- and of a bar, phase by phase
pub phase-left : (row pid first : ℕ) (phases : List Phase) (place : ℕ) (d : Phase) → place < length phases
    → bars row pid first (drop place phases) ≡ bar row pid first (get_or phases place d) ++ bars row pid (behind first (get_or phases place d)) (drop (place + 1) phases)
phase-left row pid first phases place d within = ap (bars row pid first) (drop_more phases place d within)
