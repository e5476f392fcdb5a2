-- Where bytes stand in others.
use Rattle.grade_sheets.proofs.Prelude.{[], ℕ, ◌++◌, ◌<◌, ◌==◌, ◌↔◌, ◌∙◌, ◌∷◌, ◌≡◌, ◌≢◌, ap, arith, Bool, drop, eqb, false, IsTrue, length, length-append, List, ne_eqb, refl, starts_with, sym, take}
use Rattle.grade_sheets.proofs.Prelude.{take-append-drop, true, true≢false}
use Rattle.std.specs.Str.Iter.{HasSubslice}
use Rattle.std.proofs.lemmas.Bool.Decides.{Decides-eqb}
use Rattle.std.proofs.lemmas.Slice.Eq.{starts_is}
use Rattle.std.proofs.Math.Seq.{drop-append_seam}

module _ (shown part : List ℕ) where
  pub stands_here : (place : ℕ) → starts_with eqb (drop place shown) part ≡ true → HasSubslice shown part
  stands_here place begins = (
    take place shown,
    drop (length part) (drop place shown),
    sym (take-append-drop place shown) ∙ ap (λ (l : List ℕ). take place shown ++ l) ((starts_is Decides-eqb (drop place shown) part _ refl).0 begins),
  )

  some-bytes : (xs : List ℕ) → xs ≢ [] → 0 < length xs
  some-bytes [] some = absurd (some refl)
  some-bytes (x ∷ xs) some = omega arith

  pub stands_nowhere : ((k : ℕ) → k < length shown → starts_with eqb (drop k shown) part ≡ false) → part ≢ [] → HasSubslice shown part → ⊥
  stands_nowhere none some (a, b, is) =
      let long = ap length is ∙ length-append a (part ++ b) in
      let more = length-append part b in
      let within : length a < length shown = omega (arith, long, more, some-bytes part some) in
      true≢false (sym ((starts_is Decides-eqb (drop (length a) shown) part _ refl).1 b (ap (drop (length a)) is ∙ drop-append_seam a (part ++ b))) ∙ none (length a) within)

  pub stands_empty : part ≡ [] → HasSubslice shown part
  stands_empty none = ([], shown, ap (λ (l : List ℕ). l ++ shown) (sym none))

  -- they stand nowhere, unless there are none
  pub stands_or_empty : ((k : ℕ) → k < length shown → starts_with eqb (drop k shown) part ≡ false) → (r : Bool) → r ≡ (length part == 0) → IsTrue r ↔ HasSubslice shown part
  stands_or_empty none r is = by part refl is
    where
      by : (xs : List ℕ) → part ≡ xs → r ≡ (length xs == 0) → IsTrue r ↔ HasSubslice shown part
      by [] empty so = (λ _. stands_empty empty, λ _. so)
      by (x ∷ xs) some so = (
        λ t. absurd (true≢false (sym t ∙ so ∙ ne_eqb (length (x ∷ xs)) 0 (λ none. omega (arith, none)))),
        λ stands. absurd (stands_nowhere none (λ nil. let clash : [] ≡ x ∷ xs = sym nil ∙ some in let no : ⊥ = cc in no) stands),
      )
