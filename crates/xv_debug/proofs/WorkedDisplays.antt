-- Worked cases of lines that are obeyed again and again.
use Rattle.std.proofs.Common.{◌≡◌, [], ◌∷◌, None, Some, refl}
use Rattle.arrayvec.specs.ArrayString.{ArrayString as Text}
use Rattle.xv_debug.specs.Displays.{left_without}
use Rattle.xv_debug.specs.declared.displays.Displayed.{Displayed}

module _ (first second : Text) where
  abbrev one : Displayed
  one = record { number = 1; line = first }

  abbrev two : Displayed
  two = record { number = 2; line = second }

  without_the_first : left_without (Some 1) (one ∷ two ∷ []) ≡ two ∷ []
  without_the_first = refl

  without_another : left_without (Some 3) (one ∷ two ∷ []) ≡ one ∷ two ∷ []
  without_another = refl

  without_any : left_without None (one ∷ two ∷ []) ≡ []
  without_any = refl
