-- The call that was chosen, after a word.
use Rattle.std.proofs.Common.{◌≡◌, ◌∙◌, ℕ, Bool, true, false, cond, List, Option, Result, Ok, Err, IfOk, refl, sym, ap, subst}
use Rattle.std.proofs.lemmas.Bool.{eq-eqb}
use Rattle.xv_report.specs.declared.sources.Sources.{Sources}
use Rattle.xv_session.specs.Recorded.{Recorded}
use Rattle.xv_debug.specs.CallWords.{IsChosenBy, LeavesChosen, TellsOfCalls, by_word, still, obeyed, refused, other}
use Rattle.xv_debug.specs.Chosen.{left, none}
use Rattle.xv_debug.specs.declared.choosing.Chosen.{Chosen}
use Rattle.xv_debug.specs.declared.displays.KeptDisplays.{KeptDisplays}

-- a word that has not moved the run leaves it
pub stays-left : (n : ℕ) (c : Chosen) → c ≡ left n n c
stays-left n c = sym (ap (λ b. cond b c none) (eq-eqb n n refl))

-- whatever comes of a call
module _ {A : Type 0} {E : Type 0} where
  pub if-ok : (r : Result A E) (said : Type 0) → said → IfOk r (λ _. said)
  if-ok (Ok a) said it = it
  if-ok (Err e) said it = tt

module _ (known : Option Sources) (line : List ℕ) (s : Recorded) where
  chosen-still : (old new : Chosen) → new ≡ old → IsChosenBy known line s old new
  chosen-still old new same = subst (λ (c : Chosen). IsChosenBy known line s old c) (sym same) still

  -- a line that asks a word of calls, or none
  pub chosen-by : (told : Bool) (old new : Chosen) (shown shown_after : KeptDisplays) → TellsOfCalls known line s old new shown shown_after told → IsChosenBy known line s old new
  chosen-by true old new shown shown_after (obeyed word asked is) = by_word word asked new is.chooses
  chosen-by true old new shown shown_after (refused why same kept) = chosen-still old new same
  chosen-by false old new shown shown_after (other none same kept) = chosen-still old new same

  -- what is left then
  pub leaves : (before after : ℕ) (told : Bool) (old mid new : Chosen) (shown shown_after : KeptDisplays) → TellsOfCalls known line s old mid shown shown_after told → new ≡ left before after mid
      → LeavesChosen known line s before after old new
  leaves before after told old mid new shown shown_after tells is = record { was = mid; by = chosen-by told old mid shown shown_after tells; is = is }
