-- What words of calls, and of what is shown again and again, leave.
use Rattle.std.specs.Prelude.{◌≡◌, ℕ, Bool, true, false, List, Option, None, Some}
use Rattle.xv_report.specs.declared.sources.Sources.{Sources}
use Rattle.xv_session.specs.Recorded.{Recorded}
use Rattle.xv_debug.specs.Chosen.{Chooses, left}
use Rattle.xv_debug.specs.Displays.{displays_by}
use Rattle.xv_debug.specs.FrameWords.{IsAsked, IsRefused}
use Rattle.xv_debug.specs.declared.choosing.Chosen.{Chosen}
use Rattle.xv_debug.specs.declared.displays.KeptDisplays.{KeptDisplays}
use Rattle.xv_debug.specs.declared.frame_words.FrameWord.{FrameWord}

-- which call is looked at then, and which lines are shown again and again
pub record IsObeyed (known : Option Sources) (word : FrameWord) (s : Recorded) (old new : Chosen) (shown shown_after : KeptDisplays) : Type 0 where
  pub chooses : Chooses known word s old new
  pub displays : shown_after.kept.items ≡ displays_by word shown

-- A line that asks one of these words is obeyed, one that is refused changes nothing, and so does one that asks none of them. The truth says whether it asks one
pub data TellsOfCalls (known : Option Sources) (line : List ℕ) (s : Recorded) (old new : Chosen) (shown shown_after : KeptDisplays) : Bool → Type 0 where
  obeyed : (word : FrameWord) → IsAsked line (Some word) → IsObeyed known word s old new shown shown_after → TellsOfCalls known line s old new shown shown_after true
  refused : IsRefused line → new ≡ old → shown_after ≡ shown → TellsOfCalls known line s old new shown shown_after true
  other : IsAsked line None → new ≡ old → shown_after ≡ shown → TellsOfCalls known line s old new shown shown_after false

-- a line chooses another call only if it asks a word that does
pub data IsChosenBy (known : Option Sources) (line : List ℕ) (s : Recorded) (old : Chosen) : Chosen → Type 0 where
  by_word : (word : FrameWord) → IsAsked line (Some word) → (new : Chosen) → Chooses known word s old new → IsChosenBy known line s old new
  still : IsChosenBy known line s old old

-- what is left of it after a line, before which there were so many events, and after which there are so many
pub record LeavesChosen (known : Option Sources) (line : List ℕ) (s : Recorded) (before after : ℕ) (old new : Chosen) : Type 0 where
  pub was : Chosen
  pub by : IsChosenBy known line s old was
  pub is : new ≡ left before after was
