-- The lines that are obeyed after each word that moves the session, and what words do to them.
use Rattle.std.specs.Prelude.{◌≡◌, ℕ, ◌+◌, ◌-◌, ◌^◌, ◌==◌, Bool, not, nat_lt, if◌then◌else◌, List, [], ◌∷◌, ◌++◌, length, filter, min, Option, None, Some}
use Rattle.arrayvec.specs.ArrayString.{ArrayString as Text}
use Rattle.xv_debug.specs.declared.frame_words.Display.{Display}
use Rattle.xv_debug.specs.declared.frame_words.Display.TheVariants as asks
use Rattle.xv_debug.specs.declared.frame_words.FrameWord.{FrameWord}
use Rattle.xv_debug.specs.declared.frame_words.FrameWord.TheVariants as words
use Rattle.xv_debug.specs.declared.displays.TheConstants.{DISPLAYS_MOST}
use Rattle.xv_debug.specs.declared.displays.Displayed.{Displayed}
use Rattle.xv_debug.specs.declared.displays.KeptDisplays.{KeptDisplays}

-- the next one: its number is one more than that of the last that was given
abbrev pub next_display : KeptDisplays → Text → Displayed
next_display displays line = record { number = min (displays.made + 1) (2 ^ 32 - 1); line = line }

-- those after one more is kept, if there is room
abbrev pub kept_after : KeptDisplays → Text → List Displayed
kept_after displays line =
    if nat_lt (length displays.kept.items) DISPLAYS_MOST then displays.kept.items ++ next_display displays line ∷ [] else displays.kept.items

-- how many were given: one more, if there is room
abbrev pub made_after : KeptDisplays → ℕ
made_after displays = if nat_lt (length displays.kept.items) DISPLAYS_MOST then min (displays.made + 1) (2 ^ 32 - 1) else displays.made

-- it has this number
abbrev pub is_numbered : (number : ℕ) → Displayed → Bool
is_numbered number d = d.number == number

-- those that are left without the one of this number, or without any
abbrev pub left_without : Option ℕ → List Displayed → List Displayed
left_without None displays = []
left_without (Some number) displays = filter (λ d. not (is_numbered number d)) displays

-- ---- what words do to them

-- a word that keeps one, forgets some, or shows them
abbrev pub displays_after : Display → KeptDisplays → List Displayed
displays_after (asks.Add line) displays = kept_after displays line
displays_after (asks.Forget number) displays = left_without number displays.kept.items
displays_after asks.Show displays = displays.kept.items
displays_after asks.List displays = displays.kept.items

-- of the words of calls only these do anything to them
abbrev pub displays_by : FrameWord → KeptDisplays → List Displayed
displays_by (words.Display display) shown = displays_after display shown
displays_by _ shown = shown.kept.items
