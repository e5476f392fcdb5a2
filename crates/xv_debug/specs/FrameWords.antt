-- What a line asks that begins with a word of calls, or of what is shown again and again (Debugging with GDB, "Selecting a Frame" and "Automatic Display").
use Rattle.std.specs.Prelude.{◌≡◌, ◌≢◌, ◌≤◌, ◌<◌, ◌^◌, ◌==◌, ◌||◌, ℕ, Bool, true, false, if◌then◌else◌, List, [], ◌∷◌, bytes_eq, codes, Option, Some, None, option_map}
use Rattle.std.specs.List.{after_first, before_first, concat}
use Rattle.std.specs.Str.{trim}
use Rattle.std.specs.Str.Parse.{IsNumeral, digits_value, without_leading_plus}
use Rattle.arrayvec.specs.ArrayString.{ArrayString as Text}
use Rattle.xv_debug.specs.declared.frame_words.Choice.{Choice}
use Rattle.xv_debug.specs.declared.frame_words.Choice.TheVariants as choices
use Rattle.xv_debug.specs.declared.frame_words.Display.{Display}
use Rattle.xv_debug.specs.declared.frame_words.Display.TheVariants as displays
use Rattle.xv_debug.specs.declared.frame_words.FrameTopic.{FrameTopic}
use Rattle.xv_debug.specs.declared.frame_words.FrameTopic.TheVariants as topics
use Rattle.xv_debug.specs.declared.frame_words.FrameWord.{FrameWord}
use Rattle.xv_debug.specs.declared.frame_words.FrameWord.TheVariants as words

-- ---- the parts of a line

-- what stands before the first byte of this kind, and after it
abbrev pub before : (separator : ℕ) → List ℕ → List ℕ
before separator text = before_first (λ byte. byte == separator) text

abbrev pub behind : (separator : ℕ) → List ℕ → List ℕ
behind separator text = after_first (λ byte. byte == separator) text

-- the word at the head of a line, up to a blank (32); the text behind it, without the blanks around it
abbrev pub first_of : (line : List ℕ) → List ℕ
first_of line = before 32 (trim line)

abbrev pub text_of : (line : List ℕ) → List ℕ
text_of line = trim (behind 32 (trim line))

-- ---- words, by their names

abbrev pub topic_named : (name : List ℕ) → Option FrameTopic
topic_named name =
    if bytes_eq name (codes "up") then Some topics.Up
    else (if bytes_eq name (codes "down") then Some topics.Down
    else (if bytes_eq name (codes "frame") then Some topics.Frame
    else (if bytes_eq name (codes "info locals") then Some topics.Locals
    else (if bytes_eq name (codes "info args") then Some topics.Arguments
    else (if bytes_eq name (codes "whatis") then Some topics.Whatis
    else (if bytes_eq name (codes "ptype") then Some topics.Ptype
    else (if bytes_eq name (codes "display") then Some topics.Display
    else (if bytes_eq name (codes "undisplay") then Some topics.Undisplay
    else (if bytes_eq name (codes "info display") then Some topics.Displays
    else None)))))))))

-- `f` is short for `frame`
abbrev pub topic_of : (name : List ℕ) → Option FrameTopic
topic_of name = if bytes_eq name (codes "f") then Some topics.Frame else topic_named name

-- ---- numbers

-- a number is written in decimal digits, behind a plus if need be, and is less than 2 ^ 32
abbrev pub IsNumber : (text : List ℕ) → (number : ℕ) → Type 0
IsNumber text number = IsNumeral 10 (without_leading_plus text) × (number ≡ digits_value 10 (without_leading_plus text)) × (number < 2 ^ 32)

-- the number that a text writes, at least this
abbrev pub IsNumberFrom : (least : ℕ) → (text : List ℕ) → (number : ℕ) → Type 0
IsNumberFrom least text number = IsNumber text number × (least ≤ number)

-- the same, or none if there is no text
abbrev pub IsNumberIf : (least : ℕ) → (text : List ℕ) → Option ℕ → Type 0
IsNumberIf least text None = text ≡ []
IsNumberIf least text (Some number) = IsNumberFrom least text number

-- a text that is no such number
abbrev pub HasNoNumber : (least : ℕ) → (text : List ℕ) → Type 0
HasNoNumber least text = (text ≢ []) × ((number : ℕ) → ¬ IsNumberFrom least text number)

-- ---- what is asked

-- `info display`, and `info frame`
abbrev pub info_word : (text : List ℕ) → Option FrameWord
info_word text =
    if bytes_eq text (codes "display") then Some (words.Display displays.List)
    else (if bytes_eq text (codes "frame") || bytes_eq text (codes "f") then Some (words.Choose (choices.Frame None)) else None)

-- the line that tells what a text is about, in a form
abbrev pub line_of : (form text : List ℕ) → List ℕ
line_of form text =
    if bytes_eq form (codes "") then concat (codes "print " ∷ text ∷ codes "" ∷ codes "" ∷ [])
    else (if bytes_eq form (codes "x") then concat (codes "print/x " ∷ text ∷ codes "" ∷ codes "" ∷ [])
    else concat (codes "x/" ∷ form ∷ codes " " ∷ text ∷ []))

-- all of them are shown if there is no text, and else this line is kept
abbrev pub IsDisplay : (form text : List ℕ) → Display → Type 0
IsDisplay form text displays.Show = text ≡ []
IsDisplay form text (displays.Add line) = (text ≢ []) × (line.bytes ≡ line_of form text)
IsDisplay form text (displays.Forget number) = ⊥
IsDisplay form text displays.List = ⊥

-- what the word of a topic asks, with its form and the text behind it: nothing, if it is read elsewhere
abbrev pub IsAskedBy : FrameTopic → (form text : List ℕ) → Option FrameWord → Type 0
IsAskedBy topics.Up form text word = (count : Option ℕ) × IsNumberIf 1 text count × (word ≡ Some (words.Choose (choices.Up count)))
IsAskedBy topics.Down form text word = (count : Option ℕ) × IsNumberIf 1 text count × (word ≡ Some (words.Choose (choices.Down count)))
IsAskedBy topics.Frame form text word = (number : Option ℕ) × IsNumberIf 0 text number × (word ≡ Some (words.Choose (choices.Frame number)))
IsAskedBy topics.Undisplay form text word = (number : Option ℕ) × IsNumberIf 1 text number × (word ≡ Some (words.Display (displays.Forget number)))
IsAskedBy topics.Display form text word = (display : Display) × IsDisplay form text display × (word ≡ Some (words.Display display))
IsAskedBy topics.Whatis form text word = (text ≢ []) × (word ≡ None)
IsAskedBy topics.Ptype form text word = (text ≢ []) × (word ≡ None)
IsAskedBy topics.Locals form text word = word ≡ None
IsAskedBy topics.Arguments form text word = word ≡ None
IsAskedBy topics.Displays form text word = word ≡ None

-- why it is refused: a number that isn't one, a line that is too long, or nothing behind `whatis`
abbrev pub IsRefusedBy : FrameTopic → (form text : List ℕ) → Type 0
IsRefusedBy topics.Up form text = HasNoNumber 1 text
IsRefusedBy topics.Down form text = HasNoNumber 1 text
IsRefusedBy topics.Frame form text = HasNoNumber 0 text
IsRefusedBy topics.Undisplay form text = HasNoNumber 1 text
IsRefusedBy topics.Display form text = text ≢ []
IsRefusedBy topics.Whatis form text = text ≡ []
IsRefusedBy topics.Ptype form text = text ≡ []
IsRefusedBy topics.Locals form text = ⊥
IsRefusedBy topics.Arguments form text = ⊥
IsRefusedBy topics.Displays form text = ⊥

-- a word that is of no topic asks nothing
abbrev pub IsAskedIf : Option FrameTopic → (form text : List ℕ) → Option FrameWord → Type 0
IsAskedIf None form text word = word ≡ None
IsAskedIf (Some topic) form text word = IsAskedBy topic form text word

abbrev pub IsRefusedIf : Option FrameTopic → (form text : List ℕ) → Type 0
IsRefusedIf None form text = ⊥
IsRefusedIf (Some topic) form text = IsRefusedBy topic form text

-- ---- lines

abbrev pub is_info : (first : List ℕ) → Bool
is_info first = bytes_eq first (codes "info") || bytes_eq first (codes "i")

abbrev pub is_help : (first : List ℕ) → Bool
is_help first = bytes_eq first (codes "help") || bytes_eq first (codes "h")

-- the topic of the word at the head of a line, before its form, which stands behind a slash (47)
abbrev pub topic_in : (line : List ℕ) → Option FrameTopic
topic_in line = topic_of (before 47 (first_of line))

abbrev pub form_in : (line : List ℕ) → List ℕ
form_in line = behind 47 (first_of line)

-- what a line asks of calls, or of what is shown again and again; none if it asks nothing of them
pub data IsAsked (line : List ℕ) : Option FrameWord → Type 0 where
  info : is_info (first_of line) ≡ true → IsAsked line (info_word (text_of line))
  help : is_info (first_of line) ≡ false → is_help (first_of line) ≡ true → IsAsked line (option_map words.Help (topic_named (text_of line)))
  other : (word : Option FrameWord) → is_info (first_of line) ≡ false → is_help (first_of line) ≡ false → IsAskedIf (topic_in line) (form_in line) (text_of line) word → IsAsked line word

-- a line that begins with one of these words, and is none of its forms
pub record IsRefused (line : List ℕ) : Type 0 where
  pub no_info : is_info (first_of line) ≡ false
  pub no_help : is_help (first_of line) ≡ false
  pub refused : IsRefusedIf (topic_in line) (form_in line) (text_of line)
