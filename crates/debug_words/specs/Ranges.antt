-- In which ranges the numbers of a word lie.
use Rattle.std.specs.Prelude.{ℕ, ◌*◌, ◌<◌, ◌≤◌, length}
use Rattle.debug_words.specs.declared.vocabulary.Word.{Word}
use Rattle.debug_words.specs.declared.vocabulary.Word.TheVariants.{Step, Back, Run, Tick, Key, Send, Memory, Trace, Listing, Numbers}
use Rattle.debug_words.specs.declared.forms.Form.{Form}
use Rattle.debug_words.specs.declared.forms.Form.TheVariants as forms
use Rattle.debug_words.specs.declared.vocabulary.Size.{Size}
use Rattle.debug_words.specs.declared.vocabulary.Size.TheVariants as sizes
use Rattle.debug_words.specs.declared.vocabulary.TheConstants.{EVENTS_MOST, ROUNDS_MOST, OFTEN_MOST, BYTES_MOST, NOTES_MOST, LISTED_MOST}

-- neither less than the one, nor more than the other
pub record IsBetween (least most n : ℕ) : Type 0 where
  pub from : least ≤ n
  pub within : n ≤ most

-- one at least, and at most so many
abbrev pub UpTo : (most n : ℕ) → Type 0
UpTo most n = IsBetween 1 most n

-- how many bytes a number has that is shown of memory
abbrev pub bytes_of : Size → ℕ
bytes_of sizes.Byte = 1
bytes_of sizes.Half = 2
bytes_of sizes.Word = 4
bytes_of sizes.Giant = 8

-- one number at least, and no more bytes than a word shows
pub record AreFew (count : ℕ) (size : Size) : Type 0 where
  pub some : 1 ≤ count
  pub few : bytes_of size * count ≤ BYTES_MOST

-- a form shows one thing at least, and no more than a word does
abbrev pub IsFormInRange : Form → Type 0
IsFormInRange (forms.Numbers count size) = AreFew count size
IsFormInRange (forms.Instructions count) = UpTo LISTED_MOST count

-- A word sends, plays or shows one thing at least, and no more than the greatest number of it
abbrev pub IsInRange : Word → Type 0
IsInRange (Step count) = UpTo EVENTS_MOST count
IsInRange (Back count) = 1 ≤ count
IsInRange (Run rounds) = UpTo ROUNDS_MOST rounds
IsInRange (Tick count) = UpTo OFTEN_MOST count
IsInRange (Send count) = UpTo OFTEN_MOST count
IsInRange (Key keys) = 0 < length keys.items
IsInRange (Memory address count pid) = UpTo BYTES_MOST count
IsInRange (Trace count) = UpTo NOTES_MOST count
IsInRange (Listing from count pid) = UpTo LISTED_MOST count
IsInRange (Numbers from count size pid) = AreFew count size
IsInRange _ = Unit {0}
