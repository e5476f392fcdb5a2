-- Which record the words of a command line ask for, and why they are refused.
use Rattle.std.specs.Prelude.{◌≡◌, ◌<◌, ◌^◌, ℕ, Bool, true, false, if◌then◌else◌, List, [], ◌∷◌, ⊤, Option, None, Some, bytes_eq, codes, drop, find, is_some, length, nat_eq, option_map, position, string_bytes, take, String}
use Rattle.std.specs.Borrow.{Bor}
use Rattle.std.specs.declared.alloc.Global.{Global}
use Rattle.std.specs.Str.Parse.{IsNumeral, digits_value, without_leading_plus}
use Rattle.program_files.specs.Given.{text_of}
use Rattle.program_files.specs.declared.arguments.SettingsError.{SettingsError}
use Rattle.program_files.specs.declared.arguments.SettingsError.TheVariants as settings
use Rattle.program_files.specs.declared.arguments.WordsError.{WordsError}
use Rattle.program_files.specs.declared.arguments.WordsError.TheVariants.{Settings, NoWords}
use Rattle.program_files.specs.declared.given.GivenWord.{GivenWord}
use Rattle.program_files.specs.declared.options.NumberOption.{NumberOption}
use Rattle.recorded_runs.specs.declared.words.Replay.{Replay}
use Rattle.recorded_runs.specs.declared.words.ReplayRefusal.{ReplayRefusal}
use Rattle.recorded_runs.specs.declared.words.ReplayRefusal.TheVariants.{NoRecord, NoNumber, Beside}
use Rattle.recorded_runs.specs.declared.words.ReplayWords.{ReplayWords}

-- ---- an option that stands among words

-- what stands in a text after this beginning, if it begins so
abbrev pub after : (text beginning : List ℕ) → Option (List ℕ)
after text beginning = if bytes_eq (take (length beginning) text) beginning then Some (drop (length beginning) text) else None

-- the name of an option ends where its word does, or before `=`
abbrev pub ends_name : (rest : Option (List ℕ)) → Bool
ends_name None = false
ends_name (Some []) = true
ends_name (Some (b ∷ rest)) = nat_eq b 61

abbrev pub is_named : (text : Option (List ℕ)) → (name : List ℕ) → Bool
is_named None name = false
is_named (Some text) name = ends_name (after text name)

-- a word is the option of this name, alone as `--NAME`, or with its value as `--NAME=VALUE`
abbrev pub is_option : (word name : List ℕ) → Bool
is_option word name = is_named (after word (codes "--")) name

-- the name of the first of these options that a word is
abbrev pub option_of : (word : List ℕ) → List (Bor NumberOption) → Option (List ℕ)
option_of word options = option_map (λ (o : Bor NumberOption). o.now.name.now) (find (λ (o : Bor NumberOption). is_option word o.now.name.now) options)

-- behind the word `--` there are no options
abbrev pub is_end : (word : List ℕ) → Bool
is_end word = bytes_eq word (codes "--")

-- the place of the first such word
abbrev pub end_place : List (String Global) → Option ℕ
end_place words = position (λ (word : String Global). is_end (string_bytes word)) words

-- the words before a place; all if there is none
abbrev pub up_to : (place : Option ℕ) → List (String Global) → List (String Global)
up_to None words = words
up_to (Some place) words = take place words

abbrev pub before_end : List (String Global) → List (String Global)
before_end words = up_to (end_place words) words

-- a word is one of these options
abbrev pub is_any : (word : List ℕ) → List (Bor NumberOption) → Bool
is_any word options = is_some (option_of word options)

-- the first of these words that is one
abbrev pub option_word : List (String Global) → List (Bor NumberOption) → Option (String Global)
option_word words options = find (λ (word : String Global). is_any (string_bytes word) options) words

-- and the name of the option that it is
abbrev pub name_of : Option (String Global) → List (Bor NumberOption) → Option (List ℕ)
name_of None options = None
name_of (Some word) options = option_of (string_bytes word) options

abbrev pub option_in : List (String Global) → List (Bor NumberOption) → Option (List ℕ)
option_in words options = name_of (option_word words options) options

-- ---- what is given

-- The path is the text that is given for `--replay`, and the number that for `--at`. What stands beside them is the first of these options among the words of the whole command line
pub record AreGiven (all : List (String Global)) (words : List GivenWord) (others : List (Bor NumberOption)) (asked : ReplayWords) : Type 0 where
  pub path : option_map string_bytes asked.path ≡ text_of words (codes "replay")
  pub at : option_map string_bytes asked.at ≡ text_of words (codes "at")
  pub beside : option_map (λ (name : Bor (List ℕ)). name.now) asked.beside ≡ option_in (before_end all) others

-- of some words of a whole command line: which they are, nothing tells
abbrev pub IsGivenSomehow : List GivenWord → List (Bor NumberOption) → ReplayWords → Type 0
IsGivenSomehow words others asked = (all : List (String Global)) × AreGiven all words others asked

-- the host has too little memory for the words, or for what they give
abbrev pub IsWantOfMemory : WordsError → Type 0
IsWantOfMemory NoWords = ⊤
IsWantOfMemory (Settings settings.Memory) = ⊤
IsWantOfMemory (Settings (settings.Words text)) = ⊥

-- a number of events is written in decimal digits, behind a plus if need be, and is less than 2 ^ 64
abbrev pub IsNumber : (text : List ℕ) → Type 0
IsNumber text = IsNumeral 10 (without_leading_plus text) × (digits_value 10 (without_leading_plus text) < 2 ^ 64)

-- the number that a text writes; none if there is no text
abbrev pub IsWritten : (text : Option (List ℕ)) → (number : Option ℕ) → Type 0
IsWritten None None = ⊤
IsWritten None (Some n) = ⊥
IsWritten (Some text) None = ⊥
IsWritten (Some text) (Some n) = IsNumber text × (n ≡ digits_value 10 (without_leading_plus text))

-- the record of the path that was given, up to the number of events that was written, if one was; none if neither was given
abbrev pub IsAsked : ReplayWords → Option Replay → Type 0
IsAsked words None = (words.path ≡ None) × (words.at ≡ None)
IsAsked words (Some r) = (option_map string_bytes words.path ≡ Some r.path.now) × (words.beside ≡ None) × IsWritten (option_map string_bytes words.at) r.at

-- a number without a path; an option beside the path that doesn't go with it; or a text that is no number
abbrev pub IsRefused : ReplayWords → ReplayRefusal → Type 0
IsRefused words NoRecord = (words.path ≡ None) × (is_some words.at ≡ true)
IsRefused words (Beside name) = (is_some words.path ≡ true) × (words.beside ≡ Some name)
IsRefused words (NoNumber text) = (is_some words.path ≡ true) × (option_map string_bytes words.at ≡ Some text.now) × ¬ (IsNumber text.now)
