-- What the words of a command line give, by the names of its words.
use Rattle.std.specs.Prelude.{ℕ, Bool, false, List, [], ◌∷◌, find, bytes_eq, codes, string_bytes, String, Option, None, Some}
use Rattle.std.specs.declared.alloc.Global.{Global}
use Rattle.program_files.specs.declared.given.GivenWord.{GivenWord}

abbrev pub texts_in : Option GivenWord → List (String Global)
texts_in None = []
texts_in (Some word) = word.texts.items

-- what is given for the word of this name
abbrev pub word_of : List GivenWord → (name : List ℕ) → Option GivenWord
word_of words name = find (λ (word : GivenWord). bytes_eq word.name.now name) words

abbrev pub texts_of : List GivenWord → (name : List ℕ) → List (String Global)
texts_of words name = texts_in (word_of words name)

abbrev pub first_of : List (String Global) → Option (List ℕ)
first_of [] = None
first_of (text ∷ texts) = Some (string_bytes text)

-- the first of them
abbrev pub text_of : List GivenWord → (name : List ℕ) → Option (List ℕ)
text_of words name = first_of (texts_of words name)

-- an option without a value is given
abbrev pub is_set : Option (List ℕ) → Bool
is_set None = false
is_set (Some text) = bytes_eq text (codes "true")
