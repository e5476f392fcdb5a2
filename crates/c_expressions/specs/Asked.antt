-- What a line asks (Debugging with GDB, "Examining Data" and "Examining the Symbol Table").
use Rattle.std.specs.Prelude.{ℕ, ◌==◌, ◌||◌, if◌then◌else◌, List, [], ◌∷◌, bytes_eq, codes, Option, Some, None, option_map}
use Rattle.std.specs.List.{after_first, before_first}
use Rattle.std.specs.Str.{trim}
use Rattle.c_expressions.specs.Tokens.{text_of}
use Rattle.c_expressions.specs.declared.asked.Asked.{Asked}
use Rattle.c_expressions.specs.declared.asked.Asked.TheVariants.{Value, Hexadecimal, Locals, Arguments, «Type» as OfType, Layout}

-- the word before the first blank (32), and the text behind that
abbrev pub word_of : List ℕ → List ℕ
word_of line = before_first (λ byte. byte == 32) line

abbrev pub rest_of : List ℕ → List ℕ
rest_of line = after_first (λ byte. byte == 32) line

-- a text that isn't empty, without the blanks around it
abbrev pub some_text : List ℕ → Option (List ℕ)
some_text [] = None
some_text (byte ∷ bytes) = Some (byte ∷ bytes)

abbrev pub behind : List ℕ → Option (List ℕ)
behind text = some_text (trim text)

-- `info locals` and `info args`
abbrev pub info : List ℕ → Option Asked
info text = if bytes_eq text (codes "locals") then Some Locals else (if bytes_eq text (codes "args") then Some Arguments else None)

-- what a word asks, with the text behind it
abbrev pub asked_by : (word rest : List ℕ) → Option Asked
asked_by word rest =
    if bytes_eq word (codes "print") || (bytes_eq word (codes "p") || bytes_eq word (codes "inspect")) then option_map (λ text. Value (text_of text)) (behind rest)
    else (if bytes_eq word (codes "print/x") || bytes_eq word (codes "p/x") then option_map (λ text. Hexadecimal (text_of text)) (behind rest)
    else (if bytes_eq word (codes "whatis") then option_map (λ text. OfType (text_of text)) (behind rest)
    else (if bytes_eq word (codes "ptype") then option_map (λ text. Layout (text_of text)) (behind rest)
    else (if bytes_eq word (codes "info") then info (trim rest) else None))))

abbrev pub asked_in : List ℕ → Option Asked
asked_in line = asked_by (word_of (trim line)) (rest_of (trim line))

-- what is asked, without the places where its texts stand
abbrev pub seen : Asked → Asked
seen (Value text) = Value (text_of text.now)
seen (Hexadecimal text) = Hexadecimal (text_of text.now)
seen Locals = Locals
seen Arguments = Arguments
seen (OfType text) = OfType (text_of text.now)
seen (Layout text) = Layout (text_of text.now)
