-- The text of a record's events.
use Rattle.std.specs.Prelude.{ℕ, ◌<◌, ◌^◌, List, [], ◌∷◌, ◌++◌, codes}
use Rattle.std.specs.Fmt.{decimal}
use Rattle.std.specs.List.{All, flat_map}
use Rattle.xv_record.specs.declared.line.Line.{Line}
use Rattle.xv_record.specs.declared.line.Line.TheVariants.{Run, Tick, Send, Key}

-- a word, a number and the line break
abbrev pub worded : List ℕ → ℕ → List ℕ
worded word n = word ++ (decimal n ++ 10 ∷ [])

-- the line of events
abbrev pub line_text : Line → List ℕ
line_text (Run n) = worded (codes "run ") n
line_text (Tick n) = worded (codes "tick ") n
line_text (Send n) = worded (codes "send ") n
line_text (Key b) = worded (codes "key ") b

-- the lines, one behind another
abbrev pub events_text_of : List Line → List ℕ
events_text_of lines = flat_map line_text lines

-- its number is one that a program can hold
abbrev pub IsLine : Line → Type 0
IsLine (Run n) = n < 2 ^ 64
IsLine (Tick n) = n < 2 ^ 64
IsLine (Send n) = n < 2 ^ 64
IsLine (Key b) = b < 2 ^ 8

abbrev pub AreLines : List Line → Type 0
AreLines lines = All IsLine lines
