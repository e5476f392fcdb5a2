-- What the console showed while a word was obeyed, as it is told.
use Rattle.std.specs.Prelude.{ℕ, ◌==◌, ◌&&◌, nat_le, Bool, true, if◌then◌else◌, List, [], ◌∷◌, ◌++◌, codes}
use Rattle.std.specs.List.{concat}
use Rattle.xv_debug.specs.declared.motion.output.Output.{Output}
use Rattle.debug_words.specs.Texts.{many}

-- a byte as a terminal shows it: a dot if it is no visible character and no line's end
abbrev pub byte_shown : ℕ → ℕ
byte_shown b = if b == 10 then 10 else (if nat_le 32 b && nat_le b 126 then b else 46)

-- behind a bar if it begins a line
abbrev pub with_bar : (begins : Bool) → ℕ → List ℕ
with_bar begins b = (if begins then codes "| " else []) ++ byte_shown b ∷ []

-- bytes with a bar before each line, in which a line begins or goes on; the last line ends
abbrev pub behind_bars : (begins : Bool) → List ℕ → List ℕ
behind_bars begins [] = if begins then [] else codes "\n"
behind_bars begins (b ∷ bytes) = with_bar begins b ++ behind_bars (b == 10) bytes

-- how many bytes there were
abbrev pub output_head : (count : ℕ) → List ℕ
output_head count = concat (codes "the console shows " ∷ many count (codes "byte") ∷ codes ":\n" ∷ [])

-- and the last of them; nothing if there were none
abbrev pub output_text : Output → List ℕ
output_text o = if o.count == 0 then [] else output_head o.count ++ behind_bars true o.last.items
