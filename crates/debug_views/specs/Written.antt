-- What is written behind an answer.
use Rattle.std.specs.Prelude.{◌≡◌, ℕ, List, ◌++◌, String, string_bytes}
use Rattle.std.specs.declared.alloc.Global.{Global}

-- this text, and nothing else
abbrev pub Appends : (old new : String Global) → (text : List ℕ) → Type 0
Appends old new text = string_bytes new ≡ string_bytes old ++ text

-- a text that is so, and nothing else
abbrev pub Writes : (old new : List ℕ) → (List ℕ → Type 0) → Type 0
Writes old new Is = (text : List ℕ) × Is text × (new ≡ old ++ text)
