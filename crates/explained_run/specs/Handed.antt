-- What is handed on of a run.
use Rattle.std.specs.Prelude.{◌≡◌, ℕ, List, Option, None, Some, ⊤}

-- what was handed on is just this text, if that is told
abbrev pub Holds : (handed : Option (List ℕ)) → (text : List ℕ) → Type 0
Holds None text = ⊤
Holds (Some held) text = held ≡ text
