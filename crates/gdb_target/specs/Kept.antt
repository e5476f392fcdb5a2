-- What is kept to be sent again.
use Rattle.std.specs.Prelude.{◌≡◌, ℕ, List, ◌++◌, Option, None, Some}
use Rattle.gdb_packets.specs.Packets.{packet}

-- what is written ends with these bytes, if it is known what was written before
abbrev pub EndsIn : (before after : Option (List ℕ)) → (bytes : List ℕ) → Type 0
EndsIn None after bytes = Unit {0}
EndsIn (Some old) None bytes = ⊥
EndsIn (Some old) (Some all) bytes = (front : List ℕ) × (all ≡ front ++ bytes)

-- It is a packet, and nothing was written after it
pub record IsSentLast (kept : List ℕ) (before after : Option (List ℕ)) : Type 0 where
  pub text : List ℕ
  pub whole : kept ≡ packet text
  pub last : EndsIn before after kept
