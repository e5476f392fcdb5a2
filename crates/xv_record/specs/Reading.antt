-- What a text has of a record: all of it, or a part of it that was cut off.
use Rattle.std.specs.Prelude.{◌≡◌, ◌≢◌, ℕ, Bool, true, false, List, [], ◌∷◌, ◌++◌, flat_map, nat_eq, if◌then◌else◌}
use Rattle.xv_record.specs.Told.{RecordTold, IsOneLine, begun_text_of, end_text}
use Rattle.xv_record.specs.declared.reading.Ending.{Ending}
use Rattle.xv_record.specs.declared.reading.Ending.TheVariants.{Whole, Cut, Longer}

-- a byte with a return (13) before it, if it is a line break (10)
abbrev pub with_return : ℕ → List ℕ
with_return byte = if nat_eq byte 10 then 13 ∷ 10 ∷ [] else (byte ∷ [])

-- a text, each of whose line breaks has a return before it if the file has it so
abbrev pub in_form : (returns : Bool) → List ℕ → List ℕ
in_form false text = text
in_form true text = flat_map with_return text

-- what stands behind a record's events: its last line; a part of a line; or the last line, and more
abbrev pub EndsIn : (returns : Bool) → Ending → List ℕ → Type 0
EndsIn returns Whole rest = rest ≡ in_form returns end_text
EndsIn returns Cut rest = IsOneLine rest
EndsIn returns Longer rest = (more : List ℕ) × (more ≢ []) × (rest ≡ in_form returns end_text ++ more)

-- the text is that of a record's head and events, and behind them it ends so
pub record Has (returns : Bool) (text : List ℕ) (r : RecordTold) (ending : Ending) : Type 0 where
  pub rest : List ℕ
  pub text_is : text ≡ in_form returns (begun_text_of r) ++ rest
  pub ends : EndsIn returns ending rest

-- the text has a record
pub record IsTaken (text : List ℕ) (r : RecordTold) (ending : Ending) : Type 0 where
  pub returns : Bool
  pub has : Has returns text r ending
