-- What a file holds of a record while its session goes on.
use Rattle.std.specs.Prelude.{◌≡◌, ℕ, List, ◌++◌, length, take, Option, None, Some, IfSome}
use Rattle.xv_record.specs.declared.line.Line.{Line}
use Rattle.xv_record.specs.Text.{events_text_of}
use Rattle.xv_record.specs.Told.{end_text}

-- known bytes keep so many of their first ones, and in place of all others these come; if they aren't known, they aren't known then
abbrev pub PutBehind : (kept : ℕ) → (bytes : List ℕ) → (old new : Option (List ℕ)) → Type 0
PutBehind kept bytes None new = new ≡ None
PutBehind kept bytes (Some xs) None = ⊥
PutBehind kept bytes (Some xs) (Some ys) = ys ≡ take kept xs ++ bytes

-- so many of a file's first bytes are this head and these lines of events, if its bytes are known
pub record Stands (held : Option (List ℕ)) (standing : ℕ) (head : List ℕ) (lines : List Line) : Type 0 where
  pub size : standing ≡ length (head ++ events_text_of lines)
  pub bytes : IfSome held (λ xs. take standing xs ≡ head ++ events_text_of lines)

-- the file is a whole record: this head, these lines of events, and the last line
abbrev pub IsWholeFile : (held : Option (List ℕ)) → (head : List ℕ) → List Line → Type 0
IsWholeFile held head lines = IfSome held (λ xs. xs ≡ (head ++ events_text_of lines) ++ end_text)

-- Lines stood there. More stand behind them now, and behind those a few that may change yet; with all of them the file is a whole record
pub record Grows (head : List ℕ) (before over last : List Line) (standing : ℕ) (held : Option (List ℕ)) : Type 0 where
  pub stands : Stands held standing head (before ++ over)
  pub whole : IsWholeFile held head ((before ++ over) ++ last)
