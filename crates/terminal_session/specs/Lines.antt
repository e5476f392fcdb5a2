-- A line that is typed at the prompt.
use Rattle.std.specs.Prelude.{◌≡◌, ℕ, suc, List, ◌++◌, length, take, drop, insert, nat_lt, if◌then◌else◌}
use Rattle.terminal_session.specs.declared.line_editor.Edit.{Edit}
use Rattle.terminal_session.specs.declared.line_editor.Edit.TheVariants.{Adds, Cuts, Moves, Older, Newer, Completes, Stays, Over, GoesOn, Ends}

-- how many bytes of a line stand before its cursor: all of them, if there are fewer
abbrev pub place : (bytes : List ℕ) → (cursor : ℕ) → ℕ
place bytes cursor = if nat_lt cursor (length bytes) then cursor else length bytes

-- a line without its bytes from one place up to another
abbrev pub cut : (from to : ℕ) → List ℕ → List ℕ
cut from to bytes = take from bytes ++ drop to bytes

-- what a key does to the line and to its cursor
abbrev pub Edits : Edit → (old new : List ℕ × ℕ) → Type 0
Edits (Adds byte) old new = (new.0 ≡ insert old.0 (place old.0 old.1) byte) × (new.1 ≡ suc (place old.0 old.1))
Edits (Cuts from to) old new = (new.0 ≡ cut from to old.0) × (new.1 ≡ from)
Edits (Moves to) old new = (new.0 ≡ old.0) × (new.1 ≡ to)
Edits Older old new = new ≡ old
Edits Newer old new = new ≡ old
Edits Completes old new = new ≡ old
Edits Stays old new = new ≡ old
Edits Over old new = new ≡ old
Edits GoesOn old new = new ≡ old
Edits Ends old new = new ≡ old
