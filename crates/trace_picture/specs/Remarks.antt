-- What lines tell of a process besides its events.
use Rattle.std.specs.Prelude.{◌≡◌, ℕ, ◌+◌, Bool, true, false, ◌==◌, ◌&&◌, nat_le, nat_lt, List, [], ◌∷◌, ◌++◌, length, flat_map, reverse, Option, None, Some, ⊤, option_map, bytes_eq, codes, string_bytes, if◌then◌else◌}
use Rattle.std.specs.List.{after_first, before_first, find, list_any}
use Rattle.std.specs.Option.{option_and_then}
use Rattle.trace_picture.specs.declared.line.Line.{Line}
use Rattle.trace_picture.specs.declared.line.Line.TheVariants.{Event, Name, Waits, Other}
use Rattle.trace_picture.specs.declared.line.Told.{Told}
use Rattle.trace_picture.specs.declared.note.Note.{Note}
use Rattle.trace_picture.specs.declared.remark.Remark.{Remark}
use Rattle.trace_picture.specs.declared.remark.Remarks.{Remarks}
use Rattle.trace_picture.specs.Notes.{is_blank, note_of_line, unsigned}

-- it tells of this process, and stands behind so many events or fewer
abbrev pub is_told : (pid events : ℕ) → Remark → Bool
is_told pid events remark = remark.pid == pid && nat_le remark.place events

-- of remarks in the order of their lines, the last on a process that stands behind so many events or fewer
abbrev pub last_told : (pid events : ℕ) → List Remark → Option Remark
last_told pid events remarks = find (is_told pid events) (reverse remarks)

-- the program that a process runs behind the first events, so many: none if nothing told of it
abbrev pub program_at : Remarks → (pid events : ℕ) → Option (List ℕ)
program_at remarks pid events = option_map (λ r. string_bytes r.text) (last_told pid events remarks.names.items)

-- its text, if it stands behind more events than these
abbrev pub told_behind : (first : ℕ) → Option Remark → Option (List ℕ)
told_behind first None = None
told_behind first (Some remark) = if nat_lt first remark.place then Some (string_bytes remark.text) else None

-- what a process waits for that sleeps from an event on, up to the first events, so many: none if nothing told it in between
abbrev pub wait_in : Remarks → (pid first behind : ℕ) → Option (List ℕ)
wait_in remarks pid first behind = told_behind first (last_told pid behind remarks.waits.items)

-- ---- what a line tells

-- what stands before the first blank of a text, and what stands behind it
abbrev pub at_blank : (text : List ℕ) → Option (List ℕ × List ℕ)
at_blank text = if list_any is_blank text then Some (before_first is_blank text, after_first is_blank text) else None

-- a pid and the text behind it
abbrev pub about_process : (text : List ℕ) → Option (ℕ × List ℕ)
about_process text = option_and_then (λ parts. option_map (λ pid. (pid, parts.1)) (unsigned 32 parts.0)) (at_blank text)

-- the same, if a line begins with this word: `name 3 wc`, `waits 3 read on descriptor 0`
abbrev pub remark_of : (kind line : List ℕ) → Option (ℕ × List ℕ)
remark_of kind line = option_and_then (λ parts. if bytes_eq parts.0 kind then about_process parts.1 else None) (at_blank line)

-- it is what a line tells of this process, which begins with this word
abbrev pub IsOf : (kind : List ℕ) → (pid : ℕ) → (text : List ℕ) → Line → Type 0
IsOf kind pid text (Event note) = ⊥
IsOf kind pid text (Name p t) = (bytes_eq kind (codes "name") ≡ true) × (p ≡ pid) × (string_bytes t ≡ text)
IsOf kind pid text (Waits p t) = (bytes_eq kind (codes "waits") ≡ true) × (p ≡ pid) × (string_bytes t ≡ text)
IsOf kind pid text Other = (bytes_eq kind (codes "name") ≡ false) × (bytes_eq kind (codes "waits") ≡ false)

-- it is what a line tells that is none of a trace: a program's name, what a sleeper waits for, or nothing
abbrev pub IsRemark : (line : List ℕ) → Line → Type 0
IsRemark line (Event note) = ⊥
IsRemark line (Name pid text) = remark_of (codes "name") line ≡ Some (pid, string_bytes text)
IsRemark line (Waits pid text) = remark_of (codes "waits") line ≡ Some (pid, string_bytes text)
IsRemark line Other = (remark_of (codes "name") line ≡ None) × (remark_of (codes "waits") line ≡ None)

-- a line of text tells this: its note if it is a line of a trace, and else a remark
abbrev pub Tells : (line : List ℕ) → Line → Type 0
Tells line (Event note) = note_of_line line ≡ Some note
Tells line (Name pid text) = (note_of_line line ≡ None) × IsRemark line (Name pid text)
Tells line (Waits pid text) = (note_of_line line ≡ None) × IsRemark line (Waits pid text)
Tells line Other = (note_of_line line ≡ None) × IsRemark line Other

-- each of these lines tells the one at its place, and there are no others
abbrev pub TellEach : (texts : List (List ℕ)) → List Line → Type 0
TellEach [] [] = ⊤
TellEach (text ∷ texts) (line ∷ lines) = Tells text line × TellEach texts lines
TellEach _ _ = ⊥

-- ---- what a line adds

-- the events that it tells: one, or none
abbrev pub events_of : Line → List Note
events_of (Event note) = note ∷ []
events_of _ = []

-- the programs' names that it tells, behind so many events: one, or none
abbrev pub names_of : (events : ℕ) → Line → List Remark
names_of events (Name pid text) = record { place = events; pid = pid; text = text } ∷ []
names_of events _ = []

-- what it tells of sleepers, behind so many events
abbrev pub waits_of : (events : ℕ) → Line → List Remark
waits_of events (Waits pid text) = record { place = events; pid = pid; text = text } ∷ []
waits_of events _ = []

-- ---- what lines tell, one after another

-- each behind the events of those before it
abbrev pub all_behind : (tells : ℕ → Line → List Remark) → (events : ℕ) → List Line → List Remark
all_behind tells events [] = []
all_behind tells events (line ∷ lines) = tells events line ++ all_behind tells (events + length (events_of line)) lines

-- this is what the lines of a text tell
pub record IsToldBy (texts : List (List ℕ)) (told : Told) : Type 0 where
  pub lines : List Line
  pub each : TellEach texts lines
  pub notes : told.notes.items ≡ flat_map events_of lines
  pub names : told.remarks.names.items ≡ all_behind names_of 0 lines
  pub waits : told.remarks.waits.items ≡ all_behind waits_of 0 lines
