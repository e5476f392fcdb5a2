-- The notes that runs of equal ones stand for. Only the private functions of the trace speak of runs.
use Rattle.std.specs.Prelude.{◌≡◌, ℕ, ◌+◌, ◌-◌, ◌%◌, ◌^◌, ◌<◌, ◌≤◌, List, [], ◌∷◌, ◌++◌, length, replicate}
use Rattle.circular_buffer.specs.Buffer.{Buffer, buffer, keep_last}
use Rattle.xv_machine.specs.declared.trace.Note.{Note}
use Rattle.xv_machine.specs.declared.fast.trace_runs.Run.{Run}
use Rattle.xv_machine.specs.declared.fast.trace_runs.Trace.TheInside.{Inside}

-- how far it is from one count to a later one, where 64 bits count
unfoldable pub gap : ℕ → ℕ → ℕ
gap from to = (to + (2 ^ 64 - from)) % 2 ^ 64

-- the notes of runs, of which the newest comes first: a run ends where the next one begins, and the newest where the count stands
abbrev pub written : ℕ → List Run → List Note
written count [] = []
written count (r ∷ rs) = written r.begin rs ++ replicate (gap r.begin count) r.note

-- a run that ends here has a note, and fewer than 2^32
pub record IsRun (count : ℕ) (r : Run) : Type 0 where
  pub begins : r.begin < 2 ^ 64
  pub some : 0 < gap r.begin count
  pub few : gap r.begin count < 2 ^ 32

abbrev pub AreRuns : ℕ → List Run → Type 0
AreRuns count [] = Unit {0}
AreRuns count (r ∷ rs) = IsRun count r × AreRuns r.begin rs

-- the newest run has this note, and with so many more it has fewer than 2^32
abbrev pub GoesOn : ℕ → List Run → Note → ℕ → Type 0
GoesOn count [] note more = ⊥
GoesOn count (r ∷ rs) note more = (r.note ≡ note) × (gap r.begin count + more < 2 ^ 32)

-- the last notes, as many as there is room for runs
abbrev pub notes_of : Inside → Buffer Note
notes_of t = buffer (keep_last t.runs.capacity (written t.count t.runs.items)) t.runs.capacity

pub record IsTrace (t : Inside) : Type 0 where
  pub written : AreRuns t.count t.runs.items
  pub within : length t.runs.items ≤ t.runs.capacity
  pub few : t.runs.capacity < 2 ^ 32
