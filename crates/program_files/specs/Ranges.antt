-- The numbers that a command line may ask for.
use Rattle.std.specs.Prelude.{◌≤◌, ℕ}

-- frames of RAM
abbrev pub IsFrameCount : ℕ → Type 0
IsFrameCount count = (16 ≤ count) × (count ≤ 32768)

-- the most rounds that are made
abbrev pub IsRoundCount : ℕ → Type 0
IsRoundCount count = count ≤ 1000000000

-- Runs in each round
abbrev pub IsQuantum : ℕ → Type 0
IsQuantum count = (1 ≤ count) × (count ≤ 1000000)

-- the most notes that a trace keeps
abbrev pub IsNoteCount : ℕ → Type 0
IsNoteCount count = count ≤ 65536
