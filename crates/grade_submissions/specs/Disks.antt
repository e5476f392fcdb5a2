-- What is read of the files of a disk.
use Rattle.std.specs.Prelude.{ℕ, List}
use Rattle.grade_submissions.specs.declared.disk.Found.{Found}

-- What a disk gives if it is read: what lies under a path, and the bytes of a file
pub record Reads : Type 1 where
  pub found : (path : List ℕ) → Found → Type 0
  pub bytes : (path bytes : List ℕ) → Type 0

-- of the host's disk nothing is known
abbrev pub reads_anything : Reads
reads_anything = record { found = λ path found. Unit {0}; bytes = λ path bytes. Unit {0} }
