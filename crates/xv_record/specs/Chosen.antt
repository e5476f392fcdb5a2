-- Which of the programs that are there a record is played with, and why it can't be played with them.
use Rattle.std.specs.Prelude.{◌≡◌, ℕ, List, ◌∷◌, ◌++◌, length, Option, None, Some, find, bytes_eq}
use Rattle.std.specs.List.{All}
use Rattle.sha2.specs.Sha256.{sha256}
use Rattle.xk_base.specs.declared.program.Program.{Program}
use Rattle.xv_record.specs.declared.refusal.RecordRefusal.{RecordRefusal}
use Rattle.xv_record.specs.declared.refusal.RecordRefusal.TheVariants.{Missing, Differs, Memory}
use Rattle.xv_record.specs.declared.sums.ProgramSum.{ProgramSum}
use Rattle.xv_record.specs.Told.{ProgramTold, told_program}

-- the program of this name
abbrev pub named : List Program → (name : List ℕ) → Option Program
named programs name = find (λ p. bytes_eq p.name.items name) programs

-- It has the length and the checksum that were recorded
pub record HasBytes (program : Program) (recorded : ProgramTold) : Type 0 where
  pub size : length program.bytes.items ≡ recorded.size
  pub sum : sha256 program.bytes.items ≡ recorded.sum

-- The program of its name is the one that was recorded
pub record IsThere (programs : List Program) (recorded : ProgramTold) : Type 0 where
  pub found : Program
  pub named : named programs recorded.name ≡ Some found
  pub same : HasBytes found recorded

abbrev pub AreThere : List Program → List ProgramSum → Type 0
AreThere programs recorded = All (λ (w : ProgramSum). IsThere programs (told_program w)) recorded

-- The program of its name is another one
pub record IsOther (programs : List Program) (recorded : ProgramTold) : Type 0 where
  pub found : Program
  pub named : named programs recorded.name ≡ Some found
  pub other : ¬ HasBytes found recorded

-- why a program that was recorded isn't given
abbrev pub IsReason : List Program → ProgramTold → RecordRefusal → Type 0
IsReason programs recorded (Missing name) = (name.now ≡ recorded.name) × (named programs recorded.name ≡ None)
IsReason programs recorded (Differs name) = (name.now ≡ recorded.name) × IsOther programs recorded
IsReason programs recorded Memory = Unit {0}

-- It is refused for a program before which all are there
pub record IsRefused (programs : List Program) (recorded : List ProgramSum) (refusal : RecordRefusal) : Type 0 where
  pub before : List ProgramSum
  pub refused : ProgramSum
  pub after : List ProgramSum
  pub parts : recorded ≡ before ++ refused ∷ after
  pub there : AreThere programs before
  pub reason : IsReason programs (told_program refused) refusal
