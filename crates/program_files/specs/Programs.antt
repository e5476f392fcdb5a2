-- Which program a file is, by its path and its bytes.
use Rattle.std.specs.Prelude.{◌≡◌, ◌≢◌, ◌⊎◌, ℕ, ◌<◌, ◌≤◌, List, [], ◌∷◌, ◌++◌, length, slice_index, codes, string_bytes, String, Option, None, IfSome, Result, Ok, Err}
use Rattle.std.specs.Str.{IsUtf8}
use Rattle.std.specs.declared.alloc.Global.{Global}
use Rattle.uasm_core.specs.declared.error.AsmError.{AsmError}
use Rattle.uasm_core.specs.declared.error.AsmError.TheVariants.{Memory, At}
use Rattle.uasm_core.specs.FileFormat.{file_of}
use Rattle.xk_base.specs.declared.limits.TheConstants.{PROGRAM_BYTES}
use Rattle.xk_base.specs.declared.program.Program.{Program}
use Rattle.program_files.specs.declared.refusal.FileRefusal.{FileRefusal}
use Rattle.program_files.specs.declared.refusal.FileRefusal.TheVariants.{CannotBeRead, TooLong, NotText, Assembly, NoSuchName, NoTable, OutOfMemory}

-- a path is a name, or ends with a slash and a name
abbrev pub EndsPath : (path name : List ℕ) → Type 0
EndsPath path name = (path ≡ name) ⊎ ((folder : List ℕ) × (path ≡ folder ++ (codes "/" ++ name)))

-- the name at the end of a path: it has no slash
pub record IsNameIn (path name : List ℕ) : Type 0 where
  pub ends : EndsPath path name
  pub one : (place : ℕ) → place < length name → slice_index name place ≢ 47

-- the file is a source, whose name without its end `.s` is this one
abbrev pub IsSource : (path stem : List ℕ) → Type 0
IsSource path stem = IsNameIn path (stem ++ codes ".s")

-- a source is assembled, and its program is named without the `.s`
pub record IsAssembledFrom (path bytes : List ℕ) (program : Program) : Type 0 where
  pub source : IsSource path program.name.items
  pub text : IsUtf8 bytes
  pub file : file_of bytes ≡ Ok program.bytes.items

-- any other file is a program as it is
pub record IsSameAs (path bytes : List ℕ) (program : Program) : Type 0 where
  pub named : IsNameIn path program.name.items
  pub no_source : (stem : List ℕ) → program.name.items ≢ stem ++ codes ".s"
  pub same : program.bytes.items ≡ bytes

-- the program of a file
abbrev pub IsProgramOf : (path bytes : List ℕ) → Program → Type 0
IsProgramOf path bytes program = IsAssembledFrom path bytes program ⊎ IsSameAs path bytes program

-- the first fault of a source
abbrev pub IsFault : (bytes : List ℕ) → AsmError → Type 0
IsFault bytes Memory = ⊥
IsFault bytes (At line kind) = file_of bytes ≡ Err (line, kind)

-- why a source isn't assembled: it isn't text, or its first fault
abbrev pub IsUnassembled : (bytes : List ℕ) → FileRefusal → Type 0
IsUnassembled bytes (NotText p) = ¬ (IsUtf8 bytes)
IsUnassembled bytes (Assembly p error) = IsUtf8 bytes × IsFault bytes error
IsUnassembled bytes OutOfMemory = Unit {0}
IsUnassembled bytes (CannotBeRead p) = ⊥
IsUnassembled bytes (TooLong p) = ⊥
IsUnassembled bytes (NoSuchName p) = ⊥
IsUnassembled bytes (NoTable p) = ⊥

-- it is a source that isn't assembled
pub record IsRefusedSource (path bytes : List ℕ) (why : FileRefusal) : Type 0 where
  pub stem : List ℕ
  pub source : IsSource path stem
  pub unassembled : IsUnassembled bytes why

-- why a file has no program: memory ran out, or it is a source that isn't assembled
abbrev pub IsUnmade : (path bytes : List ℕ) → FileRefusal → Type 0
IsUnmade path bytes why = (why ≡ OutOfMemory) ⊎ IsRefusedSource path bytes why

-- ---- files that were opened, of which these bytes are known to be left to read

-- these bytes were read: they are all, and not too many
pub record IsRead (known : Option (List ℕ)) (bytes : List ℕ) : Type 0 where
  pub short : length bytes ≤ PROGRAM_BYTES
  pub all : IfSome known (λ rest. bytes ≡ rest)

-- why a file isn't read
abbrev pub IsUnread : (path : List ℕ) → (known : Option (List ℕ)) → FileRefusal → Type 0
IsUnread path known (CannotBeRead p) = p.now ≡ path
IsUnread path known (TooLong p) = (p.now ≡ path) × IfSome known (λ rest. PROGRAM_BYTES < length rest)
IsUnread path known OutOfMemory = Unit {0}
IsUnread path known (NotText p) = ⊥
IsUnread path known (Assembly p error) = ⊥
IsUnread path known (NoSuchName p) = ⊥
IsUnread path known (NoTable p) = ⊥

-- why it isn't opened
abbrev pub IsUnopened : (path : List ℕ) → FileRefusal → Type 0
IsUnopened path (CannotBeRead p) = p.now ≡ path
IsUnopened path OutOfMemory = Unit {0}
IsUnopened path (TooLong p) = ⊥
IsUnopened path (NotText p) = ⊥
IsUnopened path (Assembly p error) = ⊥
IsUnopened path (NoSuchName p) = ⊥
IsUnopened path (NoTable p) = ⊥

-- the program of a file
pub record IsProgramIn (path : List ℕ) (known : Option (List ℕ)) (program : Program) : Type 0 where
  pub bytes : List ℕ
  pub read : IsRead known bytes
  pub made : IsProgramOf path bytes program

-- its source is read, and isn't assembled
pub record IsFaultyFile (path : List ℕ) (known : Option (List ℕ)) (why : FileRefusal) : Type 0 where
  pub bytes : List ℕ
  pub read : IsRead known bytes
  pub refused : IsRefusedSource path bytes why

-- why it has no program
abbrev pub HasNoProgram : (path : List ℕ) → (known : Option (List ℕ)) → FileRefusal → Type 0
HasNoProgram path known why = IsUnread path known why ⊎ IsFaultyFile path known why

-- these are the programs of the host's files of these paths, whose bytes nobody knows
abbrev pub AreProgramsIn : List (String Global) → List Program → Type 0
AreProgramsIn [] [] = Unit {0}
AreProgramsIn [] (program ∷ programs) = ⊥
AreProgramsIn (path ∷ paths) [] = ⊥
AreProgramsIn (path ∷ paths) (program ∷ programs) = IsProgramIn (string_bytes path) None program × AreProgramsIn paths programs
