-- Which files a run is made of, and what was handed in.
use Rattle.std.specs.Prelude.{◌≡◌, ◌≢◌, ◌⊎◌, ◌==◌, ℕ, ◌<◌, Bool, not, List, [], ◌∷◌, ◌++◌, length, slice_index, map, filter, eqb, codes, string_bytes, Option, None, Some, String}
use Rattle.std.specs.declared.alloc.Global.{Global}
use Rattle.std.specs.List.{find, starts_with, concat}
use Rattle.std.specs.Str.{IsUtf8}
use Rattle.grade_sheets.specs.Blanks.{without_blanks}
use Rattle.grade_sheets.specs.declared.exercise.Text.{Text}
use Rattle.kernel_spec.specs.views.State.{ProgramFile, named_file}
use Rattle.program_files.specs.Programs.{IsProgramOf, IsRefusedSource}
use Rattle.program_files.specs.declared.refusal.FileRefusal.{FileRefusal}
use Rattle.program_files.specs.declared.refusal.FileRefusal.TheVariants.{OutOfMemory}
use Rattle.xk_base.specs.declared.program.Program.{Program}
use Rattle.grade_submissions.specs.Disks.{Reads}
use Rattle.grade_submissions.specs.Encodings.{plain_bytes}
use Rattle.grade_submissions.specs.declared.disk.Found.{Found}
use Rattle.grade_submissions.specs.declared.disk.Found.TheVariants as found
use Rattle.grade_submissions.specs.declared.submission.HandedIn.{HandedIn}
use Rattle.grade_submissions.specs.declared.submission.HandedIn.TheVariants.{File, Refused}
use Rattle.grade_submissions.specs.declared.submission.Submission.{Submission}

-- ---- paths

-- no byte of a text is a slash
abbrev pub HasNoSlash : List ℕ → Type 0
HasNoSlash text = (place : ℕ) → place < length text → slice_index text place ≢ 47

-- the folder of a path: what stands before its last slash; the present one, if it has no slash
abbrev pub IsFolderOf : (path folder : List ℕ) → Type 0
IsFolderOf path folder = ((name : List ℕ) × (path ≡ folder ++ (codes "/" ++ name)) × HasNoSlash name) ⊎ ((folder ≡ codes ".") × HasNoSlash path)

-- the path of a file in a folder
abbrev pub path_in : (folder file : List ℕ) → List ℕ
path_in folder file = folder ++ (codes "/" ++ file)

-- the name in a path: what stands behind its last slash; all of it, if it has no slash
abbrev pub IsNameIn : (path name : List ℕ) → Type 0
IsNameIn path name = HasNoSlash name × ((path ≡ name) ⊎ ((folder : List ℕ) × (path ≡ path_in folder name)))

-- a path ends with a slash, behind this
abbrev pub IsBeforeSlash : (path bare : List ℕ) → Type 0
IsBeforeSlash path bare = path ≡ bare ++ codes "/"

-- the last part of a path: the name in it; a slash at its end doesn't count
abbrev pub IsLastPart : (path name : List ℕ) → Type 0
IsLastPart path name =
    ((bare : List ℕ) × IsBeforeSlash path bare × IsNameIn bare name)
    ⊎ (((bare : List ℕ) → ¬ IsBeforeSlash path bare) × IsNameIn path name)

-- ---- the files of an exercise

-- this is the program of this file, read in this folder
pub record IsFoundIn (reads : Reads) (folder file : List ℕ) (program : Program) : Type 0 where
  pub bytes : List ℕ
  pub read : reads.bytes (path_in folder file) bytes
  pub made : IsProgramOf (path_in folder file) bytes program

-- these are the programs of these files, in their order
abbrev pub AreFoundIn : Reads → (folder : List ℕ) → List (String Global) → List Program → Type 0
AreFoundIn reads folder [] [] = Unit {0}
AreFoundIn reads folder [] (program ∷ programs) = ⊥
AreFoundIn reads folder (file ∷ files) [] = ⊥
AreFoundIn reads folder (file ∷ files) (program ∷ programs) = IsFoundIn reads folder (string_bytes file) program × AreFoundIn reads folder files programs

-- a text of the exercise, as a file of the machine
abbrev pub text_file : Text → ProgramFile
text_file text = record { name = string_bytes text.name; bytes = string_bytes text.text }

-- ---- a file that is handed in

abbrev pub is_return : ℕ → Bool
is_return byte = byte == 13

abbrev pub without_returns : List ℕ → List ℕ
without_returns text = filter (λ b. not (is_return b)) text

-- the text of bytes: without carriage returns; empty if they aren't UTF-8
pub record IsTextOf (bytes text : List ℕ) : Type 0 where
  pub of_text : IsUtf8 bytes → text ≡ without_returns bytes
  pub of_other : ¬ (IsUtf8 bytes) → text ≡ []

-- a file of this name and these bytes is run as this: it isn't empty, and has a program
pub record IsSubmissionOf (file bytes : List ℕ) (s : Submission) : Type 0 where
  pub some : without_blanks bytes ≢ []
  pub named : string_bytes s.file ≡ file
  pub program : IsProgramOf file bytes s.program
  pub same : s.bytes.items ≡ bytes
  pub text : IsTextOf bytes (string_bytes s.text)

-- that a file of this name isn't run, for this
abbrev pub unfit_text : (file why : List ℕ) → List ℕ
unfit_text file why = file ++ (codes ": " ++ why)

-- the assembler refuses it: it is a source that isn't text, or has a fault
pub record IsFaulty (file bytes : List ℕ) : Type 0 where
  pub refusal : FileRefusal
  pub refused : IsRefusedSource file bytes refusal
  pub its_own : refusal ≢ OutOfMemory

-- it isn't run: it is empty, or the assembler refuses it
abbrev pub IsUnfit : (file bytes why : List ℕ) → Type 0
IsUnfit file bytes why =
    ((without_blanks bytes ≡ []) × (why ≡ unfit_text file (codes "empty"))) ⊎ ((without_blanks bytes ≢ []) × IsFaulty file bytes)

abbrev pub IsTakenAs : (file bytes : List ℕ) → HandedIn → Type 0
IsTakenAs file bytes (File s) = IsSubmissionOf file bytes s
IsTakenAs file bytes (Refused why) = IsUnfit file bytes (string_bytes why)

-- it is refused in these words
abbrev pub IsRefusedAs : (text : List ℕ) → Option HandedIn → Type 0
IsRefusedAs text (Some (Refused why)) = string_bytes why ≡ text
IsRefusedAs text (Some (File s)) = ⊥
IsRefusedAs text None = ⊥

abbrev pub IsGiven : (file bytes : List ℕ) → Option HandedIn → Type 0
IsGiven file bytes (Some h) = IsTakenAs file bytes h
IsGiven file bytes None = ⊥

-- if these are its bytes in UTF-8; none if it begins as UTF-16, and isn't
abbrev pub IsReadAs : (file : List ℕ) → (plain : Option (List ℕ)) → Option HandedIn → Type 0
IsReadAs file (Some bytes) o = IsGiven file bytes o
IsReadAs file None o = IsRefusedAs (unfit_text file (codes "begins as a text of UTF-16, and isn't one")) o

-- what is handed in under this name, if a look at it finds this: nothing if nothing is there
abbrev pub IsFoundAs : (file : List ℕ) → Found → Option HandedIn → Type 0
IsFoundAs file found.Nothing o = o ≡ None
IsFoundAs file found.NoFile o = IsRefusedAs (unfit_text file (codes "not a plain file")) o
IsFoundAs file found.TooLong o = IsRefusedAs (unfit_text file (codes "too long")) o
IsFoundAs file (found.File bytes) o = IsReadAs file (plain_bytes bytes.items) o

-- ---- the files that may be handed in

-- where what is handed in lies: its folder, and the lines that say which files there aren't to be run
pub record Handing : Type 0 where
  pub folder : List ℕ
  pub refused : List (List ℕ)

-- a line says why a file of this name isn't to be run
abbrev pub speaks_of : (file line : List ℕ) → Bool
speaks_of file line = starts_with eqb line (unfit_text file [])

-- a look at the folder finds this
pub record IsLookedAt (reads : Reads) (folder file : List ℕ) (o : Option HandedIn) : Type 0 where
  pub there : Found
  pub read : reads.found (path_in folder file) there
  pub is : IsFoundAs file there o

abbrev pub IsSaidOf : Reads → (folder file : List ℕ) → (line : Option (List ℕ)) → Option HandedIn → Type 0
IsSaidOf reads folder file (Some line) o = IsRefusedAs line o
IsSaidOf reads folder file None o = IsLookedAt reads folder file o

-- what is handed in under this name: it is refused by the first line that speaks of it, or is what a look finds
abbrev pub IsUnder : Reads → Handing → (file : List ℕ) → Option HandedIn → Type 0
IsUnder reads handing file o = IsSaidOf reads handing.folder file (find (speaks_of file) handing.refused) o

-- none of these files is there
abbrev pub IsNoneThere : Reads → Handing → List (String Global) → Type 0
IsNoneThere reads handing [] = Unit {0}
IsNoneThere reads handing (file ∷ files) = IsUnder reads handing (string_bytes file) None × IsNoneThere reads handing files

-- this is the first of these files that is there
abbrev pub IsFirstThere : Reads → Handing → List (String Global) → HandedIn → Type 0
IsFirstThere reads handing [] h = ⊥
IsFirstThere reads handing (file ∷ files) h =
    IsUnder reads handing (string_bytes file) (Some h) ⊎ (IsUnder reads handing (string_bytes file) None × IsFirstThere reads handing files h)

-- that none of these files is there, in words
abbrev pub or_names : List (String Global) → List ℕ
or_names files = concat (map (λ file. codes " or " ++ string_bytes file) files)

abbrev pub no_file_text : List (String Global) → List ℕ
no_file_text [] = codes "no file"
no_file_text (file ∷ files) = codes "no file " ++ (string_bytes file ++ or_names files)

-- what is handed in: the first of these files that is there, or it is refused since none is
abbrev pub IsHandedIn : Reads → Handing → List (String Global) → HandedIn → Type 0
IsHandedIn reads handing files h =
    IsFirstThere reads handing files h ⊎ (IsNoneThere reads handing files × IsRefusedAs (no_file_text files) (Some h))

-- ---- names

-- the lines that say which files aren't to be run: none, or those of the file that the settings name
abbrev pub AreRefusedBy : Reads → Option (String Global) → (text : List ℕ) → Type 0
AreRefusedBy reads None text = text ≡ []
AreRefusedBy reads (Some path) text = reads.bytes (string_bytes path) text

-- the name of a submission: the last part of its folder's path, or the bytes of the file that the settings name
abbrev pub IsNameOf : Reads → Option (String Global) → (folder name : List ℕ) → Type 0
IsNameOf reads None folder name = IsLastPart folder name
IsNameOf reads (Some path) folder name = reads.bytes (string_bytes path) name

-- a name as its line has it: as it is, if it is UTF-8
abbrev pub IsShownAs : (name shown : List ℕ) → Type 0
IsShownAs name shown = IsUtf8 name → shown ≡ name

-- ---- the programs of a run

-- those of the exercise's files, its texts, and what was handed in
abbrev pub programs_of : List Program → List Text → Submission → List ProgramFile
programs_of files texts s = map named_file files ++ map text_file texts ++ named_file s.program ∷ []
