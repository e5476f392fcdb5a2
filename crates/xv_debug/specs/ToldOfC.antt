-- What is told of what a line asks of a program in C, in the call at which words look, and what is written of it.
use Rattle.std.specs.Prelude.{◌≡◌, ◌⊎◌, ◌++◌, ℕ, Bool, true, false, List, [], ◌∷◌, codes, decimal, length, option_map, Option, None, Some, string_bytes}
use Rattle.std.specs.List.{concat}
use Rattle.c_expressions.specs.Answers.{IsAnswer}
use Rattle.c_expressions.specs.Asked.{asked_in, seen}
use Rattle.c_expressions.specs.declared.asked.Asked.{Asked}
use Rattle.c_expressions.specs.declared.asked.Asked.TheVariants.{Value, Hexadecimal, Locals, Arguments, «Type» as OfType, Layout}
use Rattle.debug_views.specs.Written.{Writes}
use Rattle.debug_words.specs.declared.vocabulary.Word.{Word}
use Rattle.debug_words.specs.declared.vocabulary.Word.TheVariants as words
use Rattle.kcall_core.specs.Observers.{byte_at, registers_of}
use Rattle.rv64i_core.specs.Registers.{Registers}
use Rattle.xv_report.specs.declared.sources.ProgramSource.{ProgramSource}
use Rattle.xv_report.specs.declared.sources.Sources.{Sources}
use Rattle.xv_session.specs.Recorded.{Recorded}
use Rattle.xv_debug.specs.Chosen.{IsLookedAt, address_in, registers_in}
use Rattle.xv_debug.specs.Focus.{IsFocus}
use Rattle.xv_debug.specs.LookText.{Shows}
use Rattle.xv_debug.specs.WhereText.{IsWhereOf}
use Rattle.xv_debug.specs.declared.choosing.Chosen.{Chosen}
use Rattle.xv_debug.specs.declared.choosing.SeenCall.{SeenCall}
use Rattle.xv_debug.specs.declared.displays.Displayed.{Displayed}
use Rattle.xv_debug.specs.declared.variables.ToldInCall.{ToldInCall}

-- ---- what is told in a call

-- In a call of a process the file of its program tells, by where the call stands, by the registers of the call, and by the process's memory; nothing is told if the process is gone
pub data IsToldSeen (source : ProgramSource) (s : Recorded) (p : ℕ) (call : SeenCall) (asked : Asked) (text : Option (List ℕ)) : Type 0 where
  gone : registers_of s.machine.world.state p ≡ None → text ≡ None → IsToldSeen source s p call asked text
  live : (regs : Registers) → registers_of s.machine.world.state p ≡ Some regs
      → IsAnswer source.symbols.now (address_in regs call) (registers_in regs call) (byte_at s.machine.world.state p) asked text → IsToldSeen source s p call asked text

-- the same of a call that may not be there
abbrev pub IsToldIn : ProgramSource → Recorded → (p : ℕ) → Option SeenCall → Asked → (text : Option (List ℕ)) → Type 0
IsToldIn source s p None asked text = text ≡ Some (codes "the call at which words look is not there\n")
IsToldIn source s p (Some call) asked text = IsToldSeen source s p call asked text

-- it is told in the call at which words look, of the process at which they do
pub record IsToldLookedAt (known : Option Sources) (c : Chosen) (s : Recorded) (asked : Asked) (call : Option SeenCall) (text : Option (List ℕ)) : Type 0 where
  pub pid : ℕ
  pub source : ProgramSource
  pub at : IsLookedAt known c s pid source call
  pub told : IsToldIn source s pid call asked text

abbrev pub text_told : Option ToldInCall → Option (List ℕ)
text_told None = None
text_told (Some told) = option_map string_bytes told.text

-- what is told of a line: nothing if it asks nothing of a program in C, or if there is no process
pub data IsToldOf (known : Option Sources) (c : Chosen) (s : Recorded) (line : List ℕ) : Option ToldInCall → Type 0 where
  not_asked : asked_in line ≡ None → IsToldOf known c s line None
  no_process : IsFocus None s None → IsToldOf known c s line None
  told_it : (asked : Asked) → asked_in line ≡ Some (seen asked) → (t : ToldInCall) → IsToldLookedAt known c s asked t.call (option_map string_bytes t.text) → IsToldOf known c s line (Some t)

-- ---- what is written

-- it asks of a call, or of a type: of what no other word tells
abbrev pub is_of_c_alone : Option Asked → Bool
is_of_c_alone None = false
is_of_c_alone (Some (Value text)) = false
is_of_c_alone (Some (Hexadecimal text)) = false
is_of_c_alone (Some Locals) = true
is_of_c_alone (Some Arguments) = true
is_of_c_alone (Some (OfType text)) = true
is_of_c_alone (Some (Layout text)) = true

-- What is told of a line is written; if nothing is, then of a line that no other word answers where the run is. The truth says whether either was
pub data TellsOfC (known : Option Sources) (c : Chosen) (s : Recorded) (line : List ℕ) (old new : List ℕ) : Bool → Type 0 where
  writes : (t : Option ToldInCall) (text : List ℕ) → IsToldOf known c s line t → text_told t ≡ Some text → new ≡ old ++ text → TellsOfC known c s line old new true
  shows_place : (t : Option ToldInCall) → IsToldOf known c s line t → text_told t ≡ None → is_of_c_alone (asked_in line) ≡ true → Writes old new (IsWhereOf s None)
      → TellsOfC known c s line old new true
  writes_nothing : (t : Option ToldInCall) → IsToldOf known c s line t → text_told t ≡ None → is_of_c_alone (asked_in line) ≡ false → new ≡ old → TellsOfC known c s line old new false

-- ---- what is shown again and again

-- what a word tells of numbers or instructions; no other word tells anything there
abbrev pub ShowsRead : Recorded → Word → (old new : List ℕ) → Type 0
ShowsRead s (words.Value n) old new = Shows 0 s (words.Value n) old new
ShowsRead s (words.Numbers from count size pid) old new = Shows 0 s (words.Numbers from count size pid) old new
ShowsRead s (words.Listing from count pid) old new = Shows 0 s (words.Listing from count pid) old new
ShowsRead s _ old new = new ≡ old

-- the line, and what its word tells
pub record IsLineRead (s : Recorded) (line : List ℕ) (word : Word) (old new : List ℕ) : Type 0 where
  pub mid : List ℕ
  pub line_is : mid ≡ old ++ (line ++ codes "\n")
  pub shows : ShowsRead s word mid new

-- the line, and what its word tells, or why it is none
pub data IsLineTold (s : Recorded) (line : List ℕ) (old new : List ℕ) : Type 0 where
  is_read : (word : Word) → IsLineRead s line word old new → IsLineTold s line old new
  is_no_word : (why : List ℕ) → new ≡ old ++ concat (line ∷ codes ": " ∷ why ∷ codes "\n" ∷ []) → IsLineTold s line old new

-- its number, and what its line tells of a program in C, or else as any line
pub data IsDisplayTold (known : Option Sources) (c : Chosen) (s : Recorded) (d : Displayed) (old new : List ℕ) : Type 0 where
  of_c : (mid : List ℕ) → mid ≡ old ++ (decimal d.number ++ codes ": ") → TellsOfC known c s d.line.bytes mid new true → IsDisplayTold known c s d old new
  of_line : (mid : List ℕ) → mid ≡ old ++ (decimal d.number ++ codes ": ") → TellsOfC known c s d.line.bytes mid mid false → IsLineTold s d.line.bytes mid new
      → IsDisplayTold known c s d old new

-- each of them, in their order
abbrev pub AreDisplaysTold : Option Sources → Chosen → Recorded → List Displayed → (old new : List ℕ) → Type 0
AreDisplaysTold known c s [] old new = new ≡ old
AreDisplaysTold known c s (d ∷ ds) old new = (mid : List ℕ) × IsDisplayTold known c s d old mid × AreDisplaysTold known c s ds mid new

-- after a word that has moved the run, to more events or to fewer, they are what is told last
abbrev pub ShowsIfMoved : Option Sources → Chosen → (before : ℕ) → Recorded → List Displayed → (told : List ℕ) → Type 0
ShowsIfMoved known c before s ds told = (before ≡ length s.events) ⊎ ((mid : List ℕ) × AreDisplaysTold known c s ds mid told)
