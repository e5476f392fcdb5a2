-- Where a run is, and what a process does, as it is told.
use Rattle.std.specs.Prelude.{◌≡◌, ℕ, ℤ, List, [], ◌∷◌, ◌++◌, codes, decimal, Option, None, Some}
use Rattle.std.specs.Fmt.{signed_decimal}
use Rattle.std.specs.List.{concat}
use Rattle.kcall_core.specs.Observers.{process_at}
use Rattle.kcall_core.specs.declared.kernel.observers.ProcessState.{ProcessState}
use Rattle.xv_session.specs.Recorded.{Recorded}
use Rattle.debug_words.specs.Texts.{named}
use Rattle.debug_views.specs.Focus.{name_in}
use Rattle.xv_debug.specs.Focus.{IsFocus}
use Rattle.xv_debug.specs.ProcessText.{doing_text, place_text}

abbrev pub nobody : List ℕ
nobody = codes "there is no process\n"

-- a process, its program, and what it does
unfoldable pub process_head : Recorded → (p : ℕ) → List ℕ
process_head s p = concat (codes "process " ∷ decimal p ∷ named (name_in s p) ∷ codes " " ∷ doing_text s.machine.world p ∷ codes "\n" ∷ [])

abbrev pub no_process : (p : ℕ) → List ℕ
no_process p = codes "no process has the pid " ++ decimal p ++ codes "; ps lists them\n"

-- a process, and its next instructions, of which nothing is told here
abbrev pub IsThereText : Recorded → (p : ℕ) → List ℕ → Type 0
IsThereText s p text = (instructions : List ℕ) × (text ≡ process_head s p ++ instructions)

-- or that none has this pid
abbrev pub IsProcessText : Recorded → (p : ℕ) → Option ProcessState → List ℕ → Type 0
IsProcessText s p None text = text ≡ no_process p
IsProcessText s p (Some state) text = IsThereText s p text

-- the process that a word looks at, if there is one
abbrev pub IsFocusText : Recorded → (focus : Option ℕ) → List ℕ → Type 0
IsFocusText s None text = text ≡ nobody
IsFocusText s (Some p) text = IsProcessText s p (process_at s.machine.world p) text

abbrev pub if_nobody : (current : Option ℕ) → List ℕ
if_nobody None = codes "nobody runs; "
if_nobody (Some p) = []

-- that, behind whether nobody runs
abbrev pub IsGoingText : Recorded → (focus : Option ℕ) → List ℕ → Type 0
IsGoingText s focus text = (rest : List ℕ) × IsFocusText s focus rest × (text ≡ if_nobody s.machine.world.turns.current ++ rest)

abbrev pub halted_text : (status : ℤ) → List ℕ
halted_text status = codes "the machine has halted, with status " ++ signed_decimal status ++ codes "\n"

-- of a machine that has halted its status
abbrev pub IsStateText : Recorded → (focus : Option ℕ) → (halted : Option ℤ) → List ℕ → Type 0
IsStateText s focus (Some status) text = text ≡ halted_text status
IsStateText s focus None text = IsGoingText s focus text

-- Where the run is, and that of the process that is looked at
abbrev pub IsWhereText : Recorded → (focus : Option ℕ) → List ℕ → Type 0
IsWhereText s focus text = (rest : List ℕ) × IsStateText s focus s.machine.world.turns.halted rest × (text ≡ place_text s ++ rest)

-- of the process that a word looks at, which may name one
abbrev pub IsWhereOf : Recorded → (named : Option ℕ) → List ℕ → Type 0
IsWhereOf s named text = (p : Option ℕ) × IsFocus named s p × IsWhereText s p text
