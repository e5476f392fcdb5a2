-- Which call words look at, by its number in `bt` (Debugging with GDB, "Selecting a Frame" and "Stack Frames").
use Rattle.std.specs.Prelude.{◌≡◌, ℕ, ◌+◌, ◌-◌, ◌==◌, ◌&&◌, ◌++◌, Bool, true, false, nat_le, nat_lt, min, if◌then◌else◌, length, List, [], ◌∷◌, codes, decimal, Option, None, Some, IfSome, IfNone}
use Rattle.std.specs.List.{concat}
use Rattle.kcall_core.specs.Observers.{registers_of}
use Rattle.kernel_spec.specs.views.State.{State}
use Rattle.kernel_spec.specs.views.Words.{is_this}
use Rattle.rv64i_core.specs.Registers.{Registers}
use Rattle.dwarf.specs.Frames.{FramesOf}
use Rattle.xv_report.specs.Locations.{IsSourceOf}
use Rattle.xv_report.specs.Numbered.{call_of, register_in, returns_of}
use Rattle.xv_report.specs.Reports.{AreCallsOf}
use Rattle.xv_report.specs.Unwound.{frames_known}
use Rattle.xv_report.specs.declared.numbered.NumberedCall.{NumberedCall}
use Rattle.xv_report.specs.declared.sources.ProgramSource.{ProgramSource}
use Rattle.xv_report.specs.declared.sources.Sources.{Sources}
use Rattle.xv_report.specs.declared.unwinding.Calls.{Calls}
use Rattle.xv_session.specs.Names.{place_in}
use Rattle.xv_session.specs.Recorded.{Recorded}
use Rattle.xv_debug.specs.Focus.{IsFocus}
use Rattle.xv_debug.specs.Variables.{register_held}
use Rattle.xv_debug.specs.declared.choosing.Chosen.{Chosen}
use Rattle.xv_debug.specs.declared.frame_words.Choice.{Choice}
use Rattle.xv_debug.specs.declared.frame_words.Choice.TheVariants.{Up, Down, Frame}
use Rattle.xv_debug.specs.declared.frame_words.FrameWord.{FrameWord}
use Rattle.xv_debug.specs.declared.frame_words.FrameWord.TheVariants.{Choose}
use Rattle.xv_debug.specs.declared.choosing.SeenCall.{SeenCall}
use Rattle.xv_debug.specs.declared.choosing.SeenCall.TheVariants.{Last, Caller}
use Rattle.xv_debug.specs.declared.choosing.Unreached.{Unreached}
use Rattle.xv_debug.specs.declared.choosing.Unreached.TheVariants.{Initial, Bottom, Level}

-- ---- how long a call is looked at

abbrev pub none : Chosen
none = record { pid = None; at = 0; number = 0 }

-- it is the one that was chosen, if that is of this process, and was chosen after so many events; else the one that was made last
abbrev pub number_of : Chosen → (p at : ℕ) → ℕ
number_of c p at = if is_this p c.pid && (c.at == at) then c.number else 0

-- after a word that has moved the run none is chosen any more
abbrev pub left : (before after : ℕ) → Chosen → Chosen
left before after c = if before == after then c else none

-- ---- the call after a word; `last` is the number of the first call that led there, `now` that of the call at which words look

abbrev pub steps : Option ℕ → ℕ
steps None = 1
steps (Some count) = count

abbrev pub at_level : Option ℕ → (last now : ℕ) → ℕ
at_level None last now = now
at_level (Some level) last now = if nat_le level last then level else now

-- so many calls up, or as many as there are; so many down, or to the last one; or the one of a level, if there is one
abbrev pub number_after : Choice → (last now : ℕ) → ℕ
number_after (Up count) last now = now + min (steps count) (last - now)
number_after (Down count) last now = now - steps count
number_after (Frame level) last now = at_level level last now

-- ---- when it is told that there is no other one

-- a word with a number goes as far as there are calls
abbrev pub at_end : Option ℕ → (is_end : Bool) → Unreached → Option Unreached
at_end (Some count) is_end why = None
at_end None true why = Some why
at_end None false why = None

abbrev pub no_level : Option ℕ → (last : ℕ) → Option Unreached
no_level None last = None
no_level (Some level) last = if nat_lt last level then Some (Level level) else None

abbrev pub unreached : Choice → (last now : ℕ) → Option Unreached
unreached (Up count) last now = at_end count (nat_le last now) Initial
unreached (Down count) last now = at_end count (now == 0) Bottom
unreached (Frame level) last now = no_level level last

abbrev pub no_level_text : (level : ℕ) → List ℕ
no_level_text level = concat (codes "No frame at level " ∷ decimal level ∷ codes ".\n" ∷ [])

abbrev pub unreached_text : Unreached → List ℕ
unreached_text Initial = codes "Initial frame selected; you can't go up.\n"
unreached_text Bottom = codes "Bottom (innermost) frame selected; you can't go down.\n"
unreached_text (Level level) = no_level_text level

-- ---- the calls of a process, by what is known of the sources of programs

abbrev pub first_number : Option Calls → ℕ
first_number None = 0
first_number (Some calls) = length (returns_of calls)

-- this is the number of the first of them
pub record IsLast (known : Option Sources) (s : Recorded) (p : ℕ) (last : ℕ) : Type 0 where
  pub source : ProgramSource
  pub calls : Option Calls
  pub of : IsSourceOf known s.machine.world.state.programs (place_in p s.names) source
  pub told : IfSome calls (AreCallsOf (frames_known source.symbols.now) s.machine.world.state p)
  pub untold : IfNone calls (registers_of s.machine.world.state p ≡ None)
  pub is : last ≡ first_number calls

-- ---- what a word leaves

-- a call of a process was chosen, at this place of the run
abbrev pub chosen : (p at number : ℕ) → Chosen
chosen p at number = record { pid = Some p; at = at; number = number }

abbrev pub IsChosenOf : (known : Option Sources) → Choice → Recorded → (old new : Chosen) → (focus : Option ℕ) → Type 0
IsChosenOf known choice s old new None = new ≡ old
IsChosenOf known choice s old new (Some p) =
    (last : ℕ) × IsLast known s p last × (new ≡ chosen p (length s.events) (number_after choice last (number_of old p (length s.events))))

-- Of the process that words look at the call is chosen to which the word leads; if there is none, nothing changes
pub record IsChosenAfter (known : Option Sources) (choice : Choice) (s : Recorded) (old new : Chosen) : Type 0 where
  pub focus : Option ℕ
  pub looks : IsFocus None s focus
  pub chooses : IsChosenOf known choice s old new focus

-- the other words choose none
abbrev pub Chooses : (known : Option Sources) → FrameWord → Recorded → (old new : Chosen) → Type 0
Chooses known (Choose choice) s old new = IsChosenAfter known choice s old new
Chooses known _ s old new = new ≡ old

-- ---- what is seen of it

abbrev pub caller_seen : Option NumberedCall → Option SeenCall
caller_seen None = None
caller_seen (Some call) = Some (Caller call)

-- the call of a number: 0 is the one that was made last
abbrev pub seen_call : (number : ℕ) → List FramesOf → State → ℕ → Option SeenCall
seen_call number tables s p = if number == 0 then Some Last else caller_seen (call_of number tables s p (registers_of s p))

abbrev pub IsSeenCall : ProgramSource → Recorded → (p number : ℕ) → Option SeenCall → Type 0
IsSeenCall source s p number call = call ≡ seen_call number (frames_known source.symbols.now) s.machine.world.state p

-- this is the call at which words look, of the process at which they do, whose program has this source
pub record IsLookedAt (known : Option Sources) (c : Chosen) (s : Recorded) (pid : ℕ) (source : ProgramSource) (call : Option SeenCall) : Type 0 where
  pub looks : IsFocus None s (Some pid)
  pub of : IsSourceOf known s.machine.world.state.programs (place_in pid s.names) source
  pub is : IsSeenCall source s pid (number_of c pid (length s.events)) call

-- its registers: of the last call those of the process, of others as far as a table tells them
abbrev pub registers_in : Registers → SeenCall → (number : ℕ) → Option ℕ
registers_in regs Last number = register_held regs number
registers_in regs (Caller call) number = register_in call number

-- where it stands: at the next instruction; of others in the last byte of the instruction that called
abbrev pub address_in : Registers → SeenCall → ℕ
address_in regs Last = regs.pc
address_in regs (Caller call) = call.pc - 1
