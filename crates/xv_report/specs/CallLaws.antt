-- What is told of a program that has no table of call frames; and which call has which number.
use Rattle.std.specs.Prelude.{◌≡◌, ◌+◌, ◌<◌, ℕ, List, [], option_map, slice_get}
use Rattle.rv64i_core.specs.Registers.{Registers}
use Rattle.kernel_spec.specs.views.State.{State}
use Rattle.xv_report.specs.Reports.{AreCallersWith, AreCallsWith}
use Rattle.dwarf.specs.Frames.{FramesOf}
use Rattle.xv_report.specs.Numbered.{numbered, returns_of}
use Rattle.xv_report.specs.declared.callers.Callers.{Callers}
use Rattle.xv_report.specs.declared.callers.TheConstants.{CALLERS_MAX}
use Rattle.xv_report.specs.declared.numbered.NumberedCall.{NumberedCall}
use Rattle.xv_report.specs.declared.unwinding.Calls.{Calls}
use Rattle.xv_report.specs.declared.unwinding.Calls.TheVariants.{Guessed}

-- its calls are a guess, by frame pointers and ra alone
abbrev pub IsGuess : Type 0
IsGuess = (s : State) (p : ℕ) (regs : Registers) (calls : Calls) → AreCallsWith [] s p regs calls → (callers : Callers) × (calls ≡ Guessed callers) × AreCallersWith s p regs callers

-- the call after that at a place goes on at the address to which the call at the place returns
abbrev pub IsListed : Type 0
IsListed = (tables : List FramesOf) (s : State) (p : ℕ) (regs : Registers) (calls : Calls) (place : ℕ) → AreCallsWith tables s p regs calls → place < CALLERS_MAX
    → option_map (λ (c : NumberedCall). c.pc) (numbered (place + 1) tables s p regs) ≡ slice_get (returns_of calls) place
