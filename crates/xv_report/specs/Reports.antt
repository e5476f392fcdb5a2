-- What is told of a fault, with the calls that led to it.
use Rattle.std.specs.Prelude.{◌≡◌, ℕ, Bool, true, false, List, Option, None, Some, IfSome, MatchOption, option_map, take, slice_get}
use Rattle.kernel_spec.specs.runs.Run.{Event, Run, Tick, Key, Send}
use Rattle.kernel_spec.specs.views.State.{State}
use Rattle.kcall_core.specs.Observers.{registers_of}
use Rattle.rv64i_core.specs.Registers.{Registers, reg}
use Rattle.dwarf.specs.AllFrames.{rules_at}
use Rattle.dwarf.specs.Frames.{FramesOf}
use Rattle.dwarf.specs.declared.frame.FrameRules.{FrameRules}
use Rattle.xv_machine.specs.Meaning.{Meaning}
use Rattle.xv_session.specs.Looking.{FaultTold}
use Rattle.xv_session.specs.Recorded.{Recorded, IsPlayed}
use Rattle.xv_session.specs.declared.looking.Fault.{Fault}
use Rattle.xv_report.specs.Callers.{RA, frames_told, return_in}
use Rattle.xv_report.specs.Hints.{hint_of}
use Rattle.xv_report.specs.Unwound.{caller_in_ra, innermost, unwound, unwound_after}
use Rattle.xv_report.specs.declared.callers.Callers.{Callers}
use Rattle.xv_report.specs.declared.unwinding.Activation.{Activation}
use Rattle.xv_report.specs.declared.unwinding.Calls.{Calls}
use Rattle.xv_report.specs.declared.unwinding.Calls.TheVariants.{Known, FromRa, Guessed}
use Rattle.xv_report.specs.declared.fault.FaultReport.{FaultReport}

-- these are the calls that frame pointers and ra tell of process p, with these registers
pub record AreCallersWith (s : State) (p : ℕ) (regs : Registers) (c : Callers) : Type 0 where
  pub frames : c.frames.items ≡ frames_told s p regs
  pub ra : c.ra ≡ return_in s p (reg regs RA)

-- of the live process p
abbrev pub AreCallersOf : State → ℕ → Callers → Type 0
AreCallersOf s p c = (regs : Registers) × (registers_of s p ≡ Some regs) × AreCallersWith s p regs c

-- These calls led process p, with these registers, to where it is. If the tables have rules for the instruction that is next, the calls are known by them. If they have rules for the call in ra, that and those before it are a
-- guess; else it is one by frame pointers and ra alone
abbrev pub AreCallsBy : Option FrameRules → (in_ra : Option Activation) → List FramesOf → State → ℕ → Registers → Calls → Type 0
AreCallsBy (Some rules) in_ra tables s p regs (Known addresses) = addresses.items ≡ unwound tables s p (innermost regs)
AreCallsBy None (Some caller) tables s p regs (FromRa addresses) = addresses.items ≡ unwound_after tables s p caller
AreCallsBy None None tables s p regs (Guessed callers) = AreCallersWith s p regs callers
AreCallsBy _ _ tables s p regs calls = ⊥

abbrev pub AreCallsWith : List FramesOf → State → ℕ → Registers → Calls → Type 0
AreCallsWith tables s p regs calls = AreCallsBy (rules_at regs.pc tables) (caller_in_ra tables s p (innermost regs)) tables s p regs calls

-- of the live process p
abbrev pub AreCallsOf : List FramesOf → State → ℕ → Calls → Type 0
AreCallsOf tables s p calls = (regs : Registers) × (registers_of s p ≡ Some regs) × AreCallsWith tables s p regs calls

-- of the process that runs, if one does and it is live
abbrev pub AreCallsNow : List FramesOf → State → (current : Option ℕ) → Option Calls → Type 0
AreCallsNow tables s None told = told ≡ None
AreCallsNow tables s (Some p) told = MatchOption told (registers_of s p ≡ None) (AreCallsOf tables s p)

-- the fault that is told
abbrev pub fault_in : Option FaultReport → Option Fault
fault_in told = option_map (λ (r : FaultReport). r.fault) told

-- The machine was sent a Run, and if a fault came of it, it is told, with the calls that led to it and what may be wrong: all of the machine as it was before
pub record Reported (tables : List FramesOf) (told : Option FaultReport) (old new : Meaning) : Type 0 where
  pub fault : FaultTold (fault_in told) old new
  pub calls : IfSome told (λ r. AreCallsWith tables old.world.state r.fault.step.pid r.fault.step.regs r.calls)
  pub hint : IfSome told (λ r. r.hint ≡ hint_of old.world.state r.fault)

-- the event is a Run
abbrev pub is_run : Option Event → Bool
is_run None = false
is_run (Some Run) = true
is_run (Some Tick) = false
is_run (Some (Key byte)) = false
is_run (Some Send) = false

-- what is told of the event at a place, by whether it is a Run: the machine that the events before it lead to was sent a Run, and this is told of it
abbrev pub ToldOf : (is_run : Bool) → List FramesOf → Recorded → (place : ℕ) → Option FaultReport → Type 0
ToldOf false tables s place told = told ≡ None
ToldOf true tables s place told =
    (before : Meaning) × (after : Meaning) × IsPlayed s.frames s.trace s.programs (take place s.events) before × Reported tables told before after

-- this is told of the event of a session at a place, by these tables of call frames
abbrev pub ReportedAt : List FramesOf → Recorded → (place : ℕ) → Option FaultReport → Type 0
ReportedAt tables s place told = ToldOf (is_run (slice_get s.events place)) tables s place told
