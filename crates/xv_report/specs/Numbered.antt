-- Which call has which number: 0 is the call that was made last, 1 the one that made it, and so on (Debugging with GDB, "Stack Frames").
use Rattle.std.specs.Prelude.{ℕ, zero, suc, ◌+◌, ◌-◌, ◌==◌, nat_le, Bool, true, false, if◌then◌else◌, List, [], ◌∷◌, slice_get, Option, None, Some}
use Rattle.rv64i_core.specs.Registers.{Registers, reg}
use Rattle.kernel_spec.specs.views.State.{State}
use Rattle.dwarf.specs.AllFrames.{rules_at}
use Rattle.dwarf.specs.Frames.{FramesOf}
use Rattle.dwarf.specs.declared.frame.FrameRules.{FrameRules}
use Rattle.xv_report.specs.Callers.{RA, frames_told, return_in}
use Rattle.xv_report.specs.Unwound.{caller_by, caller_in_ra, innermost, register_of}
use Rattle.xv_report.specs.declared.callers.Callers.{Callers}
use Rattle.xv_report.specs.declared.callers.TheConstants.{CALLERS_MAX}
use Rattle.xv_report.specs.declared.numbered.NumberedCall.{NumberedCall}
use Rattle.xv_report.specs.declared.unwinding.Activation.{Activation}
use Rattle.xv_report.specs.declared.unwinding.Calls.{Calls}
use Rattle.xv_report.specs.declared.unwinding.Calls.TheVariants.{Known, FromRa, Guessed}

-- ---- the addresses that are told, from the last call on

-- of calls that are guessed those of the frames; without any the one in ra
abbrev pub or_ra : List ℕ → Option ℕ → List ℕ
or_ra [] None = []
or_ra [] (Some address) = address ∷ []
or_ra (first ∷ more) ra = first ∷ more

abbrev pub guessed_returns : Callers → List ℕ
guessed_returns c = or_ra c.frames.items c.ra

-- where the calls return to
abbrev pub returns_of : Calls → List ℕ
returns_of (Known addresses) = addresses.items
returns_of (FromRa addresses) = addresses.items
returns_of (Guessed callers) = guessed_returns callers

-- the address in ra is that of the first one
abbrev pub in_ra : Option ℕ → (place : ℕ) → Option ℕ
in_ra ra place = if place == 0 then ra else None

-- ---- one call

-- what it has in a register, as far as a table tells it
abbrev pub register_by : Option Activation → (register : ℕ) → Option ℕ
register_by None register = None
register_by (Some activation) register = register_of activation register

abbrev pub register_in : NumberedCall → (register : ℕ) → Option ℕ
register_in call register = register_by call.activation register

-- told by a table, or guessed by its return address alone
abbrev pub told : (is_guess : Bool) → Option Activation → Option NumberedCall
told is_guess None = None
told is_guess (Some a) = Some (record { pc = a.pc; activation = Some a; is_guess = is_guess })

abbrev pub guessed : (address : Option ℕ) → Option NumberedCall
guessed None = None
guessed (Some address) = Some (record { pc = address; activation = None; is_guess = true })

-- ---- the calls by their numbers

abbrev pub and_then : Option Activation → (more : Activation → Option Activation) → Option Activation
and_then None more = None
and_then (Some caller) more = more caller

-- the call so many calls before one: itself, its caller, the caller of that, and so on, as long as the tables have rules for each
unfoldable pub ancestor : (number : ℕ) → List FramesOf → State → ℕ → Activation → Option Activation
ancestor zero tables s p a = Some a
ancestor (suc number) tables s p a = and_then (caller_by s p a (rules_at a.at tables)) (λ caller. ancestor number tables s p caller)

-- the guessed call at a place, from the last one on
abbrev pub guessed_at : (place : ℕ) → State → ℕ → Registers → Option NumberedCall
guessed_at place s p regs = guessed (slice_get (or_ra (frames_told s p regs) (return_in s p (reg regs RA))) place)

-- The caller at a place, from that of the last call on. If the tables have rules for the instruction that is next, it is known by them. If they have rules for the call in ra, that and those before it are a guess; else it is one by frame pointers and ra alone
abbrev pub caller_by_kind : Option FrameRules → (caller_in_ra : Option Activation) → (place : ℕ) → List FramesOf → State → ℕ → Registers → Option NumberedCall
caller_by_kind (Some rules) in_ra place tables s p regs = told false (ancestor (place + 1) tables s p (innermost regs))
caller_by_kind None (Some caller) place tables s p regs = told true (ancestor place tables s p caller)
caller_by_kind None None place tables s p regs = guessed_at place s p regs

abbrev pub caller_at : (place : ℕ) → List FramesOf → State → ℕ → Registers → Option NumberedCall
caller_at place tables s p regs = caller_by_kind (rules_at regs.pc tables) (caller_in_ra tables s p (innermost regs)) place tables s p regs

-- call 0 is the one that was made last; those behind the last that is told are not there
abbrev pub numbered : (number : ℕ) → List FramesOf → State → ℕ → Registers → Option NumberedCall
numbered number tables s p regs =
    if number == 0 then told false (Some (innermost regs))
    else (if nat_le number CALLERS_MAX then caller_at (number - 1) tables s p regs else None)

-- of a process with these registers, if it is live
abbrev pub call_of : (number : ℕ) → List FramesOf → State → ℕ → Option Registers → Option NumberedCall
call_of number tables s p None = None
call_of number tables s p (Some regs) = numbered number tables s p regs
