-- Which calls lead to where a process is: by the table of call frames that the program's compiler left (DWARF 5, section 6.4, "Call Frame Information"; section 6.4.3, "Call Frame Usage"). That the table is true of the program is
-- assumed. Registers have the numbers of RISC-V ABIs, "DWARF Register Numbers": ra is 1, sp is 2, s0 is 8.
use Rattle.std.specs.Prelude.{ℕ, zero, suc, ◌+◌, ◌-◌, ◌%◌, ◌^◌, ◌&&◌, ◌||◌, ◌==◌, Bool, if◌then◌else◌, nat_lt, List, [], ◌∷◌, Option, None, Some, is_some, codes, ℤ, pos}
use Rattle.std.specs.Int.{cast_unsigned, w64}
use Rattle.rv64i_core.specs.Registers.{Registers, reg}
use Rattle.kernel_spec.specs.views.State.{State}
use Rattle.elf_symbols.specs.Sections.{section_named}
use Rattle.dwarf.specs.AllFrames.{rules_at, tables_of}
use Rattle.dwarf.specs.Frames.{FramesOf}
use Rattle.dwarf.specs.declared.frame.Base.{Base}
use Rattle.dwarf.specs.declared.frame.Base.TheVariants as bases
use Rattle.dwarf.specs.declared.frame.FrameRules.{FrameRules}
use Rattle.dwarf.specs.declared.frame.Rule.{Rule}
use Rattle.dwarf.specs.declared.frame.Rule.TheVariants as rules
use Rattle.xv_report.specs.Callers.{RA, S0, double_at, is_return}
use Rattle.xv_report.specs.declared.callers.TheConstants.{CALLERS_MAX}
use Rattle.xv_report.specs.declared.unwinding.Activation.{Activation}

-- ---- the table

-- the bytes of a section, if there is one
abbrev pub bytes_of : Option (List ℕ) → List ℕ
bytes_of None = []
bytes_of (Some bytes) = bytes

-- the frames of all functions of a program, by the bytes of an ELF file that has its tables for debuggers
abbrev pub frames_known : (file : List ℕ) → List FramesOf
frames_known file = tables_of (bytes_of (section_named file (codes ".debug_frame")))

-- ---- one call

-- Of a function that was called and hasn't returned these are known: where it goes on (pc), the address of the instruction that it is at, sp, s0 if it is known, and ra, if the return address is still there. Only of the last call it
-- is: each call writes ra
abbrev pub SP : ℕ
SP = 2

abbrev pub innermost : Registers → Activation
innermost regs = record { pc = regs.pc; at = regs.pc; sp = reg regs SP; s0 = Some (reg regs S0); ra = Some (reg regs RA) }

-- what is known of a register
abbrev pub register_of : Activation → (register : ℕ) → Option ℕ
register_of a register = if register == RA then a.ra else (if register == SP then Some a.sp else (if register == S0 then a.s0 else None))

-- an address, so many bytes on or back, in 64 bits
abbrev pub shifted : ℕ → ℤ → ℕ
shifted address offset = (address + cast_unsigned w64 offset) % 2 ^ 64

abbrev pub shifted_if : Option ℕ → ℤ → Option ℕ
shifted_if None offset = None
shifted_if (Some address) offset = Some (shifted address offset)

-- where the caller's part of the stack begins: the canonical frame address (CFA), which is also what sp was before the call
abbrev pub cfa_by : Activation → Base → Option ℕ
cfa_by a (bases.Register register offset) = shifted_if (register_of a register) offset
cfa_by a bases.Unset = None
cfa_by a bases.Other = None

-- the eight bytes of a register that was kept at an address
abbrev pub kept_at : State → ℕ → (address : ℕ) → Option ℕ
kept_at s p address = if address % 8 == 0 then double_at s p address else None

-- what the caller had in a register, by its rule: what it has now, if nothing is told; else what was kept in memory, so far from the CFA, or in another register
abbrev pub value_by : State → ℕ → Activation → (cfa : ℕ) → (now : Option ℕ) → Rule → Option ℕ
value_by s p a cfa now rules.Unset = now
value_by s p a cfa now rules.SameValue = now
value_by s p a cfa now (rules.AtOffset offset) = kept_at s p (shifted cfa offset)
value_by s p a cfa now (rules.InRegister register) = register_of a register
value_by s p a cfa now rules.Undefined = None
value_by s p a cfa now rules.Other = None

-- The caller's part of the stack lies above. While the return address is still in ra the function may have no part of its own
abbrev pub is_above : Activation → (cfa : ℕ) → Bool
is_above a cfa = nat_lt a.sp cfa || ((a.sp == cfa) && is_some a.ra)

-- the caller goes on at the return address, and is at the call before it
abbrev pub returned : (cfa address : ℕ) → (s0 : Option ℕ) → Activation
returned cfa address s0 = record { pc = address; at = address - 4; sp = cfa; s0 = s0; ra = None }

-- a return address counts only if a call stands right before it
abbrev pub called_by : State → ℕ → (cfa : ℕ) → (address s0 : Option ℕ) → Option Activation
called_by s p cfa None s0 = None
called_by s p cfa (Some address) s0 = if is_return s p address then Some (returned cfa address s0) else None

abbrev pub caller_above : State → ℕ → Activation → FrameRules → (cfa : Option ℕ) → Option Activation
caller_above s p a rules None = None
caller_above s p a rules (Some cfa) =
    if is_above a cfa then called_by s p cfa (value_by s p a cfa a.ra rules.ra) (value_by s p a cfa a.s0 rules.s0) else None

-- the caller, by the rules at a function's instruction; none where they don't tell it, or the memory isn't there
abbrev pub caller_by : State → ℕ → Activation → Option FrameRules → Option Activation
caller_by s p a None = None
caller_by s p a (Some rules) = caller_above s p a rules (cfa_by a rules.base)

-- ---- the calls one after another

abbrev pub and_on : Option Activation → (more : Activation → List ℕ) → List ℕ
and_on None more = []
and_on (Some caller) more = caller.pc ∷ more caller

-- the return addresses from a call on, so many at most: to its caller, to the caller of that, and so on, as long as the table has rules for each
unfoldable pub unwound_from : (most : ℕ) → List FramesOf → State → ℕ → Activation → List ℕ
unwound_from zero tables s p a = []
unwound_from (suc most) tables s p a = and_on (caller_by s p a (rules_at a.at tables)) (λ caller. unwound_from most tables s p caller)

-- the return addresses of a function that was called last
abbrev pub unwound : List FramesOf → State → ℕ → Activation → List ℕ
unwound tables s p a = unwound_from CALLERS_MAX tables s p a

-- ---- a function of which the table tells nothing

-- it is taken to have made no frame: so it is at its first instruction, and most functions of assembler make none
abbrev pub frameless : FrameRules
frameless = record { base = bases.Register SP (pos 0); ra = rules.Unset; s0 = rules.Unset }

abbrev pub told_if : List FramesOf → Option Activation → Option Activation
told_if tables None = None
told_if tables (Some caller) = if is_some (rules_at caller.at tables) then Some caller else None

-- then its caller is the one in ra, if the table has rules for that call
abbrev pub caller_in_ra : List FramesOf → State → ℕ → Activation → Option Activation
caller_in_ra tables s p a = told_if tables (caller_by s p a (Some frameless))

-- the return address to a caller, and those from it on
abbrev pub unwound_after : List FramesOf → State → ℕ → Activation → List ℕ
unwound_after tables s p caller = caller.pc ∷ unwound_from (CALLERS_MAX - 1) tables s p caller
