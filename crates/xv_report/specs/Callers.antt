-- Which calls lead to where a process is: by frame pointers, as RISC-V programs that keep them lay them down. With the frame pointer s0 the return address stands in the eight bytes below s0, and the caller's s0 in the eight
-- below that (RISC-V ABIs, "Frame Pointer Convention").
use Rattle.std.specs.Prelude.{ℕ, zero, suc, ◌+◌, ◌-◌, ◌*◌, ◌/◌, ◌%◌, ◌^◌, ◌&&◌, ◌==◌, Bool, false, if◌then◌else◌, nat_lt, nat_le, List, [], ◌∷◌, Option, None, Some, is_some}
use Rattle.xk_base.specs.declared.access.Rights.{Rights}
use Rattle.xk_base.specs.declared.limits.TheConstants.{PAGE_BYTES, VPN_END}
use Rattle.rv64i_core.specs.Registers.{Registers, reg}
use Rattle.rv64i_core.specs.Table.{decoded}
use Rattle.rv64i_core.specs.declared.instruction.Instr.{Instr}
use Rattle.rv64i_core.specs.declared.instruction.Instr.TheVariants.{Jal, Jalr}
use Rattle.kernel_spec.specs.views.State.{State}
use Rattle.kcall_core.specs.Observers.{rights_at}
use Rattle.xv_session.specs.Looking.{word_at}
use Rattle.xv_report.specs.declared.callers.TheConstants.{CALLERS_MAX}
use Rattle.xv_report.specs.declared.callers.Caller.{Caller}

-- the registers ra and s0
abbrev pub RA : ℕ
RA = 1

abbrev pub S0 : ℕ
S0 = 8

-- eight bytes as a number, by the two words that they are
abbrev pub double_of : Option ℕ → Option ℕ → Option ℕ
double_of (Some low) (Some high) = Some (low + 2 ^ 32 * high)
double_of _ _ = None

-- the eight bytes at an address of a live process; none where one isn't there
abbrev pub double_at : State → ℕ → ℕ → Option ℕ
double_at s p address = double_of (word_at s p address) (word_at s p (address + 4))

-- user code may execute what the page of these rights holds
abbrev pub may_execute : Option Rights → Bool
may_execute None = false
may_execute (Some r) = r.execute && r.user

-- an instruction of process p may stand at the address
abbrev pub is_code : State → ℕ → ℕ → Bool
is_code s p address = nat_lt (address / PAGE_BYTES) VPN_END && may_execute (rights_at s p (address / PAGE_BYTES))

-- A call puts the address after it into ra: a JAL or a JALR does (Unprivileged ISA, "Unconditional Jumps")
abbrev pub is_call : Option Instr → Bool
is_call (Some (Jal d offset)) = d == RA
is_call (Some (Jalr d s imm)) = d == RA
is_call instr = false

abbrev pub is_call_word : Option ℕ → Bool
is_call_word None = false
is_call_word (Some word) = is_call (decoded word)

-- a call of process p stands at the address
abbrev pub is_call_at : State → ℕ → ℕ → Bool
is_call_at s p address = is_code s p address && is_call_word (word_at s p address)

-- a call of process p stands right before the address, so the address may be what a call returns to
abbrev pub is_return : State → ℕ → ℕ → Bool
is_return s p address = nat_le 4 address && ((address % 4 == 0) && is_call_at s p (address - 4))

-- the return address, where it is one
abbrev pub return_in : State → ℕ → ℕ → Option ℕ
return_in s p address = if is_return s p address then Some address else None

-- ---- one call

-- two numbers of eight bytes can lie below it
abbrev pub is_frame : ℕ → Bool
is_frame frame = nat_le 16 frame && (frame % 8 == 0)

abbrev pub called_from : State → ℕ → Option ℕ → Option ℕ → Option Caller
called_from s p (Some address) (Some frame) = if is_return s p address then Some (record { address = address; frame = frame }) else None
called_from s p _ _ = None

-- the return address and the caller's frame that stand below a frame; none where they aren't there, and where the return address is none
abbrev pub caller_at : State → ℕ → ℕ → Option Caller
caller_at s p frame = if is_frame frame then called_from s p (double_at s p (frame - 8)) (double_at s p (frame - 16)) else None

-- ---- the calls one behind another

-- the return address of a call, and those of the calls before it, if its frame lies above
abbrev pub and_above : (frame : ℕ) → Option Caller → (more : ℕ → List ℕ) → List ℕ
and_above frame None more = []
and_above frame (Some c) more = c.address ∷ (if nat_lt frame c.frame then more c.frame else [])

-- the return addresses from a frame on, so many at most: that below it, and those from its caller's frame on, as long as each frame lies above the one before it
unfoldable pub callers_from : (most : ℕ) → State → ℕ → ℕ → List ℕ
callers_from zero s p frame = []
callers_from (suc most) s p frame = and_above frame (caller_at s p frame) (λ above. callers_from most s p above)

-- A function that calls no other may keep its caller's frame alone, in the eight bytes below its own, and its return address in ra. This is its caller's frame, if it lies above and tells a call
abbrev pub above_by : State → ℕ → (ra frame : ℕ) → Option ℕ → Option ℕ
above_by s p ra frame None = None
above_by s p ra frame (Some above) = if nat_lt frame above && (is_return s p ra && is_some (caller_at s p above)) then Some above else None

abbrev pub above_leaf : State → ℕ → (ra frame : ℕ) → Option ℕ
above_leaf s p ra frame = if is_frame frame then above_by s p ra frame (double_at s p (frame - 8)) else None

abbrev pub from_leaf : State → ℕ → (ra : ℕ) → Option ℕ → List ℕ
from_leaf s p ra None = []
from_leaf s p ra (Some above) = ra ∷ callers_from (CALLERS_MAX - 1) s p above

abbrev pub frames_or_leaf : State → ℕ → (ra frame : ℕ) → Option Caller → List ℕ
frames_or_leaf s p ra frame (Some c) = callers_from CALLERS_MAX s p frame
frames_or_leaf s p ra frame None = from_leaf s p ra (above_leaf s p ra frame)

-- the return addresses that the frames of a process tell, from the last call on; none where s0 leads to no frame
unfoldable pub frames_told : State → ℕ → Registers → List ℕ
frames_told s p regs = frames_or_leaf s p (reg regs RA) (reg regs S0) (caller_at s p (reg regs S0))
