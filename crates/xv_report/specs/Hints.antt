-- What may be wrong if a load or a store finds a page that it may not use, beside the calls that led there.
use Rattle.std.specs.Prelude.{ℕ, ◌/◌, ◌&&◌, Bool, true, false, not, if◌then◌else◌, nat_lt, nat_le, Option, None, Some}
use Rattle.rv64i_core.specs.Registers.{Registers, reg}
use Rattle.xk_base.specs.declared.access.Cause.{Cause}
use Rattle.xk_base.specs.declared.access.Cause.TheVariants.{TargetMisaligned, IllegalInstruction, Breakpoint, LoadMisaligned, StoreMisaligned, FetchPageFault, LoadPageFault, StorePageFault}
use Rattle.xk_base.specs.declared.access.Rights.{Rights}
use Rattle.xk_base.specs.declared.limits.TheConstants.{ADDRESS_END, PAGE_BYTES}
use Rattle.kernel_spec.specs.views.State.{State}
use Rattle.kcall_core.specs.Observers.{rights_at}
use Rattle.xv_session.specs.Looking.{next_step_of}
use Rattle.xv_session.specs.declared.looking.Fault.{Fault}
use Rattle.xv_session.specs.declared.looking.NextStep.{NextStep}
use Rattle.xv_report.specs.declared.hints.Hint.{Hint}
use Rattle.xv_report.specs.declared.hints.Hint.TheVariants.{FullStack, PastTheEnd, NullPointer}

-- the register sp
abbrev pub SP : ℕ
SP = 2

-- ---- pages

-- the page is there, and user code may not use it: so is the guard page right below the stack that exec makes, and no other
abbrev pub is_closed : Option Rights → Bool
is_closed None = false
is_closed (Some r) = not r.user

-- user code may read the page
abbrev pub may_read : Option Rights → Bool
may_read None = false
may_read (Some r) = r.read && r.user

-- user code may read the page, and not write it: so is a page of text or of constants
abbrev pub is_for_reading : Option Rights → Bool
is_for_reading None = false
is_for_reading (Some r) = r.user && r.read && not r.write

-- what the page of an address of process p allows; none if there is no page
abbrev pub page_rights : State → (p address : ℕ) → Option Rights
page_rights s p address = if nat_lt address ADDRESS_END then rights_at s p (address / PAGE_BYTES) else None

-- ---- hints

-- The guard page was reached. A stack that grows comes from above, with sp at the address or below it; what goes up through the program's variables leaves sp in the stack
abbrev pub guard_hint : (sp address : ℕ) → Hint
guard_hint sp address = if nat_le sp address then FullStack else PastTheEnd

-- Nothing lies below the stack but text: a stack that grows has left its own pages if it comes to a page that is for reading
abbrev pub is_below_stack : (there : Option Rights) → (sp address : ℕ) → Bool
is_below_stack there sp address = is_for_reading there && nat_le sp address

-- by what the first page and the page of the address allow: an address in the first page is a null pointer's, unless the stack has come there
abbrev pub hint_by : (first there : Option Rights) → (sp address : ℕ) → Option Hint
hint_by first there sp address =
    if is_below_stack there sp address then Some FullStack
    else (if nat_lt address PAGE_BYTES then Some (NullPointer (may_read first)) else (if is_closed there then Some (guard_hint sp address) else None))

abbrev pub hint_at : State → (p sp : ℕ) → (address : Option ℕ) → Option Hint
hint_at s p sp None = None
hint_at s p sp (Some address) = hint_by (rights_at s p 0) (page_rights s p address) sp address

abbrev pub stack_pointer : Registers → ℕ
stack_pointer regs = reg regs SP

-- of a step that finds no page to load from or to store to
abbrev pub hint_of_step : State → NextStep → Option Hint
hint_of_step s step = hint_at s step.pid (stack_pointer step.regs) step.address

-- a load or a store found no page that it may use
abbrev pub is_of_access : Cause → Bool
is_of_access TargetMisaligned = false
is_of_access IllegalInstruction = false
is_of_access Breakpoint = false
is_of_access LoadMisaligned = false
is_of_access StoreMisaligned = false
is_of_access FetchPageFault = false
is_of_access LoadPageFault = true
is_of_access StorePageFault = true

-- the hint for a fault of this cause, if this is the one of its step
abbrev pub hint_if : Cause → Option Hint → Option Hint
hint_if cause hint = if is_of_access cause then hint else None

-- what may be wrong, of the state before the step that faulted
abbrev pub hint_of : State → Fault → Option Hint
hint_of s f = hint_if f.cause (hint_of_step s f.step)

-- ---- before it is known that the step faults

abbrev pub hint_of_next : State → Option NextStep → Option Hint
hint_of_next s None = None
hint_of_next s (Some step) = hint_of_step s step

-- of the process that runs
abbrev pub hint_now : State → (current : Option ℕ) → Option Hint
hint_now s None = None
hint_now s (Some p) = hint_of_next s (next_step_of s p)
