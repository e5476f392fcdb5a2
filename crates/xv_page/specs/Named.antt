-- What the host's numbers name. A number that names nothing is none
use Rattle.std.specs.Prelude.{ℕ, ◌+◌, pos, Option, None, Some, option_map, nat_eq, nat_lt, nat_le, if◌then◌else◌}
use Rattle.xk_base.specs.declared.limits.TheConstants.{PID_MAX, VPN_END, NOFILE, NPROC, FRAMES_MAX}
use Rattle.console_core.specs.declared.rings.ConsoleList.{ConsoleList}
use Rattle.console_core.specs.declared.rings.ConsoleList.TheVariants.{Committed, Uncommitted, ToSend}
use Rattle.kernel_spec.specs.runs.Run as runs
use Rattle.xk_base.specs.declared.access.Cause.{Cause}
use Rattle.xk_base.specs.declared.access.Cause.TheVariants.{TargetMisaligned, IllegalInstruction, Breakpoint, LoadMisaligned, StoreMisaligned, FetchPageFault, LoadPageFault, StorePageFault}
use Rattle.xv_session.specs.declared.until.Condition.{Condition}
use Rattle.xv_session.specs.declared.until.Condition.TheVariants as conditions

-- a number below a limit
abbrev pub below : ℕ → ℕ → Option ℕ
below limit number = if nat_lt number limit then Some number else None

-- the pid of this number: pids begin at 1
abbrev pub pid_named : ℕ → Option ℕ
pid_named number = if nat_eq number 0 then None else below (PID_MAX + 1) number

abbrev pub page_named : ℕ → Option ℕ
page_named number = below VPN_END number

abbrev pub descriptor_named : ℕ → Option ℕ
descriptor_named number = below NOFILE number

abbrev pub frame_named : ℕ → Option ℕ
frame_named number = below FRAMES_MAX number

-- 0 is the pc, and 1 to 31 are x1 to x31
abbrev pub register_named : ℕ → Option ℕ
register_named number = below 32 number

-- a slot of the process table
abbrev pub slot_named : ℕ → Option ℕ
slot_named number = below NPROC number

-- two names, if both numbers are some
abbrev pub both : {A B : Type 0} → Option A → Option B → Option (A × B)
both (Some a) (Some b) = Some (a, b)
both _ _ = None

-- 0 what was typed and may be read, 1 what may still be taken back, 2 what waits to be sent
abbrev pub list_named : ℕ → Option ConsoleList
list_named number = if nat_eq number 0 then Some Committed else (if nat_eq number 1 then Some Uncommitted else (if nat_eq number 2 then Some ToSend else None))

-- the key of a byte
abbrev pub key_named : ℕ → Option runs.Event
key_named number = option_map runs.Key (below 256 number)

-- 0 Run, 1 Tick, 2 the key of this byte, 3 Send
abbrev pub event_named : (kind byte : ℕ) → Option runs.Event
event_named kind byte =
    if nat_eq kind 0 then Some runs.Run else (if nat_eq kind 1 then Some runs.Tick else (if nat_eq kind 2 then key_named byte else (if nat_eq kind 3 then Some runs.Send else None)))

-- ---- what may be waited for

-- the kernel call of this number, which is an `int`
abbrev pub call_named : ℕ → Option Condition
call_named number = if nat_le number 2147483647 then Some (conditions.Call (pos number)) else None

-- a step of a process
abbrev pub step_wanted : Option ℕ → Option Condition
step_wanted None = None
step_wanted (Some pid) = Some (conditions.StepOf pid)

-- a process at an address
abbrev pub place_wanted : (pc : ℕ) → Option ℕ → Option Condition
place_wanted pc None = None
place_wanted pc (Some pid) = Some (conditions.At pid pc)

-- 0 a step of the process, 1 the call of this number, 2 the process at this address, 3 a fault, 4 a store to this address, 5 an exit
abbrev pub condition_named : (kind pid number : ℕ) → Option Condition
condition_named kind pid number =
    if nat_eq kind 0 then step_wanted (pid_named pid) else (if nat_eq kind 1 then call_named number else (if nat_eq kind 2 then place_wanted number (pid_named pid)
    else (if nat_eq kind 3 then Some conditions.Fault else (if nat_eq kind 4 then Some (conditions.StoreTo number) else (if nat_eq kind 5 then Some conditions.Exit else None)))))

-- the cause of a fault, by its number in `scause`
abbrev pub cause_named : (code : ℕ) → Option Cause
cause_named code =
    if nat_eq code 0 then Some TargetMisaligned else (if nat_eq code 2 then Some IllegalInstruction else (if nat_eq code 3 then Some Breakpoint
    else (if nat_eq code 4 then Some LoadMisaligned else (if nat_eq code 6 then Some StoreMisaligned else (if nat_eq code 12 then Some FetchPageFault
    else (if nat_eq code 13 then Some LoadPageFault else (if nat_eq code 15 then Some StorePageFault else None)))))))
