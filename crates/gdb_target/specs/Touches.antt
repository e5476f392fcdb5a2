-- What is watched, and how instructions and kernel calls use it (RISC-V Unprivileged ISA, "RV32I Base Integer Instruction Set", Load and Store Instructions; the xv6 book, "I/O and File descriptors").
use Rattle.std.specs.Prelude.{ℕ, ℤ, pos, negsuc, ◌+◌, ◌-◌, ◌%◌, ◌^◌, ◌==◌, ◌&&◌, nat_le, nat_lt, not, Bool, true, false, if◌then◌else◌, List, length, map, flat_map, find, option_map, Option, None, Some}
use Rattle.std.specs.List.{list_any, range_with_len}
use Rattle.std.specs.Ordering.{int_eq}
use Rattle.rv64i_core.specs.Memory.{bytes_of_width}
use Rattle.rv64i_core.specs.Registers.{Registers, reg}
use Rattle.rv64i_core.specs.Step.{load_width, store_width}
use Rattle.rv64i_core.specs.declared.instruction.Instr.{Instr}
use Rattle.rv64i_core.specs.declared.instruction.Instr.TheVariants.{Load, Store}
use Rattle.kernel_spec.specs.runs.Run as runs
use Rattle.kernel_spec.specs.runs.Run.{Outcome}
use Rattle.kernel_spec.specs.steps.Own.{Answer, Stepped, Called, Blocked, Exited, Faulted}
use Rattle.kernel_spec.specs.views.Words.{A1}
use Rattle.kernel_calls.specs.declared.numbers.TheConstants.{READ, WRITE}
use Rattle.kcall_core.specs.Observers.{registers_of}
use Rattle.xv_session.specs.Looking.{next_step_of}
use Rattle.xv_session.specs.Names.{place_in}
use Rattle.xv_session.specs.Until.{instruction_in, is_done}
use Rattle.xv_session.specs.declared.looking.NextStep.{NextStep}
use Rattle.gdb_packets.specs.declared.answers.StopReason.{StopReason}
use Rattle.gdb_packets.specs.declared.answers.StopReason.TheVariants.{Watch, ReadWatch, AccessWatch}
use Rattle.gdb_target.specs.LetRun.{if_let}
use Rattle.gdb_target.specs.Standing.{goes_on, if_so, is_place, starter}
use Rattle.gdb_target.specs.declared.let_run.LetRun.{LetRun}
use Rattle.gdb_target.specs.declared.played.Played.{Played}
use Rattle.gdb_target.specs.declared.points.Points.{Points}
use Rattle.gdb_target.specs.declared.points.Watched.{Watched}
use Rattle.gdb_target.specs.declared.target.Target.{Target}
use Rattle.gdb_target.specs.declared.touches.Access.{Access}
use Rattle.gdb_target.specs.declared.touches.Ahead.{Ahead}
use Rattle.gdb_target.specs.declared.touches.Caller.{Caller}
use Rattle.gdb_target.specs.declared.touches.Touch.{Touch}
use Rattle.gdb_target.specs.declared.touches.Use.{Use}
use Rattle.gdb_target.specs.declared.touches.Use.TheVariants as uses

-- ---- what is watched

-- so many addresses, from one on
abbrev pub addresses_from : (address count : ℕ) → List ℕ
addresses_from address count = map (λ k. (address + k) % 2 ^ 64) (range_with_len 0 count)

-- the addresses of bytes that are watched together
abbrev pub addresses_of : Watched → List ℕ
addresses_of w = addresses_from w.address w.length

-- the addresses of all bytes that are watched for changes
abbrev pub watched_addresses : Points → List ℕ
watched_addresses points = flat_map addresses_of points.watched.items

-- bytes are watched for reads, or for reads and writes
abbrev pub watches_uses : Points → Bool
watches_uses points = not ((length points.read.items == 0) && (length points.accessed.items == 0))

-- ---- what an instruction uses

-- the bytes that an instruction loads or stores, from its own address on; none if it does neither
abbrev pub access_by : Option Instr → (own : Option ℕ) → Option Access
access_by (Some (Load op d s imm)) (Some own) = Some (record { address = own; count = bytes_of_width (load_width op); loads = true })
access_by (Some (Store op s t imm)) (Some own) = Some (record { address = own; count = bytes_of_width (store_width op); loads = false })
access_by _ _ = None

-- the byte at this address is one of them
abbrev pub has : Access → (address : ℕ) → Bool
has access address = nat_le access.address address && nat_lt (address - access.address) access.count

-- of the bytes that are watched together it has one
abbrev pub is_used : Access → Watched → Bool
is_used access w = list_any (has access) (addresses_of w)

-- of the first of these of which one byte is used, the address from which on they are watched
abbrev pub first_used : Access → List Watched → Option ℕ
first_used access all = option_map (λ (w : Watched). w.address) (find (is_used access) all)

-- a load reads bytes that are watched for reads
abbrev pub read_by : Access → Points → Option ℕ
read_by access points = if access.loads then first_used access points.read.items else None

abbrev pub access_or : Option ℕ → (accessed : Option ℕ) → Option Use
access_or (Some address) accessed = Some (uses.Read address)
access_or None (Some address) = Some (uses.Access address)
access_or None None = None

-- what is told of an access: that bytes were read that are watched for reads, or else that bytes were used that are watched for reads and writes
abbrev pub use_by : Access → Points → Option Use
use_by access points = access_or (read_by access points) (first_used access points.accessed.items)

-- ---- what is told of an event

abbrev pub use_of_access : Points → Option Access → Option Use
use_of_access points None = None
use_of_access points (Some access) = use_by access points

-- what is told of the instruction of a step
abbrev pub use_of_step : Points → Option NextStep → Option Use
use_of_step points None = None
use_of_step points (Some step) = use_of_access points (access_by (instruction_in step.word) step.address)

abbrev pub used_by : (p : ℕ) → Option Use → Option Touch
used_by p None = None
used_by p (Some how) = Some (record { pid = p; how = how })

abbrev pub touch_of : Played → Points → Option ℕ → Option Touch
touch_of run points None = None
touch_of run points (Some p) = used_by p (use_of_step points (next_step_of run.session.machine.world.state p))

abbrev pub of_program : Played → (program : ℕ) → Option ℕ → Option ℕ
of_program run program None = None
of_program run program (Some p) = if_so (is_place program (place_in p run.session.names)) p

-- the process of the program that does an instruction by the next event
abbrev pub doer : Played → (program : ℕ) → Option ℕ
doer run program = of_program run program (starter run)

-- what is told of the next event, if by it an instruction is done: how a process of the program that is let run uses watched bytes
abbrev pub touch_ahead : LetRun → Target → Option Touch
touch_ahead let_run t = touch_of t.run t.points (if_let let_run (doer t.run t.program))

-- if an instruction was done, without a fault
abbrev pub if_done : Option Touch → Outcome → Option Touch
if_done touch o = if is_done o then touch else None

-- ---- what a kernel call uses

-- the bytes that a call has used by its end: write has read so many as it answers, and read has stored so many, from the address on that is their second argument. Of the others nothing is told
abbrev pub buffer_of : (address : ℕ) → (number : ℤ) → (count : ℕ) → Option Access
buffer_of address number count =
    if int_eq number WRITE then Some (record { address = address; count = count; loads = true })
    else (if int_eq number READ then Some (record { address = address; count = count; loads = false }) else None)

-- none, if it is refused
abbrev pub buffer_used : (address : ℕ) → (number answered : ℤ) → Option Access
buffer_used address number (pos count) = buffer_of address number count
buffer_used address number (negsuc k) = None

abbrev pub use_of_answer : Points → Caller → Answer → Option Touch
use_of_answer points caller Stepped = None
use_of_answer points caller (Called number value) = used_by caller.pid (use_of_access points (buffer_used caller.buffer number value))
use_of_answer points caller (Blocked number) = None
use_of_answer points caller (Exited status) = None
use_of_answer points caller (Faulted cause) = None

-- what is told of a call that is over
abbrev pub use_of_call : Points → Caller → Outcome → Option Touch
use_of_call points caller (runs.Step_of p answer) = use_of_answer points caller answer
use_of_call points caller (runs.Turn p) = None
use_of_call points caller runs.Idle = None
use_of_call points caller runs.Ticked = None
use_of_call points caller (runs.Typed echo) = None
use_of_call points caller (runs.Sent byte) = None
use_of_call points caller runs.Halted = None

abbrev pub use_by_caller : Points → Option Caller → Outcome → Option Touch
use_by_caller points None o = None
use_by_caller points (Some caller) o = use_of_call points caller o

-- the process that makes a step by the next event of the run
abbrev pub mover_of : Played → (current : Option ℕ) → Option ℕ
mover_of run None = None
mover_of run (Some p) = if_so (goes_on run) p

abbrev pub mover : Played → Option ℕ
mover run = mover_of run run.session.machine.world.turns.current

-- a process with these registers, and the second argument of the call that it is in or begins
abbrev pub with_buffer : (p : ℕ) → Option Registers → Option Caller
with_buffer p None = None
with_buffer p (Some registers) = Some (record { pid = p; buffer = reg registers A1 })

abbrev pub caller_of : Played → Option ℕ → Option Caller
caller_of run None = None
caller_of run (Some p) = with_buffer p (registers_of run.session.machine.world.state p)

-- the process of the program that is let run, and may end a call by the next event
abbrev pub caller_ahead : LetRun → Target → Option Caller
caller_ahead let_run t = caller_of t.run (if_let let_run (of_program t.run t.program (mover t.run)))

-- ---- what is told of an event that was sent

-- what may be told of the next event: how its instruction uses watched bytes, and who may end a call by it
abbrev pub ahead : LetRun → Target → Ahead
ahead let_run t = record { touch = touch_ahead let_run t; caller = caller_ahead let_run t }

-- the first, or else the second
abbrev pub touch_or : Option Touch → (second : Option Touch) → Option Touch
touch_or None second = second
touch_or (Some touch) second = Some touch

-- how its instruction used watched bytes, or the call that ended by it
abbrev pub told_of : Points → Ahead → Outcome → Option Touch
told_of points next o = touch_or (if_done next.touch o) (use_by_caller points next.caller o)

-- What is told of an event that was sent from here, and of which this came
abbrev pub touched : LetRun → Target → Outcome → Option Touch
touched let_run t o = told_of t.points (ahead let_run t) o

-- ---- why it stops

abbrev pub reason_of_use : Use → StopReason
reason_of_use (uses.Change address) = Watch address
reason_of_use (uses.Read address) = ReadWatch address
reason_of_use (uses.Access address) = AccessWatch address

-- an instruction or a call may use bytes so
abbrev pub IsByInstruction : Use → Type 0
IsByInstruction (uses.Change address) = ⊥
IsByInstruction (uses.Read address) = Unit {0}
IsByInstruction (uses.Access address) = Unit {0}

-- bytes that became others may be told so
abbrev pub IsByChange : Use → Type 0
IsByChange (uses.Change address) = Unit {0}
IsByChange (uses.Read address) = ⊥
IsByChange (uses.Access address) = Unit {0}
