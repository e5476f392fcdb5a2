-- A process, and how it changes.
use Rattle.std.specs.Prelude.{ℕ, ℤ, Bool, true, false, if◌then◌else◌, nat_eq, Option, Some, None, is_none, is_some}
use Rattle.proc_table.specs.declared.channel.Channel.{Channel}
use Rattle.proc_table.specs.declared.process.Call.{Call}
use Rattle.proc_table.specs.declared.process.State.{State}
use Rattle.proc_table.specs.declared.process.State.TheVariants.{Live, Zombie}
use Rattle.proc_table.specs.declared.process.Process.{Process}
use Rattle.proc_table.specs.Channels.{without}

-- the process has this pid
abbrev pub has_pid : ℕ → Process → Bool
has_pid pid p = nat_eq p.pid pid

-- this is the parent, if there is one
abbrev pub is_parent : ℕ → Option ℕ → Bool
is_parent parent None = false
is_parent parent (Some p) = nat_eq p parent

-- the process is a child of this one
abbrev pub is_child_of : ℕ → Process → Bool
is_child_of parent p = is_parent parent p.parent

-- the status of a zombie
abbrev pub state_status : State → Option ℤ
state_status (Live life) = None
state_status (Zombie status) = Some status

-- the status with which it ended; none while it lives
abbrev pub status_of : Process → Option ℤ
status_of p = state_status p.state

-- it has ended
abbrev pub is_zombie : Process → Bool
is_zombie p = is_some (status_of p)

-- it has not ended
abbrev pub is_live : Process → Bool
is_live p = is_none (status_of p)

-- the kill mark of a live process
abbrev pub state_mark : State → Bool
state_mark (Live life) = life.marked
state_mark (Zombie status) = false

-- its kill mark is set
abbrev pub is_marked : Process → Bool
is_marked p = state_mark p.state

-- the call of a live process
abbrev pub state_call : State → Option Call
state_call (Live life) = life.call
state_call (Zombie status) = None

-- the call that it is in, if any
abbrev pub call_of : Process → Option Call
call_of p = state_call p.state

-- the channel of a live process
abbrev pub state_channel : State → Option Channel
state_channel (Live life) = life.channel
state_channel (Zombie status) = None

-- what it sleeps on, if it sleeps
abbrev pub channel_of : Process → Option Channel
channel_of p = state_channel p.state

-- it sleeps
abbrev pub is_asleep : Process → Bool
is_asleep p = is_some (channel_of p)

-- live, and on no channel
abbrev pub state_runnable : State → Bool
state_runnable (Live life) = is_none life.channel
state_runnable (Zombie status) = false

-- live, and not asleep
abbrev pub is_runnable : Process → Bool
is_runnable p = state_runnable p.state

-- ---- changes. A zombie neither sleeps, wakes nor is marked

-- the channel is left, if it is this one
abbrev pub state_woken : Channel → State → State
state_woken on (Live life) = Live (record life { channel = without on life.channel })
state_woken on (Zombie status) = Zombie status

-- awake, if it sleeps on the channel
abbrev pub woken : Channel → Process → Process
woken on p = record p { state = state_woken on p.state }

-- the mark is set, and the channel left
abbrev pub state_killed : State → State
state_killed (Live life) = Live (record life { marked = true; channel = None })
state_killed (Zombie status) = Zombie status

-- marked and awake
abbrev pub killed : Process → Process
killed p = record p { state = state_killed p.state }

-- the channel is entered
abbrev pub state_asleep : Channel → State → State
state_asleep on (Live life) = Live (record life { channel = Some on })
state_asleep on (Zombie status) = Zombie status

-- asleep on the channel
abbrev pub asleep : Channel → Process → Process
asleep on p = record p { state = state_asleep on p.state }

-- the call is noted
abbrev pub state_in_call : Option Call → State → State
state_in_call call (Live life) = Live (record life { call = call })
state_in_call call (Zombie status) = Zombie status

-- in this call, or in none
abbrev pub in_call : Option Call → Process → Process
in_call call p = record p { state = state_in_call call p.state }

-- a zombie with this status
abbrev pub ended : ℤ → Process → Process
ended status p = record p { state = Zombie status }

-- the second, in place of the first
abbrev pub parent_given : ℕ → ℕ → Option ℕ → Option ℕ
parent_given from to parent = if is_parent from parent then Some to else parent

-- a child of the second, if it was one of the first
abbrev pub given : ℕ → ℕ → Process → Process
given from to p = record p { parent = parent_given from to p.parent }

-- a new process is live, unmarked, in no call and awake
abbrev pub newborn : ℕ → Option ℕ → Process
newborn pid parent = record { pid = pid; parent = parent; state = Live (record { marked = false; call = None; channel = None }) }
