-- What GDB is told by answers after which the machine is where it was.
use Rattle.std.specs.Prelude.{◌≡◌, ℕ, ◌⊎◌, ◌&&◌, not, ◌==◌, if◌then◌else◌, List, [], length, codes, Option, None, Some, IsSome}
use Rattle.std.specs.String.{string_bytes}
use Rattle.std.specs.Int.{w64, to_le_bytes}
use Rattle.hex.specs.Hex.{encode_lower}
use Rattle.rv64i_core.specs.Registers.{Registers}
use Rattle.kernel_spec.specs.views.State.{State, live}
use Rattle.kcall_core.specs.Observers.{registers_of}
use Rattle.gdb_packets.specs.Answers.{refusal, stop_reply, thread_list, current_thread, part_of}
use Rattle.gdb_packets.specs.declared.command.Command.{Command}
use Rattle.gdb_packets.specs.declared.command.Command.TheVariants as on
use Rattle.gdb_packets.specs.declared.command.Thread.{Thread}
use Rattle.gdb_packets.specs.declared.command.Thread.TheVariants.{All, Any, One}
use Rattle.gdb_packets.specs.declared.query.Document.TheVariants.{File}
use Rattle.gdb_packets.specs.declared.query.View.{View}
use Rattle.gdb_packets.specs.declared.query.View.TheVariants.{Pages, Descriptors, Frames, Console, Events, Why, Help}
use Rattle.debug_views.specs.ConsoleText.{console_text}
use Rattle.debug_views.specs.DescriptorText.{descriptors_shown}
use Rattle.debug_views.specs.EventText.{IsEventsText}
use Rattle.debug_views.specs.FrameText.{IsFramesText}
use Rattle.debug_views.specs.PagesText.{IsPagesText}
use Rattle.gdb_target.specs.WhyText.{IsWhyText}
use Rattle.gdb_target.specs.Seen.{held, bytes_below, AreTheBytes, AreLive, AreAllLive, IsNoThread}
use Rattle.gdb_target.specs.declared.target.Target.{Target}

-- the state of the machine
abbrev pub state_of : Target → State
state_of t = t.run.session.machine.world.state

-- nothing changes the machine: E01; no process or register has this number: E03; no byte is there: E0e; a text isn't right: E16
abbrev pub registers_told : Option Registers → List ℕ
registers_told None = refusal 3
registers_told (Some regs) = encode_lower (bytes_below regs 33)

-- the bytes of one register, the lowest first
abbrev pub value_told : Option ℕ → List ℕ
value_told None = refusal 3
value_told (Some value) = encode_lower (to_le_bytes w64 value)

abbrev pub register_told : ℕ → Option Registers → List ℕ
register_told number None = refusal 3
register_told number (Some regs) = value_told (held regs number)

-- bytes of memory; a refusal where none is there, although some are asked for
abbrev pub bytes_told : (size : ℕ) → List ℕ → List ℕ
bytes_told size bytes = if (length bytes == 0) && not (size == 0) then refusal 14 else encode_lower bytes

abbrev pub MemoryIsTold : State → (p address size : ℕ) → List ℕ → Type 0
MemoryIsTold s p address size text = (bytes : List ℕ) × AreTheBytes s p address size bytes × (text ≡ bytes_told size bytes)

-- the live processes
abbrev pub ThreadsAreTold : State → List ℕ → Type 0
ThreadsAreTold s text = (pids : List ℕ) × AreLive s pids × AreAllLive s pids × (text ≡ thread_list pids)

-- whether a thread lives
abbrev pub LifeIsTold : State → Thread → List ℕ → Type 0
LifeIsTold s All text = text ≡ codes "OK"
LifeIsTold s Any text = text ≡ codes "OK"
LifeIsTold s (One n) text = (IsSome (live s n) × (text ≡ codes "OK")) ⊎ (IsNoThread s n × (text ≡ refusal 3))

-- what a view of the debugger shows: of the process that is looked at its pages and descriptors, and of the machine its frames, its console, its last events, and why it doesn't go on; help is a text of its own
abbrev pub IsView : Target → View → List ℕ → Type 0
IsView t Pages text = IsPagesText t.run.session t.looked_at 0 text
IsView t Descriptors text = text ≡ descriptors_shown t.run.session t.looked_at
IsView t Frames text = IsFramesText t.run.session None text
IsView t Console text = text ≡ console_text (state_of t).console
IsView t Events text = IsEventsText t.run.session None text
IsView t Why text = IsWhyText t.run.session text
IsView t Help text = Unit {0}

abbrev pub ViewIsTold : Target → View → List ℕ → Type 0
ViewIsTold t view text = (shown : List ℕ) × IsView t view shown × (text ≡ encode_lower shown)

-- What is told in answer to a command
abbrev pub IsTold : Target → Command → List ℕ → Type 0
IsTold t on.Reason text = text ≡ stop_reply (record { reason = t.stopped.reason; thread = t.stopped.pid })
IsTold t on.Registers text = text ≡ registers_told (registers_of (state_of t) t.looked_at)
IsTold t (on.Register number) text = text ≡ register_told number (registers_of (state_of t) t.looked_at)
IsTold t (on.Memory address size) text = MemoryIsTold (state_of t) t.looked_at address size text
IsTold t on.Change text = text ≡ refusal 1
IsTold t (on.IsAlive thread) text = LifeIsTold (state_of t) thread text
IsTold t on.CurrentThread text = text ≡ current_thread t.stopped.pid
IsTold t on.FirstThreads text = ThreadsAreTold (state_of t) text
IsTold t on.MoreThreads text = text ≡ codes "l"
IsTold t (on.Part File offset size) text = text ≡ part_of (string_bytes t.path) offset size
IsTold t (on.Monitor view) text = ViewIsTold t view text
IsTold t on.Malformed text = text ≡ refusal 22
IsTold t on.ResumeKinds text = text ≡ codes "vCont;c;C;s;S"
IsTold t on.Offsets text = text ≡ codes "Text=0;Data=0;Bss=0"
IsTold t on.Attached text = text ≡ codes "1"
IsTold t on.NoAcks text = text ≡ codes "OK"
IsTold t on.Detach text = text ≡ codes "OK"
IsTold t on.Extended text = text ≡ codes "OK"
IsTold t on.EndProgram text = text ≡ codes "OK"
IsTold t on.Unknown text = text ≡ []
IsTold t _ text = Unit {0}
