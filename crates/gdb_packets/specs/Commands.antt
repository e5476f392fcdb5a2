-- What a payload asks for (GDB manual, "Packets", "General Query Packets").
use Rattle.std.specs.Prelude.{ℕ, suc, ◌+◌, Bool, true, false, ◌||◌, ◌==◌, nat_lt, nat_eq, if◌then◌else◌, List, [], ◌∷◌, length, take, drop, codes, Option, Some, None}
use Rattle.std.specs.Cmp.Lexicographic.{pointwise}
use Rattle.gdb_packets.specs.Digits.{number}
use Rattle.gdb_packets.specs.declared.command.Command.{Command}
use Rattle.gdb_packets.specs.declared.command.Command.TheVariants as on
use Rattle.gdb_packets.specs.declared.command.Thread.{Thread}
use Rattle.gdb_packets.specs.declared.command.Thread.TheVariants.{All, Any, One}
use Rattle.gdb_packets.specs.declared.command.Resume.{Resume}
use Rattle.gdb_packets.specs.declared.command.Resume.TheVariants.{Continue, Step}
use Rattle.gdb_packets.specs.declared.command.Point.{Point}
use Rattle.gdb_packets.specs.declared.command.Point.TheVariants.{Breakpoint, Watchpoint, ReadWatchpoint, AccessWatchpoint}
use Rattle.gdb_packets.specs.declared.packet_text.Numbers.{Numbers}
use Rattle.gdb_packets.specs.declared.query.Document.{Document}
use Rattle.gdb_packets.specs.declared.query.Document.TheVariants.{Registers, File}
use Rattle.gdb_packets.specs.declared.query.View.{View}
use Rattle.gdb_packets.specs.declared.query.View.TheVariants.{Pages, Descriptors, Frames, Console, Events, Why, Help}

-- ---- the parts of a text

abbrev pub is_text : List ℕ → List ℕ → Bool
is_text text wanted = pointwise nat_eq text wanted

-- the text begins with another
abbrev pub begins : List ℕ → List ℕ → Bool
begins text wanted = pointwise nat_eq (take (length wanted) text) wanted

-- how many bytes stand before the first such byte; all, if there is none
abbrev pub place_of : ℕ → List ℕ → ℕ
place_of b [] = 0
place_of b (c ∷ text) = if c == b then 0 else suc (place_of b text)

-- what stands before the first such byte, and what stands behind it; none, if there is no such byte
abbrev pub before : ℕ → List ℕ → List ℕ
before b text = take (place_of b text) text

abbrev pub behind : ℕ → List ℕ → Option (List ℕ)
behind b text = if nat_lt (place_of b text) (length text) then Some (drop (place_of b text + 1) text) else None

-- ---- threads and numbers

abbrev pub numbered : Option ℕ → Option Thread
numbered None = None
numbered (Some n) = Some (if n == 0 then Any else One n)

-- -1 means all threads, 0 whichever it is, and another number that thread
abbrev pub thread_of : List ℕ → Option Thread
thread_of text = if is_text text (codes "-1") then Some All else numbered (number text)

abbrev pub both : Option ℕ → Option ℕ → Option Numbers
both (Some m) (Some n) = Some (record { first = m; second = n })
both (Some m) None = None
both None n = None

abbrev pub split_numbers : List ℕ → Option (List ℕ) → Option Numbers
split_numbers text None = None
split_numbers text (Some rest) = both (number (before 44 text)) (number rest)

-- two numbers, with a comma between them
abbrev pub two_numbers : List ℕ → Option Numbers
two_numbers text = split_numbers text (behind 44 text)

-- ---- the packets

-- p: a register; m: so many bytes from an address on; T: whether a thread lives
abbrev pub register : Option ℕ → Command
register None = on.Malformed
register (Some place) = on.Register place

abbrev pub memory : Option Numbers → Command
memory None = on.Malformed
memory (Some n) = on.Memory n.first n.second

abbrev pub is_alive : Option Thread → Command
is_alive None = on.Malformed
is_alive (Some thread) = on.IsAlive thread

-- H: which thread the next commands mean; c for those that go on, g for the others
abbrev pub chosen : Bool → Option Thread → Command
chosen resumes None = on.Malformed
chosen resumes (Some thread) = on.Choose thread resumes

abbrev pub choose : List ℕ → Command
choose [] = on.Malformed
choose (operation ∷ text) = if operation == 99 then chosen true (thread_of text) else if operation == 103 then chosen false (thread_of text) else on.Malformed

-- c, s, C and S let that thread run which was chosen by Hc, or all if none was
abbrev pub as_chosen : Resume → Command
as_chosen how = on.Resume how Any

-- c and s: to go on elsewhere, at an address, would change a register
abbrev pub resume_here : List ℕ → Resume → Command
resume_here [] resume = as_chosen resume
resume_here (b ∷ text) resume = on.Change

-- C and S: a signal is left out; with an address a register would change
abbrev pub by_signal : Option ℕ → Resume → Command
by_signal None resume = on.Change
by_signal (Some signal) resume = as_chosen resume

-- vCont: the threads that an action is for, all if it names none
abbrev pub acting : Option (List ℕ) → Option Thread
acting None = Some All
acting (Some text) = thread_of text

-- the threads that are let run: those of the one action; or all, if there are more actions
abbrev pub let_run : (others : Option (List ℕ)) → Thread → Thread
let_run None thread = thread
let_run (Some actions) thread = All

abbrev pub acted : List ℕ → (others : Option (List ℕ)) → Option Thread → Command
acted [] others thread = on.Malformed
acted (kind ∷ rest) others None = on.Malformed
acted (kind ∷ rest) others (Some thread) =
    if (kind == 99) || (kind == 67) then on.Resume Continue (let_run others thread)
    else (if (kind == 115) || (kind == 83) then on.Resume (Step thread) (let_run others thread) else on.Malformed)

-- what its first action says, and who is let run by all of them
abbrev pub action : List ℕ → Command
action text = acted (before 59 text) (behind 59 text) (acting (behind 58 (before 59 text)))

-- vKill and vRun: the program ends, or begins anew, and GDB stays
abbrev pub anew : List ℕ → Command
anew text = if begins text (codes "Kill;") then on.EndProgram else (if begins text (codes "Run;") then on.Restart else on.Unknown)

abbrev pub long_named : List ℕ → Command
long_named text = if is_text text (codes "Cont?") then on.ResumeKinds else (if begins text (codes "Cont;") then action (drop 5 text) else anew text)

-- Z and z: types 0 and 1 are breakpoints; types 2, 3 and 4 are bytes that are watched for changes, for reads, and for both
abbrev pub point_of : List ℕ → Option Point
point_of kind =
    if is_text kind (codes "0") || is_text kind (codes "1") then Some Breakpoint
    else (if is_text kind (codes "2") then Some Watchpoint
    else (if is_text kind (codes "3") then Some ReadWatchpoint
    else (if is_text kind (codes "4") then Some AccessWatchpoint else None)))

abbrev pub placed : (inserts : Bool) → Option Point → Option Numbers → Command
placed inserts point None = on.Malformed
placed inserts None (Some n) = on.Unknown
placed inserts (Some point) (Some n) = if inserts then on.Insert point n.first n.second else on.Remove point n.first n.second

abbrev pub at_place : (inserts : Bool) → (kind : List ℕ) → Option (List ℕ) → Command
at_place inserts kind None = on.Malformed
at_place inserts kind (Some place) = placed inserts (point_of kind) (two_numbers place)

abbrev pub point : (inserts : Bool) → List ℕ → Command
point inserts text = at_place inserts (before 44 text) (behind 44 text)

abbrev pub backwards : List ℕ → Command
backwards text = if is_text text (codes "s") then on.ReverseStep else (if is_text text (codes "c") then on.ReverseContinue else on.Unknown)

abbrev pub setting : List ℕ → Command
setting text = if is_text text (codes "StartNoAckMode") then on.NoAcks else on.Unknown

-- ---- general queries

abbrev pub thread_info : Option Thread → Command
thread_info None = on.Malformed
thread_info (Some thread) = on.ThreadInfo thread

abbrev pub part : Document → Option Numbers → Command
part document None = on.Malformed
part document (Some n) = on.Part document n.first n.second

-- a process, if one is named, a colon, and then the part
abbrev pub file_part : Option (List ℕ) → Command
file_part None = on.Malformed
file_part (Some text) = part File (two_numbers text)

-- the word of monitor that these hexadecimal digits stand for: pages, fds, frames, console, events or why, and help for any other
abbrev pub view_of : List ℕ → View
view_of text =
    if is_text text (codes "7061676573") then Pages
    else (if is_text text (codes "666473") then Descriptors
    else (if is_text text (codes "6672616d6573") then Frames
    else (if is_text text (codes "636f6e736f6c65") then Console
    else (if is_text text (codes "6576656e7473") then Events
    else (if is_text text (codes "776879") then Why else Help)))))

abbrev pub long_query : List ℕ → Command
long_query text =
    if begins text (codes "ThreadExtraInfo,") then thread_info (thread_of (drop 16 text))
    else (if begins text (codes "Xfer:features:read:target.xml:") then part Registers (two_numbers (drop 30 text))
    else (if begins text (codes "Xfer:exec-file:read:") then file_part (behind 58 (drop 20 text))
    else (if begins text (codes "Rcmd,") then on.Monitor (view_of (drop 5 text)) else on.Unknown)))

abbrev pub named : (name text : List ℕ) → Command
named name text =
    if is_text name (codes "Supported") then on.Supported
    else (if is_text name (codes "Attached") then on.Attached
    else (if is_text name (codes "C") then on.CurrentThread
    else (if is_text name (codes "fThreadInfo") then on.FirstThreads
    else (if is_text name (codes "sThreadInfo") then on.MoreThreads
    else (if is_text name (codes "Offsets") then on.Offsets else long_query text)))))

abbrev pub query : List ℕ → Command
query text = named (before 58 text) text

-- ---- all of them

-- G, P, M and X change registers or memory
abbrev pub changes : ℕ → Bool
changes name = (name == 71) || (name == 80) || (name == 77) || (name == 88)

-- c, s, C, S and v go on; b goes back
abbrev pub going : (name : ℕ) → List ℕ → Command
going name text =
    if name == 118 then long_named text
    else (if name == 99 then resume_here text Continue
    else (if name == 115 then resume_here text (Step Any)
    else (if name == 67 then by_signal (number text) Continue
    else (if name == 83 then by_signal (number text) (Step Any)
    else (if name == 98 then backwards text else on.Unknown)))))

-- Z and z are points, H and T threads, q and Q general queries, k and D the end, ! lets the program be begun anew
abbrev pub others : (name : ℕ) → List ℕ → Command
others name text =
    if name == 90 then point true text
    else (if name == 122 then point false text
    else (if name == 72 then choose text
    else (if name == 84 then is_alive (thread_of text)
    else (if name == 113 then query text
    else (if name == 81 then setting text
    else (if name == 107 then on.Kill
    else (if name == 33 then on.Extended
    else (if name == 68 then on.Detach else going name text))))))))

-- what a packet asks for, by the first byte of its payload and what stands behind it
abbrev pub asked_by : (name : ℕ) → List ℕ → Command
asked_by name text =
    if name == 63 then on.Reason
    else (if name == 103 then on.Registers
    else (if name == 112 then register (number text)
    else (if name == 109 then memory (two_numbers text)
    else (if changes name then on.Change else others name text))))

abbrev pub asked : List ℕ → Command
asked [] = on.Unknown
asked (name ∷ text) = asked_by name text
