-- The payloads of answers (GDB manual, "Stop Reply Packets", "General Query Packets" and "Standard Replies").
use Rattle.std.specs.Prelude.{ℕ, nat_lt, if◌then◌else◌, List, [], ◌∷◌, ◌++◌, length, take, drop, codes}
use Rattle.std.specs.Int.{w64, to_le_bytes}
use Rattle.std.specs.List.{flat_map}
use Rattle.hex.specs.Hex.{encode_lower}
use Rattle.gdb_packets.specs.Digits.{byte_digits}
use Rattle.gdb_packets.specs.Numbers.{digits}
use Rattle.gdb_packets.specs.declared.answers.Stop.{Stop}
use Rattle.gdb_packets.specs.declared.answers.StopReason.{StopReason}
use Rattle.gdb_packets.specs.declared.answers.StopReason.TheVariants.{Trap, Watch, ReadWatch, AccessWatch, Interrupt, Illegal, Segmentation, Misaligned, Begin, End}

-- a part of a document, so many bytes from an offset on at most: m before a part that more follow, l before the last
abbrev pub part_of : List ℕ → ℕ → ℕ → List ℕ
part_of document offset size =
    if nat_lt size (length (drop offset document)) then 109 ∷ take size (drop offset document) else 108 ∷ drop offset document

-- the refusal of this number: E and two digits
abbrev pub refusal : ℕ → List ℕ
refusal number = 69 ∷ byte_digits number

-- the program has ended, with this low byte of its status: W and two digits
abbrev pub exited : ℕ → List ℕ
exited status = 87 ∷ byte_digits status

-- nobody is let run any more: the thread that was let run alone is gone
abbrev pub no_resumed : List ℕ
no_resumed = codes "N"

abbrev pub current_thread : ℕ → List ℕ
current_thread thread = 81 ∷ 67 ∷ digits thread

-- one thread more of a list: a comma, and its number
abbrev pub one_more : ℕ → List ℕ
one_more thread = 44 ∷ digits thread

-- threads, with m before them; l, which ends a list, if there is none
abbrev pub thread_list : List ℕ → List ℕ
thread_list [] = 108 ∷ []
thread_list (first ∷ others) = 109 ∷ digits first ++ flat_map one_more others

-- the number of the signal that tells a reason (GDB's own numbers, include/gdb/signals.def)
abbrev pub signal_number : StopReason → ℕ
signal_number Trap = 5
signal_number (Watch address) = 5
signal_number (ReadWatch address) = 5
signal_number (AccessWatch address) = 5
signal_number Interrupt = 2
signal_number Illegal = 4
signal_number Segmentation = 11
signal_number Misaligned = 10
signal_number Begin = 5
signal_number End = 5

-- a word for watched bytes, and the address from which on they are watched
abbrev pub watch_note : List ℕ → ℕ → List ℕ
watch_note word address = word ++ digits address ++ codes ";"

-- what tells of a reason beside its signal
abbrev pub stop_note : StopReason → List ℕ
stop_note (Watch address) = watch_note (codes "watch:") address
stop_note (ReadWatch address) = watch_note (codes "rwatch:") address
stop_note (AccessWatch address) = watch_note (codes "awatch:") address
stop_note Begin = codes "replaylog:begin;"
stop_note End = codes "replaylog:end;"
stop_note Trap = []
stop_note Interrupt = []
stop_note Illegal = []
stop_note Segmentation = []
stop_note Misaligned = []

-- a stop: T, its signal, what else is told of it, and its thread
abbrev pub stop_reply : Stop → List ℕ
stop_reply s = 84 ∷ byte_digits (signal_number s.reason) ++ stop_note s.reason ++ codes "thread:" ++ digits s.thread ++ codes ";"

-- a step of the thread has led to this address: T05, the register 32 (20 in hexadecimal digits), which is the pc, with its bytes, the lowest first, and the thread
abbrev pub stepped_to : (thread address : ℕ) → List ℕ
stepped_to thread address = codes "T0520:" ++ encode_lower (to_le_bytes w64 address) ++ codes ";thread:" ++ digits thread ++ codes ";"
