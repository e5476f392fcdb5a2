use Rattle.std.proofs.Common.{◌≡◌, ◌++◌, take}
use Rattle.std.specs.List.{flat_map}
use Rattle.gdb_packets.specs.Answers.{one_more}
use Rattle.gdb_packets.proofs.answers.thread_list.Given as goal

abbrev pub invariant-loop-thread : goal.invariant-loop-thread
invariant-loop-thread l = l.text.items ≡ l.initial.text.items ++ flat_map one_more (take l.thread-index l.others)
