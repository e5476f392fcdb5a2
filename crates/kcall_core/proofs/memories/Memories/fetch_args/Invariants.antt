use Rattle.kcall_core.proofs.Prelude.{ARG_BYTES, each_of, held_at, MAXARG, texts_at}
use Rattle.kcall_core.proofs.memory.Arguments.{Reading}
use Rattle.kcall_core.proofs.memories.Memories.fetch_args.Given as goal

abbrev pub invariant-texts : goal.invariant-texts
invariant-texts l = Reading (texts_at MAXARG ARG_BYTES (held_at (each_of l.self) l.slot).image l.pointers) (held_at (each_of l.self) l.slot).image l.args l.more l.at

abbrev pub decreases-texts : goal.decreases-texts
decreases-texts l = l.more
