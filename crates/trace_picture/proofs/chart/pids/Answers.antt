use Rattle.std.proofs.Common.{arith}
use Rattle.trace_picture.proofs.Named.{all_found, are_named}
use Rattle.trace_picture.proofs.chart.pids.Goals as goal

pub returns : goal.returns
returns c =
    let found = all_found c.loop-note.pids.items c.args.notes.now c.loop-note.note-index (omega arith) c.loop-note.invariant in
    are_named c.args.notes.now c.loop-note.pids.items c.sort_unstable.new.self.items c.dedup.new.self.items found c.sort_unstable.ensures.permutation
    c.sort_unstable.ensures.sorted c.dedup.ensures.filtered
