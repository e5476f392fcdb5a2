use Rattle.std.proofs.Common.{sym, ◌∙◌}
use Rattle.hart_core.specs.Steps.{root_of}
use Rattle.hart_core.specs.UserMemory.{user_at}
use Rattle.hart_core.proofs.Guarded.{load-same}
use Rattle.hart_core.proofs.watched_memory.WatchedUserMemory.load.Goals as goal

pub returns-clause-value : goal.returns-clause-value
returns-clause-value c =
    let s = c.args.self.now in
    c.load.ensures.value ∙ sym (load-same s.watch.now.bytes.now (user_at s.paged.ram.now (root_of s.paged.root.now)) c.args.address c.args.width)
