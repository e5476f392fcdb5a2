use Rattle.std.proofs.Common.{sym, ◌∙◌}
use Rattle.hart_core.specs.Steps.{root_of}
use Rattle.hart_core.specs.UserMemory.{user_at}
use Rattle.hart_core.proofs.Guarded.{fetch-same}
use Rattle.hart_core.proofs.watched_memory.WatchedUserMemory.fetch.Goals as goal

pub returns-clause-word : goal.returns-clause-word
returns-clause-word c =
    let s = c.args.self.now in
    c.fetch.ensures.word ∙ sym (fetch-same s.watch.now.bytes.now (user_at s.paged.ram.now (root_of s.paged.root.now)) c.args.pc)
