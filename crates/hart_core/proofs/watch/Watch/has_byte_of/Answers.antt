use Rattle.std.proofs.Common.{rules, sym}
use Rattle.hart_core.proofs.Guarded.{none-among}
use Rattle.hart_core.proofs.watch.Watch.has_byte_of.Goals as goal

pub returns-then-not-is_marked : goal.returns-then-not-is_marked
returns-then-not-is_marked c = sym (none-among c.args.self.now.bytes.now c.args.self.now.pages.marks c.args.address c.args.width (search rules) c.requires.even (search rules))
