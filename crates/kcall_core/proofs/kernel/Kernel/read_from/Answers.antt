use Rattle.kcall_core.proofs.files.MovingRows.{reads-pipe}
use Rattle.kcall_core.proofs.kernel.Kernel.read_from.Goals as goal

pub read_pipe-requires-clause-reads : goal.read_pipe-requires-clause-reads
read_pipe-requires-clause-reads c = reads-pipe c.requires.whole c.requires.running c.requires.file c.requires.reads c.in-Pipe.is

pub read_terminal-requires-clause-reads : goal.read_terminal-requires-clause-reads
read_terminal-requires-clause-reads c = record { file = c.args.asked.now.file; kind = c.args.asked.now.kind; on = c.requires.file; reads = c.requires.reads; is = c.in-Console.is }
