use Rattle.kcall_core.proofs.Prelude.{◌∙◌, answer_of, ap, Makes, Own, subst, sym}
use Rattle.kcall_core.proofs.files.MovingRows.{writes-pipe, program-refused}
use Rattle.kcall_core.proofs.kernel.Kernel.write_to.Goals as goal

pub write_pipe-requires-clause-writes : goal.write_pipe-requires-clause-writes
write_pipe-requires-clause-writes c = writes-pipe c.requires.whole c.requires.running c.requires.file c.requires.writes c.in-Pipe.is

pub returns-in-Program-clause-made : goal.returns-in-Program-clause-made
returns-in-Program-clause-made c =
    subst (λ (o : Own). Makes c.args.self.now c.args.hart.now o c.refuse.new.self c.refuse.new.hart)
    (sym (program-refused c.in-Program.program c.in-Program.offset c.requires.whole c.requires.running c.requires.file c.requires.writes c.in-Program.is)) (c.refuse.ensures.made c.args.call.now)

pub returns-in-Program-clause-answer : goal.returns-in-Program-clause-answer
returns-in-Program-clause-answer c =
    ap (λ (o : Own). o.answer) (program-refused c.in-Program.program c.in-Program.offset c.requires.whole c.requires.running c.requires.file c.requires.writes c.in-Program.is)
    ∙ ap (answer_of c.args.call.now.number) (sym c.refuse.ensures.end)

pub write_terminal-requires-clause-writes : goal.write_terminal-requires-clause-writes
write_terminal-requires-clause-writes c = record { file = c.args.asked.now.file; kind = c.args.asked.now.kind; on = c.requires.file; writes = c.requires.writes; is = c.in-Console.is }
