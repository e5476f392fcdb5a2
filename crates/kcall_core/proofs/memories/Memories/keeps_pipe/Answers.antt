use Rattle.kcall_core.proofs.Prelude.{◌<◌, ◌∙◌, ◌≤◌, ap, arith, false, get_or_past, get_or_read, keeps_pipe, length, sym}
use Rattle.kcall_core.proofs.memory.PipesTold.{keeps-told}
use Rattle.kcall_core.proofs.memories.Memories.keeps_pipe.Goals as goal

pub returns-then-index-len : goal.returns-then-index-len
returns-then-index-len c =
    let pipes = c.args.self.now.pipes in
    let past : length pipes.items ≤ c.args.frame = omega (arith, c.if-index-len.true, c.len.ensures, c.index-index.ensures.value, pipes.ok.0) in
    sym (keeps-told c.args.self.now c.args.frame c.index-index.ensures.range ∙ get_or_past pipes.items c.args.frame false past)

pub returns : goal.returns
returns c =
    let pipes = c.args.self.now.pipes in
    let inside : c.index-index.result < length pipes.items = omega (arith, c.if-index-len.false, c.len.ensures, pipes.ok.0) in
    get_or_read pipes.items c.index-index.result c.index.result.now inside c.index.ensures false
    ∙ ap (keeps_pipe pipes.items) c.index-index.ensures.value
    ∙ sym (keeps-told c.args.self.now c.args.frame c.index-index.ensures.range)
