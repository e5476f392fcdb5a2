use Rattle.std.proofs.Common.{rules}
use Rattle.std.specs.String.{string_bytes}
use Rattle.trace_picture.proofs.Written.{drawn, whatever-comes}
use Rattle.trace_picture.proofs.draw_trace.Goals as goal

pub returns : goal.returns
returns g c =
    whatever-comes c.flush.result
    (drawn (g.R.Read.remaining c.args.trace) (g.W.Write.contents c.args.output.now) (g.W.Write.contents c.draw_text.new.output) (g.W.Write.contents c.flush.new.self)
    (string_bytes c.in_ok-text.text) c.in_ok-text.ensures (search rules) c.flush.ensures.bytes)
