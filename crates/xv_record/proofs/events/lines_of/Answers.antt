use Rattle.std.proofs.lemmas.List.Elements.{All-push, All-same}
use Rattle.xv_record.specs.Text.{IsLine}
use Rattle.xv_record.proofs.events.lines_of.Goals as goal

pub loop-part-preserved : goal.loop-part-preserved
loop-part-preserved c = All-same IsLine _ _ c.in_ok-push.ensures.items (All-push IsLine c.loop-part.lines.items _ c.loop-part.invariant c.in-Some-line_of.ensures)
