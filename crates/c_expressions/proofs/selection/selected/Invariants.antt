use Rattle.std.proofs.Common.{◌≡◌, drop}
use Rattle.c_expressions.specs.Selection.{selected}
use Rattle.c_expressions.proofs.selection.selected.Given as goal

abbrev pub invariant-loop-step : goal.invariant-loop-step
invariant-loop-step g l =
    selected l.layouts.types.items l.layouts.members.items (g.S.Sight.bytes l.sight) (drop l.step-index l.steps) l.at ≡
    selected l.layouts.types.items l.layouts.members.items (g.S.Sight.bytes l.sight) l.steps l.fn.subject
