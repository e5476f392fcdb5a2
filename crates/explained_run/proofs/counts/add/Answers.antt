use Rattle.std.proofs.Common.{◌∙◌, ap, rules}
use Rattle.std.specs.Prelude.{slice_set}
use Rattle.explained_run.proofs.Rows.{found, missing, pushed-if}
use Rattle.explained_run.proofs.counts.add.Goals as goal

pub returns-in_default : goal.returns-in_default
returns-in_default c = pushed-if c.push.result _ _ _ _ c.push.ensures.items (missing c.args.more.now c.args.counts.now.items (search rules))

pub returns : goal.returns
returns c =
    ap (slice_set c.args.counts.now.items c.in-Some.place) (search rules)
    ∙ (found c.args.more.now c.in-Some.place c.args.counts.now.items (search rules)).is
