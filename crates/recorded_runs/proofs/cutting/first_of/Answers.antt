use Rattle.std.proofs.Common.{◌∙◌, ap, replicate, sym, take}
use Rattle.kernel_spec.specs.runs.Run as runs
use Rattle.xv_live.specs.Plays.{events_of_line}
use Rattle.xv_session.proofs.Spans.{take-equal}
use Rattle.recorded_runs.proofs.cutting.first_of.Goals as goal

pub returns-in-Run : goal.returns-in-Run
returns-in-Run c =
    ap (λ n. replicate n runs.Run) c.min.ensures
    ∙ sym (ap (take c.args.most) (ap events_of_line c.in-Run.is) ∙ take-equal c.args.most c.in-Run.count runs.Run)

pub returns-in-Tick : goal.returns-in-Tick
returns-in-Tick c =
    ap (λ n. replicate n runs.Tick) c.min-in-Tick.ensures
    ∙ sym (ap (take c.args.most) (ap events_of_line c.in-Tick.is) ∙ take-equal c.args.most c.in-Tick.count runs.Tick)

pub returns-in-Send : goal.returns-in-Send
returns-in-Send c =
    ap (λ n. replicate n runs.Send) c.min-in-Send.ensures
    ∙ sym (ap (take c.args.most) (ap events_of_line c.in-Send.is) ∙ take-equal c.args.most c.in-Send.count runs.Send)
