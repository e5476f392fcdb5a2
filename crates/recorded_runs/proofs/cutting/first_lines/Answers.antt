use Rattle.xv_record.specs.declared.line.Line.TheVariants.{Run}
use Rattle.recorded_runs.proofs.Cut.{first-more, left-more}
use Rattle.recorded_runs.proofs.cutting.first_lines.Goals as goal

pub loop-line-preserved : goal.loop-line-preserved
loop-line-preserved c =
    let lines = c.args.lines.now in
    let i = c.loop-line.line-index in record {
      lines = first-more lines i (Run 0) c.loop-line-test.true c.args.most c.loop-line.first.items c.push_first.new.lines.items c.loop-line.left c.loop-line.invariant.lines c.loop-line.invariant.left
          c.in_ok-push_first.ensures;
      left = left-more lines i (Run 0) c.loop-line-test.true c.args.most c.loop-line.left c.count_of.result c.saturating_sub-left.result c.loop-line.invariant.left c.count_of.ensures
          c.saturating_sub-left.ensures;
    }
