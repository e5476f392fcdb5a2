use Rattle.std.proofs.Common.{rules}
use Rattle.std.proofs.lemmas.Result.{on_ok_weaker}
use Rattle.trace_picture.specs.Svg.{picture_of}
use Rattle.trace_picture.proofs.draw_text.Goals as goal

pub returns : goal.returns
returns g c =
    on_ok_weaker c.write_picture.result
    (λ wrote. (
      picture_of c.in_ok-chart.chart c.in_ok-notes.field-0.remarks,
      record {
        told = c.in_ok-notes.field-0;
        chart = c.in_ok-chart.chart;
        lines = search rules;
        notes = search rules;
        rows = search rules;
        named = search rules;
        is = search rules;
      },
      wrote,
    )) c.write_picture.ensures
