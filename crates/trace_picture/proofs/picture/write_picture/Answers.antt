use Rattle.std.proofs.Common.{rules, ◌≡◌, ℕ, List, subst}
use Rattle.std.proofs.lemmas.Result.{on_ok_weaker}
use Rattle.std.specs.Io.KnownBytes.{Appends}
use Rattle.trace_picture.proofs.Texts.{picture-made}
use Rattle.trace_picture.proofs.picture.write_picture.Goals as goal

pub returns : goal.returns
returns g c =
    on_ok_weaker c.put_picture.result
    (λ wrote. subst (λ (z : List ℕ). Appends (g.W.Write.contents c.args.output.now) (g.W.Write.contents c.put_picture.new.output) z)
    (picture-made c.args.chart.now c.args.remarks.now c.names_room.result c.len.result c.row_top.result c.as_slice.result.now (search rules) (search rules) (search rules) (search rules)) wrote)
    c.put_picture.ensures
