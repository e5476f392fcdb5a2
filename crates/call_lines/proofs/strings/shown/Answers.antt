use Rattle.std.proofs.Common.{arith, sym}
use Rattle.std.proofs.lemmas.List.{length-take-le, take_all}
use Rattle.call_lines.proofs.strings.shown.Goals as goal

pub slice_bounds-result-end : goal.slice_bounds-result-end
slice_bounds-result-end c = sym (length-take-le c.args.most c.args.bytes.now (omega (arith, c.if-bytes-most.true)))

pub returns-else-bytes-most : goal.returns-else-bytes-most
returns-else-bytes-most c = sym (take_all c.args.most c.args.bytes.now (omega (arith, c.if-bytes-most.false)))
