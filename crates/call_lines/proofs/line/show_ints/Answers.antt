use Rattle.std.proofs.Common.{codes}
use Rattle.call_lines.specs.Line.{int_shown}
use Rattle.debug_views.proofs.Texts.{three_shown}
use Rattle.call_lines.proofs.line.show_ints.Goals as goal

pub returns : goal.returns
returns c =
    three_shown c.show_int-2.result _ _ _ _ (int_shown c.args.one) (codes ", ") (int_shown c.args.other) c.in_ok-show_int.ensures c.in_ok-push_str.ensures.bytes c.show_int-2.ensures
