use Rattle.std.proofs.Common.{codes, true}
use Rattle.call_lines.specs.Line.{texts_shown}
use Rattle.call_lines.specs.declared.line.TheConstants.{TEXTS_MOST}
use Rattle.debug_views.proofs.Texts.{pushed, three_shown}
use Rattle.call_lines.proofs.line.Lines.show_list.Goals as goal

pub returns : goal.returns
returns c =
    three_shown c.push_str-2.result _ _ _ _ (codes "{") (texts_shown c.args.self.now.shown c.args.self.now.machine.now.world.state c.args.self.now.pid c.args.address true TEXTS_MOST) (codes "}")
    c.in_ok-push_str.ensures.bytes c.in_ok-show_texts.ensures (pushed c.push_str-2.result _ _ _ c.push_str-2.ensures.bytes)
