use Rattle.std.proofs.Common.{rules, string_bytes}
use Rattle.xv_debug.proofs.Displayed.{shown-of-c, shown-of-line}
use Rattle.xv_debug.proofs.debugger.Debugger.show_displayed.Goals as goal

pub returns-then-branch : goal.returns-then-branch
returns-then-branch c =
    shown-of-c c.args.self.now.sources c.args.self.now.chosen c.args.session.now c.args.displayed.now c.as_str-line.result.now (string_bytes c.args.answer.now) (string_bytes c.write.new.self)
    (search rules) c.in_ok-write.ensures.bytes (string_bytes c.tells_of_c.new.answer) c.in_ok-tells_of_c.field-0 c.if-branch.true c.in_ok-tells_of_c.ensures

pub returns : goal.returns
returns c =
    shown-of-line c.args.self.now.sources c.args.self.now.chosen c.args.session.now c.args.displayed.now c.as_str-line.result.now (string_bytes c.args.answer.now) (string_bytes c.write.new.self)
    (search rules) c.in_ok-write.ensures.bytes (string_bytes c.tells_of_c.new.answer) (string_bytes c.show_line.new.answer) c.in_ok-tells_of_c.field-0
    c.if-branch.false c.in_ok-tells_of_c.ensures c.in_ok-show_line.ensures
