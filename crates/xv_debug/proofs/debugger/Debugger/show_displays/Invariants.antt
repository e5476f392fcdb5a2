use Rattle.std.proofs.Common.{string_bytes}
use Rattle.xv_debug.proofs.Displayed.{AreToldUpTo}
use Rattle.xv_debug.proofs.debugger.Debugger.show_displays.Given as goal

abbrev pub invariant-loop-displayed : goal.invariant-loop-displayed
invariant-loop-displayed l =
    AreToldUpTo l.fn.self.sources l.fn.self.chosen l.fn.session l.displayed-items l.displayed-index (string_bytes l.fn.answer) (string_bytes l.answer)
