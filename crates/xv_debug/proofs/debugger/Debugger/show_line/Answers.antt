use Rattle.std.proofs.Common.{string_bytes}
use Rattle.std.proofs.lemmas.Result.{on_ok_weaker}
use Rattle.xv_debug.specs.ToldOfC.{is_read, is_no_word}
use Rattle.xv_debug.proofs.debugger.Debugger.show_line.Goals as goal

pub returns-in_ok-show_read-in-Ok : goal.returns-in_ok-show_read-in-Ok
returns-in_ok-show_read-in-Ok c = is_read c.in-Ok.word c.in_ok-show_read-in-Ok.ensures

pub returns-in_ok-why-in-Err : goal.returns-in_ok-why-in-Err
returns-in_ok-why-in-Err c = on_ok_weaker c.writeln.result (λ written. is_no_word (string_bytes c.in_ok-why-in-Err.why) written) c.writeln.ensures.bytes
