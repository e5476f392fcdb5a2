use Rattle.std.proofs.Common.{◌≡◌, true, ◌++◌, drop, string_bytes}
use Rattle.xv_debug.specs.OutputText.{behind_bars}
use Rattle.xv_debug.proofs.shown_output.show_bytes.Given as goal

-- what is left, behind what was written, is all of it
abbrev pub invariant-loop-place : goal.invariant-loop-place
invariant-loop-place l = string_bytes l.answer ++ behind_bars l.begins (drop l.place l.bytes.items) ≡ string_bytes l.fn.answer ++ behind_bars true l.bytes.items
