use Rattle.std.proofs.Common.{◌≡◌, ◌++◌, replicate}
use Rattle.kernel_spec.specs.runs.Run.{Key}
use Rattle.xv_live.specs.Plays.{events_of_lines}
use Rattle.xv_live.proofs.recording.push_keys.Given as goal

abbrev pub invariant-keys : goal.invariant-keys
invariant-keys l = events_of_lines l.lines.items ≡ events_of_lines l.fn.lines.items ++ replicate l.made (Key l.byte)
