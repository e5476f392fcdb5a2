use Rattle.std.proofs.Common.{◌≡◌, false}
use Rattle.xk_base.specs.Image.{some_below}
use Rattle.kernel_spec.specs.others.Quiet.{file_at}
use Rattle.kernel_spec.specs.steps.Updates.{end_of}
use Rattle.xv_report.specs.Waits.{is_end}
use Rattle.xv_report.proofs.waits.holds_end.Given as goal

abbrev pub invariant-loop-number : goal.invariant-loop-number
invariant-loop-number l = let s = l.fn.machine.world.state in some_below l.number (λ d. is_end l.fn.pipe l.fn.end (end_of s (file_at s l.fn.pid d))) ≡ false
