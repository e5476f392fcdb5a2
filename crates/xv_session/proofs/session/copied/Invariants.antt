use Rattle.std.proofs.Common.{◌≡◌, map, take}
use Rattle.kernel_spec.specs.views.State.{named_file}
use Rattle.xv_session.proofs.session.copied.Given as goal

abbrev pub invariant-loop-place : goal.invariant-loop-place
invariant-loop-place l = map named_file l.copy.items ≡ map named_file (take l.place l.programs)
