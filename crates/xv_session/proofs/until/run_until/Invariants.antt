use Rattle.std.proofs.Common.{◌<◌, replicate}
use Rattle.kernel_spec.specs.runs.Run.{Run}
use Rattle.xv_session.specs.Follows.{Follows}
use Rattle.xv_session.specs.Until.{Unmet}
use Rattle.xv_session.proofs.until.run_until.Given as goal

-- none of the Runs so far is what is waited for, and there were fewer than all
abbrev pub invariant-loop-before : goal.invariant-loop-before
invariant-loop-before l =
    Unmet l.condition l.before l.fn.followed.running l.followed.running × (0 < l.before → l.before < l.most) × Follows (replicate l.before Run) l.fn.followed l.followed
