use Rattle.std.proofs.Common.{◌-◌, ◌≤◌, sym, subst, replicate, arith}
use Rattle.kernel_spec.specs.runs.Run.{Run}
use Rattle.xv_session.specs.Follows.{Follows}
use Rattle.xv_session.proofs.LastSteps.{follows-sound, more-followed}
use Rattle.xv_session.proofs.playing.send_runs.Goals as goal

pub run-sent-requires : goal.run-sent-requires
run-sent-requires g c = record { sound = follows-sound _ c.args.followed.now c.runs.followed c.requires c.runs.invariant.1 }

pub returns-clause-sound : goal.returns-clause-sound
returns-clause-sound g c = follows-sound _ c.args.followed.now c.runs.followed c.requires c.runs.invariant.1

pub runs-preserved : goal.runs-preserved
runs-preserved g c =
    let sent = c.run-sent.result.sent in
    let few : sent ≤ c.runs.left = omega (arith, c.run-sent.ensures.within, c.min-most.ensures) in
    subst (λ n. (c.runs.left - n ≤ c.args.count) × Follows (replicate (c.args.count - (c.runs.left - n)) Run) c.args.followed.now c.run-sent.new.self) (sym c.from-left.ensures) (
      omega (arith, c.runs.invariant.0),
      more-followed c.args.count c.runs.left sent Run c.args.followed.now c.runs.followed c.run-sent.new.self c.runs.invariant.0 few c.runs.invariant.1
          c.run-sent.ensures.follows,
    )
