use Rattle.std.proofs.Common.{[], ◌∷◌}
use Rattle.std.proofs.lemmas.Result.{on_ok_weaker}
use Rattle.kernel_spec.specs.runs.Run.{Tick}
use Rattle.xv_live.proofs.Typed.{types-none, types-plays}
use Rattle.xv_live.proofs.attending.tick.Goals as goal

pub returns-then-not-branch-clause-types : goal.returns-then-not-branch-clause-types
returns-then-not-branch-clause-types g c = types-none c.args.session.now _

pub returns-clause-types : goal.returns-clause-types
returns-clause-types g c = on_ok_weaker c.send.result (λ p. types-plays (Tick ∷ []) _ _ _ _ p) c.send.ensures.plays
