use Rattle.debug_views.proofs.Prelude.{AreRuns}
use Rattle.debug_views.proofs.Trees.{added-alone}
use Rattle.debug_views.proofs.page_runs.runs_of.Goals as goal

pub returns : goal.returns
returns c = added-alone (AreRuns c.args.machine.now.world.state c.args.uses.now c.args.pid c.args.from c.args.end) _ _ c.new-runs.ensures c.add_runs.ensures
