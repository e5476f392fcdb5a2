use Rattle.debug_views.proofs.page_runs.+add_runs.Given as goal

abbrev pub decreases-add_runs : goal.decreases-add_runs
decreases-add_runs l = l.room
