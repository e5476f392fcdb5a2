-- The exit status of a run that is broken off.
use Rattle.std.specs.Prelude.{ℕ}
use Rattle.reported_run.specs.declared.stop.Stop.{Stop}
use Rattle.reported_run.specs.declared.stop.Stop.TheVariants.{Session, OverBudget}

-- 2 if there is no room for an event, and 6 if the budget is used up
abbrev pub stop_status : Stop → ℕ
stop_status (Session error) = 2
stop_status OverBudget = 6
