use Rattle.xv_machine.proofs.laws.machine_runs.Goals as goal
use Rattle.xv_machine.proofs.Reached as in-reached

pub returns-clause-events_go : goal.returns-clause-events_go
returns-clause-events_go c = in-reached.events_go

pub returns-clause-boot_reaches : goal.returns-clause-boot_reaches
returns-clause-boot_reaches c = in-reached.boot_reaches

pub returns-clause-reaches_on : goal.returns-clause-reaches_on
returns-clause-reaches_on c = in-reached.reaches_on

pub returns-clause-reached_is_run : goal.returns-clause-reached_is_run
returns-clause-reached_is_run c = in-reached.reached_is_run

pub returns-clause-reached_is_sound : goal.returns-clause-reached_is_sound
returns-clause-reached_is_sound c = in-reached.reached_is_sound

pub returns-clause-turns_come : goal.returns-clause-turns_come
returns-clause-turns_come c = in-reached.turns_come
