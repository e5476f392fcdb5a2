use Rattle.xv_machine.proofs.laws.processes_are_apart.Goals as goal
use Rattle.xv_machine.proofs.Reached as in-reached

pub returns-clause-steps_are_own : goal.returns-clause-steps_are_own
returns-clause-steps_are_own c = in-reached.steps_are_own

pub returns-clause-two_machines : goal.returns-clause-two_machines
returns-clause-two_machines c = in-reached.two_machines

pub returns-clause-no_byte_is_shown : goal.returns-clause-no_byte_is_shown
returns-clause-no_byte_is_shown c = in-reached.no_byte_is_shown
