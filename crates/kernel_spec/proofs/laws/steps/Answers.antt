use Rattle.kernel_spec.proofs.laws.steps.Goals as goal
use Rattle.kernel_spec.proofs.steps.AloneLawsHold as in-alone

pub returns-clause-instruction : goal.returns-clause-instruction
returns-clause-instruction c = in-alone.instruction

pub returns-clause-ecall : goal.returns-clause-ecall
returns-clause-ecall c = in-alone.ecall

pub returns-clause-resume : goal.returns-clause-resume
returns-clause-resume c = in-alone.resume

pub returns-clause-end : goal.returns-clause-end
returns-clause-end c = in-alone.end

pub returns-clause-touch : goal.returns-clause-touch
returns-clause-touch c = in-alone.touched
