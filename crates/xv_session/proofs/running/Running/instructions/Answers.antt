use Rattle.std.proofs.Common.{refl}
use Rattle.xv_session.proofs.RunsMade.{all-done}
use Rattle.xv_session.proofs.running.Running.instructions.Goals as goal

pub returns-clause-made : goal.returns-clause-made
returns-clause-made c =
    all-done c.instructions.result c.instructions.result c.args.self.now.names c.args.self.now.machine c.instructions.new.self refl c.instructions.ensures.goes
