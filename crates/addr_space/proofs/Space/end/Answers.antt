use Rattle.addr_space.proofs.Translations.{unreached}
use Rattle.addr_space.proofs.Space.end.Goals as goal

pub returns-clause-unreached : goal.returns-clause-unreached
returns-clause-unreached c ram va access is behind = unreached ram c.args.self.now c.min.result va access is c.min.ensures behind
