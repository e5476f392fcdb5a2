use Rattle.addr_space.proofs.Empties.{made-empty}
use Rattle.addr_space.proofs.Isolation.{spared}
use Rattle.addr_space.proofs.Trades.{belongs-made}
use Rattle.addr_space.proofs.Space.empty.Goals as goal

pub returns-clause-made : goal.returns-clause-made
returns-clause-made c = (made-empty c.args.pool.now c.take.new.self c.args.ram.now c.take.new.ram c.in-Some.root c.requires.good c.in-Some.ensures.taken).0

pub returns-clause-image : goal.returns-clause-image
returns-clause-image c = (made-empty c.args.pool.now c.take.new.self c.args.ram.now c.take.new.ram c.in-Some.root c.requires.good c.in-Some.ensures.taken).1

pub returns-clause-others : goal.returns-clause-others
returns-clause-others c other s = spared _ _ _ _ _ _ other (made-empty c.args.pool.now c.take.new.self c.args.ram.now c.take.new.ram c.in-Some.root c.requires.good c.in-Some.ensures.taken).0.traded s

pub returns-clause-belongs : goal.returns-clause-belongs
returns-clause-belongs c = belongs-made _ _ _ _ _ c.requires.good (returns-clause-made c)
