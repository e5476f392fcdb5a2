use Rattle.xv_record.proofs.Grown.{grown}
use Rattle.xv_record.proofs.growing.GrowingRecord.grow.Goals as goal

pub returns-clause-grows : goal.returns-clause-grows
returns-clause-grows g c = λ head before stands. grown head _ before _ _ _ _ _ _ c.new.ensures.bytes stands c.in_ok-put.ensures.put c.in_ok-put.ensures.standing
