use Rattle.gdb_target.proofs.reverse.TargetLooksBack.look_from.Goals as goal

pub returns-clause-looked : goal.returns-clause-looked
returns-clause-looked g c = record { looks = c.in_ok-hit.ensures.last; same_run = c.last_from.ensures.same; before = c.in_ok-hit.ensures.hit }
