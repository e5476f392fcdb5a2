use Rattle.gdb_target.proofs.service.beginning.booted.Goals as goal

pub returns : goal.returns
returns g c = record { begin = c.in_ok-begin.begin; at_boot = c.in_ok-begin.ensures; target = c.in_ok-target.ensures }
