use Rattle.gdb_target.proofs.Stood.{if-both}
use Rattle.gdb_target.proofs.target.Target.standing.Goals as goal

pub returns-clause-stands : goal.returns-clause-stands
returns-clause-stands c = if-both c.at_breakpoint.result c.if_let.result _ _ c.if_let.ensures.same c.if_let.ensures.lets c.at_breakpoint.ensures.stands
