use Rattle.std.proofs.Common.{map, take}
use Rattle.explained_run.specs.Asked.{AreCallsOf}
use Rattle.explained_run.proofs.asking.calls_named.Given as goal

abbrev pub invariant-loop-name : goal.invariant-loop-name
invariant-loop-name l = AreCallsOf (map (λ name. name.now) (take l.name-index l.names)) l.calls.items
