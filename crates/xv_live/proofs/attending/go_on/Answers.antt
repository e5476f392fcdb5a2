use Rattle.std.proofs.lemmas.Result.{on_ok_weaker}
use Rattle.xv_live.proofs.Typed.{first-then}
use Rattle.xv_live.proofs.attending.go_on.Goals as goal

pub returns-clause-types : goal.returns-clause-types
returns-clause-types g c =
    let ticked = first-then _ _ _ _ _ _ _ _ c.in_ok-type_keys.ensures c.in_ok-tick.ensures.types in
    let worked = first-then _ _ _ _ _ _ _ _ ticked c.in_ok-work.ensures in
    on_ok_weaker c.drain.result (λ drained. first-then _ _ _ _ _ _ _ _ worked drained) c.drain.ensures.types
