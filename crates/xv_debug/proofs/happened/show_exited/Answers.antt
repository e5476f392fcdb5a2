use Rattle.std.proofs.Common.{◌++◌, ℕ, List, codes, subst}
use Rattle.std.proofs.lemmas.Int.{to_z-of_z}
use Rattle.std.specs.Fmt.{WritesOnOk, signed_decimal}
use Rattle.std.specs.Int.{w32}
use Rattle.xv_debug.specs.OutcomeText.{pid_text}
use Rattle.xv_debug.proofs.happened.show_exited.Goals as goal

pub returns : goal.returns
returns g c =
    subst (λ (bs : List ℕ). WritesOnOk g.W.Write.write_str_gives c.args.f.now c.write.result bs c.write.new.self)
    (λ i. pid_text (c.number-pid.ensures.value i) (codes " is gone, with status " ++ signed_decimal (to_z-of_z w32 c.args.status c.ranges.status i))) c.write.ensures.writes
