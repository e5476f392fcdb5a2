use Rattle.std.proofs.Common.{◌++◌, ℕ, List, codes, subst}
use Rattle.std.specs.Fmt.{WritesOnOk}
use Rattle.xv_debug.specs.OutcomeText.{pid_text}
use Rattle.xv_debug.proofs.happened.show_faulted.Goals as goal

pub returns : goal.returns
returns g c =
    subst (λ (bs : List ℕ). WritesOnOk g.W.Write.write_str_gives c.args.f.now c.write.result bs c.write.new.self)
    (λ i. pid_text (c.number-pid.ensures.value i) (codes " is gone by a fault: " ++ c.cause_text-text.ensures i)) c.write.ensures.writes
