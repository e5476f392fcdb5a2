use Rattle.std.proofs.Common.{None, Option, Some, inl, inr, rules, subst}
use Rattle.recorded_runs.specs.Asked.{IsAsked}
use Rattle.recorded_runs.specs.declared.words.Replay.{Replay}
use Rattle.reported_run.proofs.tell_asked.Goals as goal

pub returns-in-Ok-Some-clause-asked : goal.returns-in-Ok-Some-clause-asked
returns-in-Ok-Some-clause-asked c =
    inl (Some c.in-Ok-Some.asked, subst (λ (asked : Option Replay). IsAsked c.args.settings.now.replay asked) c.in-Ok-Some.field-0-is c.in-Ok-Some.ensures.asked, search rules)

pub returns-in-Ok-None-clause-asked : goal.returns-in-Ok-None-clause-asked
returns-in-Ok-None-clause-asked c =
    inl (None, subst (λ (asked : Option Replay). IsAsked c.args.settings.now.replay asked) c.in-Ok-None.field-0-is c.in-Ok-None.ensures.asked, search rules)

pub returns-in-Err-clause-asked : goal.returns-in-Err-clause-asked
returns-in-Err-clause-asked c = inr (c.in-Err.refusal, c.in-Err.ensures.refused, c.close.ensures)
