use Rattle.std.proofs.Common.{rules, nat_eq}
use Rattle.std.specs.Prelude.{not}
use Rattle.std.proofs.lemmas.Fn.{filter_same}
use Rattle.reported_run.specs.declared.ends.Kill.{Kill}
use Rattle.reported_run.proofs.ends.forget_kills.Goals as goal

pub returns : goal.returns
returns c = filter_same _ (λ (k : Kill). not (nat_eq k.victim c.args.pid)) _ (λ x b f' k. search rules) _ _ c.retain.ensures.filtered
