use Rattle.std.proofs.Common.{Option, rules, subst, sym}
use Rattle.std.proofs.lemmas.Result.{IfOk-weaker}
use Rattle.recorded_runs.specs.declared.words.Replay.{Replay}
use Rattle.gdb_target.specs.Beginning.{IsOf}
use Rattle.gdb_target.proofs.service.beginning.begin.Goals as goal

pub returns-in-Some : goal.returns-in-Some
returns-in-Some c =
    IfOk-weaker c.replayed.result _ _ (λ t is. record {
      rounds = c.new-rounds.result;
      keys = search rules;
      quantum = search rules;
      target = subst (λ (r : Option Replay). IsOf c.args.settings.now r c.new-rounds.result t) (sym c.in-Some.is) is;
    }) c.replayed.ensures

pub returns-in-None : goal.returns-in-None
returns-in-None c =
    IfOk-weaker c.booted.result _ _ (λ t is. record {
      rounds = c.new-rounds.result;
      keys = search rules;
      quantum = search rules;
      target = subst (λ (r : Option Replay). IsOf c.args.settings.now r c.new-rounds.result t) (sym c.in-None.is) is;
    }) c.booted.ensures
