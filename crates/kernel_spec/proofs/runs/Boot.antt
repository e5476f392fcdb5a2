-- Runs join and are split, and so do promised ones, which are runs; and a step of a run from boot is isolated.
use Rattle.kernel_spec.proofs.Prelude.{[], ◌∷◌, Isolated, IsPromised, IsRun, PromisedIsRun, PromisedRunsJoin, PromisedRunsSplit, refl, RunsJoin, RunsSplit, StepOf, subst, World}
use Rattle.kernel_spec.proofs.runs.Two.{own_step}

pub runs_join : RunsJoin
runs_join w m t [] fs one more = subst (λ (x : World). IsRun x fs t) one more
runs_join w m t (e ∷ es) fs one more = (one.0, one.1, runs_join one.0 m t es fs one.2 more)

pub runs_split : RunsSplit
runs_split w t [] fs run = (w, refl, run)
runs_split w t (e ∷ es) fs run = let rest = runs_split run.0 t es fs run.2 in (rest.0, (run.0, run.1, rest.1), rest.2)

pub promised_runs_split : PromisedRunsSplit
promised_runs_split w t [] fs run = (w, refl, run)
promised_runs_split w t (e ∷ es) fs run = let rest = promised_runs_split run.0 t es fs run.2 in (rest.0, (run.0, run.1, rest.1), rest.2)

pub promised_runs_join : PromisedRunsJoin
promised_runs_join w m t [] fs one more = subst (λ (x : World). IsPromised x fs t) one more
promised_runs_join w m t (e ∷ es) fs one more = (one.0, one.1, promised_runs_join one.0 m t es fs one.2 more)

pub promised_is_run : PromisedIsRun
promised_is_run w t [] es = es
promised_is_run w t (e ∷ es) run = (run.0, run.1.0, promised_is_run run.0 t es run.2)

pub isolated : Isolated
isolated frames trace programs es w t p o boot is happens =
    let h : StepOf w p o t = own_step p w t o w.turns.halted w.turns.current happens is.1 is.2 in
    (h.before, h.was, h.answer, h.state, h.turns)
