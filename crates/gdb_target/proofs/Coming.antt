-- What came of events that a run got.
use Rattle.std.proofs.Common.{◌≡◌, ◌∙◌, ℕ, zero, suc, ◌+◌, ◌<◌, inl, inr, List, [], ◌∷◌, ◌++◌, sym, ap, subst, arith, length, length-append, Option, None, Some}
use Rattle.std.specs.Prelude.{replicate, ℤ}
use Rattle.std.proofs.lemmas.List.{length-replicate, replicate-append-replicate}
use Rattle.kernel_spec.specs.runs.Run.{Event, Run, Outcome, World, Step_of, RunHappens}
use Rattle.kernel_spec.specs.steps.Own.{Answer, Stepped}
use Rattle.kernel_spec.specs.views.Words.{or_zero}
use Rattle.kernel_spec.specs.waking.Wakes.{IsPromised}
use Rattle.xv_machine.proofs.Joins.{goes-one}
use Rattle.xv_machine.specs.Drives.{Goes, done_by}
use Rattle.xv_session.specs.Answers.{Sent, RunsSent}
use Rattle.xv_session.specs.Recorded.{Recorded, running_of}
use Rattle.xv_session.specs.Steps.{AreRunsTo}
use Rattle.gdb_target.specs.Came.{Comes, came}
use Rattle.gdb_target.specs.declared.played.Played.{Played}
use Rattle.gdb_target.proofs.Sending.{length-events, runs_count}

pub comes_sent : (from to : Played) (e : Event) (o : Outcome) → Sent from.session e o to.session → Comes from to o
comes_sent from to e o (one, kept) = record {
  before = [];
  last = e;
  goes = goes-one e o from.session.machine to.session.machine one.event.promised one.event.notes one.event.room one.event.frames one.event.sound;
  count = let n = ap (λ (r : Recorded). length r.events) kept ∙ length-append from.session.events (e ∷ []) in omega (arith, n);
}

one-more : (n : ℕ) (e : Event × Outcome) → replicate (suc n) e ≡ replicate n e ++ e ∷ []
one-more n e = let next : n + 1 ≡ suc n = omega arith in sym (replicate-append-replicate n 1 e ∙ ap (λ (m : ℕ). replicate m e) next)

module _ (from to : Played) where
  abbrev was : Recorded
  was = from.session

  abbrev is : Recorded
  is = to.session

  comes-list : (list before : List (Event × Outcome)) (o : Outcome) → list ≡ before ++ (Run, o) ∷ [] → Goes was.machine list is.machine
      → length is.events ≡ length was.events + length list → Comes from to o
  comes-list list before o those goes count = record {
    before = before;
    last = Run;
    goes = subst (λ (es : List (Event × Outcome)). Goes was.machine es is.machine) those goes;
    count = let n = ap length those ∙ length-append before ((Run, o) ∷ []) in omega (arith, n, count);
  }

  comes-run : (most : ℕ) (current : Option ℕ) (last : Option Outcome) (list : List (Event × Outcome)) → AreRunsTo (suc most) (or_zero current) last list
      → Goes was.machine list is.machine → length is.events ≡ length was.events + length list → Comes from to (came last current)
  comes-run most current None list those goes count =
      comes-list list (replicate most (done_by (or_zero current))) (came None current) (those ∙ one-more most (done_by (or_zero current))) goes count
  comes-run most current (Some o) list (inl one) goes count = comes-list list (replicate one.0 (done_by (or_zero current))) o one.1 goes count
  comes-run most current (Some o) list (inr all) goes count = comes-list list (replicate most (Run, o)) o (all.0 ∙ one-more most (Run, o)) goes count

  pub comes_runs : (most sent : ℕ) (last : Option Outcome) → 0 < most → RunsSent most sent last was is → Comes from to (came last was.machine.world.turns.current)
  comes_runs zero sent last some (made, kept) = absurd (omega arith)
  comes_runs (suc most) sent last some (made, kept) =
      let far = ap (λ (r : Recorded). length r.events) kept ∙ length-append was.events (replicate sent Run) in
      let runs : length (replicate sent Run) ≡ sent = length-replicate sent Run in
      let all : length made.list ≡ sent = sym (length-events made.list) ∙ ap length made.those ∙ runs in
      comes-run most was.machine.world.turns.current last made.list made.runs_are made.goes (omega (arith, far, runs, all))

  pub comes_last : (most sent : ℕ) (told : Option Outcome) (current : Option ℕ) (o : Outcome) → 0 < most → RunsSent most sent told was is
      → current ≡ was.machine.world.turns.current → o ≡ came told current → Comes from to o
  comes_last most sent told current o some runs now last =
      subst (λ (x : Outcome). Comes from to x) (sym (last ∙ ap (came told) now)) (comes_runs most sent told some runs)

pub more_events : (most sent : ℕ) (last : Option Outcome) (old new : Recorded) → 0 < most → RunsSent most sent last old new → length old.events < length new.events
more_events most sent last old new some runs =
    let far = ap (λ (r : Recorded). length r.events) runs.1 ∙ length-append old.events (replicate sent Run) in
    let count : length (replicate sent Run) ≡ sent = length-replicate sent Run in
    let any : 0 < sent = (runs_count most sent last (running_of old) (running_of new) runs.0).some some in
    omega (arith, far, count, any)

-- ---- nobody steps if nobody runs

no-step : (w t : World) (halted : Option ℤ) (p : ℕ) (a : Answer) → RunHappens w halted None (Step_of p a) t → ⊥
no-step w t (Some status) p a (is, same) = let none : ⊥ = cc in none
no-step w t None p a none = none

no-steps : (w t : World) (p : ℕ) (a : Answer) (n : ℕ) → w.turns.current ≡ None → IsPromised w (replicate (suc n) (Run, Step_of p a)) t → ⊥
no-steps w t p a n nobody (mid, one, rest) =
    no-step w mid w.turns.halted p a (subst (λ (c : Option ℕ). RunHappens w w.turns.halted c (Step_of p a) mid) nobody one.0)

-- of Runs, one at least, of which nothing is told somebody did instructions
pub somebody_ran : (most sent : ℕ) (last : Option Outcome) (old new : Recorded) → 0 < most → RunsSent most sent last old new → last ≡ None → old.machine.world.turns.current ≡ None → ⊥
somebody_ran zero sent last old new some runs told nobody = absurd (omega arith)
somebody_ran (suc most) sent (Some o) old new some runs told nobody = let none : ⊥ = cc in none
somebody_ran (suc most) sent None old new some (made, kept) told nobody =
    no-steps old.machine.world new.machine.world (or_zero old.machine.world.turns.current) Stepped most nobody
    (subst (λ (es : List (Event × Outcome)). IsPromised old.machine.world es new.machine.world) made.runs_are made.goes.run)
