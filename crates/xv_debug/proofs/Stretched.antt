-- Runs that are sent at once, stretch by stretch.
use Rattle.std.proofs.Common.{◌≡◌, ◌≢◌, ◌∙◌, ℕ, zero, suc, ◌+◌, ◌<◌, ◌≤◌, List, [], ◌∷◌, ◌++◌, length, Option, None, Some, inl, inr, refl, sym, ap, ap₂, subst, replicate, arith}
use Rattle.std.proofs.lemmas.List.{replicate-append-replicate}
use Rattle.kernel_spec.specs.runs.Run.{Event, Run, Outcome, World}
use Rattle.kernel_spec.specs.views.Words.{or_zero}
use Rattle.xv_machine.specs.Drives.{done_by}
use Rattle.xv_machine.proofs.Joins.{goes-none, goes-one, goes-join, events-join}
use Rattle.xv_session.specs.Answers.{Sent, RunsSent}
use Rattle.xv_session.specs.Recorded.{Recorded}
use Rattle.xv_session.specs.Steps.{AreRunsTo}
use Rattle.xv_session.proofs.RunsCounted.{count-sent, runs-count}
use Rattle.xv_debug.specs.motion.Ran.{Ran, last_of}
use Rattle.xv_debug.specs.motion.Resting.{RestsBy}
use Rattle.xv_debug.specs.motion.Sent.{last_outcome}
use Rattle.xv_debug.specs.declared.motion.journey.Stop.{Stop}
use Rattle.xv_debug.specs.declared.motion.journey.Stop.TheVariants.{Done, Met, Asleep, Halted, Broken, Refused}
use Rattle.xv_debug.proofs.Reached.{adds-none, adds-more}
use Rattle.xv_debug.proofs.Played.{Steps, last-one}

-- ---- what came of the last

last-often : (n : ℕ) (x : Event × Outcome) → 0 < n → last_outcome (replicate n x) ≡ Some x.1
last-often zero x some = let no : ⊥ = omega (arith, some) in absurd no
last-often (suc zero) x some = refl
last-often (suc (suc n)) x some = last-often (suc n) x (omega arith)

pub last-join : (xs ys : Steps) → 0 < length ys → last_outcome (xs ++ ys) ≡ last_outcome ys
last-join [] ys some = refl
last-join (x ∷ []) [] some = let no : ⊥ = omega (arith, some) in absurd no
last-join (x ∷ []) (y ∷ ys) some = refl
last-join (x ∷ z ∷ xs) ys some = last-join (z ∷ xs) ys some

-- of Runs that a session sent at once
last-run : (most p : ℕ) (told : Option Outcome) (list : Steps) → 0 < most → AreRunsTo most p told list → Some (last_of p told) ≡ last_outcome list
last-run most p None list some is = sym (ap last_outcome is ∙ last-often most (done_by p) some)
last-run most p (Some o) list some (inl h) = sym (ap last_outcome h.1 ∙ last-one (replicate h.0 (done_by p)) Run o)
last-run most p (Some o) list some (inr h) =
    let one : Event × Outcome = (Run, o) in
    sym (ap last_outcome h.0 ∙ last-often most one some)

-- ---- how many they are

pub runs-within : (most sent : ℕ) (told : Option Outcome) (old new : Recorded) → 0 < most → RunsSent most sent told old new → (sent ≤ most) × (0 < sent)
runs-within most sent told old new some runs =
    let made = runs.0 in
    let counted = runs-count most (or_zero old.machine.world.turns.current) told made.list made.runs_are in
    subst (λ n. (n ≤ most) × (0 < n)) (count-sent made.list sent made.those) (counted.0, counted.1 some)

-- ---- Runs that were sent

pub ran-none : (s : Recorded) → Ran 0 None s s
ran-none s = record { added = adds-none s; list = []; goes = λ sound. goes-none s.machine sound; those = refl; last_is = refl }

pub ran-one : (o : Outcome) (old new : Recorded) → Sent old Run o new → Ran 1 (Some o) old new
ran-one o old new (one, same) = record {
  added = same;
  list = (Run, o) ∷ [];
  goes = λ sound. goes-one Run o old.machine new.machine one.event.promised one.event.notes one.event.room one.event.frames one.event.sound;
  those = refl;
  last_is = refl;
}

-- those of the process that runs
pub ran-runs : (most sent p : ℕ) (told : Option Outcome) (old new : Recorded) → old.machine.world.turns.current ≡ Some p → 0 < most → RunsSent most sent told old new
    → Ran sent (Some (last_of p told)) old new
ran-runs most sent p told old new current some (made, kept) = record {
  added = kept;
  list = made.list;
  goes = λ sound. made.goes;
  those = made.those;
  last_is = last-run most p told made.list some (subst (λ (q : ℕ). AreRunsTo most q told made.list) (ap or_zero current) made.runs_are);
}

-- and more, one at least
pub ran-more : (n m : ℕ) (before : Option Outcome) (o : Outcome) (old mid new : Recorded) → 0 < m → Ran n before old mid → Ran m (Some o) mid new → Ran (n + m) (Some o) old new
ran-more n m before o old mid new some p q =
    let long : length q.list ≡ m = count-sent q.list m q.those in
    let more : 0 < length q.list = omega (arith, long, some) in record {
      added = adds-more n m Run old mid new p.added q.added;
      list = p.list ++ q.list;
      goes = λ sound. goes-join p.list q.list old.machine mid.machine new.machine (p.goes sound) (q.goes (p.goes sound).sound);
      those = events-join p.list q.list ∙ (ap₂ (λ (us vs : List Event). us ++ vs) p.those q.those ∙ replicate-append-replicate n m Run);
      last_is = q.last_is ∙ sym (last-join p.list q.list more);
    }

-- ---- where they stop

-- nobody may run: nothing was met
pub rest_unmet : (stop : Stop) (w : World) → RestsBy stop w → stop ≢ Met
rest_unmet Done w rests is = rests
rest_unmet Met w rests is = rests
rest_unmet Asleep w rests is = let no : ⊥ = cc in no
rest_unmet Halted w rests is = let no : ⊥ = cc in no
rest_unmet Broken w rests is = rests
rest_unmet (Refused error) w rests is = rests
