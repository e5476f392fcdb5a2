-- Whose step was last.
use Rattle.std.proofs.Common.{◌≡◌, ℕ, ◌+◌, ◌-◌, ◌≤◌, List, [], ◌∷◌, ◌++◌, replicate, Option, None, Some, refl, sym, ap, ap₂, ◌∙◌, subst, arith}
use Rattle.std.specs.Prelude.{ℤ}
use Rattle.std.specs.List.{last_or}
use Rattle.std.specs.Option.{option_or, option_to_list}
use Rattle.std.proofs.lemmas.Grind.{flat_map-append}
use Rattle.std.proofs.lemmas.List.{replicate-append-replicate, replicate_more}
use Rattle.kernel_spec.specs.runs.Run.{World, Event, Run, Outcome, Step_of, Turn, Idle, Ticked, Typed, Sent, Halted, TurnTaken, RunHappens, Happens}
use Rattle.kernel_spec.specs.views.State.{ProgramFile}
use Rattle.kernel_spec.proofs.runs.Replays.{replay_is_the_same}
use Rattle.xv_machine.specs.Meaning.{Meaning}
use Rattle.xv_machine.specs.Reached.{IsReached}
use Rattle.xv_machine.specs.Sound.{IsSoundMachine, IsHalted}
use Rattle.xv_machine.proofs.Joins.{goes-none, goes-one, goes-join, events-join}
use Rattle.xv_machine.proofs.Reached.{reaches_on}
use Rattle.xv_session.specs.Follows.{Follows}
use Rattle.xv_session.specs.LastStep.{stepper, steppers, HasLast, LastStepIsOne}
use Rattle.xv_session.specs.Names.{NamesGo}
use Rattle.xv_session.specs.Recorded.{IsLed, GoesBy}
use Rattle.xv_session.specs.Steps.{Advances, IsSound}
use Rattle.xv_session.specs.declared.followed.Followed.{Followed}
use Rattle.xv_session.specs.declared.names.Named.{Named}
use Rattle.xv_session.specs.declared.running.Running.{Running}
use Rattle.xv_session.proofs.NamesGo.{names-one, names-join}
use Rattle.xv_session.proofs.NamesLive.{goes-by-sound}

-- ---- lists

-- the last of two lists, one behind another
last-both : (o : Option ℕ) (xs ys : List ℕ) → last_or o (xs ++ ys) ≡ last_or (last_or o xs) ys
last-both o [] ys = refl
last-both o (x ∷ xs) ys = last-both (Some x) xs ys

pub last-join : (o : Option ℕ) (xs ys : List (Event × Outcome)) → last_or o (steppers (xs ++ ys)) ≡ last_or (last_or o (steppers xs)) (steppers ys)
last-join o xs ys =
    ap (last_or o) (flat_map-append (λ (e : Event × Outcome). option_to_list (stepper e.1)) xs ys) ∙ last-both o (steppers xs) (steppers ys)

of-one : (o before : Option ℕ) → option_or o before ≡ last_or before (option_to_list o ++ [])
of-one None before = refl
of-one (Some p) before = refl

pub last-one : (e : Event) (o : Outcome) (before : Option ℕ) → option_or (stepper o) before ≡ last_or before (steppers ((e, o) ∷ []))
last-one e o before = of-one (stepper o) before

-- ---- one Run

-- the process of a step is the one that ran, if one did
taken-no-step : (w t : World) (o : Outcome) → TurnTaken w o t → stepper o ≡ None
taken-no-step w t (Turn p) h = refl
taken-no-step w t Idle h = refl
taken-no-step w t (Step_of p a) h = absurd h
taken-no-step w t Ticked h = absurd h
taken-no-step w t (Typed echo) h = absurd h
taken-no-step w t (Sent b) h = absurd h
taken-no-step w t Halted h = absurd h

pub run-steps : (m : Meaning) (t : World) (o : Outcome) → IsSoundMachine m → Happens m.world Run o t → stepper o ≡ m.world.turns.current
run-steps m t o sound h = by m.world.turns.halted m.world.turns.current refl sound.halted h
  where
    by : (halted : Option ℤ) (current : Option ℕ) → m.world.turns.current ≡ current → IsHalted m.world.state m.world.turns halted → RunHappens m.world halted current o t → stepper o ≡ current
    by (Some status) current is end h = ap stepper h.0 ∙ sym end.1 ∙ is
    by None (Some p) is end h = ap stepper h.answer
    by None None is end h = taken-no-step m.world t o h

-- none is made where nobody runs
pub stopped-no-step : (w t : World) (o : Outcome) → w.turns.current ≡ None → Happens w Run o t → stepper o ≡ None
stopped-no-step w t o stopped h = by w.turns.halted w.turns.current stopped h
  where
    by : (halted : Option ℤ) (current : Option ℕ) → current ≡ None → RunHappens w halted current o t → stepper o ≡ None
    by (Some status) current none h = ap stepper h.0
    by None (Some p) none h = let bad : ⊥ = cc in absurd bad
    by None None none h = taken-no-step w t o h

-- ---- a machine that is followed

pub follows-goes : (xs : List Event) (a b : Followed) → Follows xs a b → GoesBy xs a.running b.running
follows-goes xs a b p = record { list = p.list; goes = p.goes; named = p.named; those = p.those }

pub follows-none : (f : Followed) → IsSoundMachine f.running.machine → Follows [] f f
follows-none f sound = record { list = []; goes = goes-none f.running.machine sound; named = (refl, refl); those = refl; last = refl }

pub follows-one : (e : Event) (o : Outcome) (a b : Followed) → Advances a.running e o b.running → b.last ≡ option_or (stepper o) a.last → Follows (e ∷ []) a b
follows-one e o a b one last = record {
  list = (e, o) ∷ [];
  goes = goes-one e o a.running.machine b.running.machine one.event.promised one.event.notes one.event.room one.event.frames one.event.sound;
  named = subst (λ (ns : List Named). NamesGo a.running.machine.world ((e, o) ∷ []) b.running.machine.world a.running.names ns) (sym one.names)
      (names-one a.running.machine.world b.running.machine.world e o a.running.names one.event.promised);
  those = refl;
  last = last ∙ last-one e o a.last;
}

pub follows-join : (xs ys : List Event) (a b c : Followed) → Follows xs a b → Follows ys b c → Follows (xs ++ ys) a c
follows-join xs ys a b c p q = record {
  list = p.list ++ q.list;
  goes = goes-join p.list q.list a.running.machine b.running.machine c.running.machine p.goes q.goes;
  named = names-join p.list q.list a.running.machine.world b.running.machine.world c.running.machine.world a.running.names b.running.names c.running.names p.named q.named;
  those = events-join p.list q.list ∙ ap₂ (λ u v. u ++ v) p.those q.those;
  last = q.last ∙ ap (λ (o : Option ℕ). last_or o (steppers q.list)) p.last ∙ sym (last-join a.last p.list q.list);
}

pub follows-sound : (xs : List Event) (a b : Followed) → IsSound a.running → Follows xs a b → IsSound b.running
follows-sound xs a b sound p = goes-by-sound xs a.running b.running sound (follows-goes xs a b p)

-- some of so many equal events, and then more
pub more-followed : (count left sent : ℕ) (e : Event) (a b c : Followed) → left ≤ count → sent ≤ left → Follows (replicate (count - left) e) a b
    → Follows (replicate sent e) b c → Follows (replicate (count - (left - sent)) e) a c
more-followed count left sent e a b c within few before now =
    subst (λ es. Follows es a c) (replicate-append-replicate (count - left) sent e ∙ ap (λ n. replicate n e) (omega (arith, within, few)))
    (follows-join (replicate (count - left) e) (replicate sent e) a b c before now)

-- one more of them
pub one-more-followed : (n : ℕ) (e : Event) (a b c : Followed) → Follows (replicate n e) a b → Follows (e ∷ []) b c → Follows (replicate (n + 1) e) a c
one-more-followed n e a b c before now = subst (λ es. Follows es a c) (replicate_more n e) (follows-join (replicate n e) (e ∷ []) a b c before now)

-- ---- since the boot

pub last-at-boot : (frames trace : ℕ) (programs : List ProgramFile) (m : Meaning) (p : Option ℕ) → p ≡ None → IsReached frames trace programs [] m → HasLast frames trace programs [] m p
last-at-boot frames trace programs m p none reached = ([], refl, reached, none)

pub last-led : (frames trace : ℕ) (programs : List ProgramFile) (r : Running) (p : Option ℕ) → p ≡ None → IsLed frames trace programs [] r → HasLast frames trace programs [] r.machine p
last-led frames trace programs r p none ([], those, reached, named) = ([], refl, reached, none)
last-led frames trace programs r p none (x ∷ xs, those, reached, named) = cc

pub last-on : (frames trace : ℕ) (programs : List ProgramFile) (xs ys : List Event) (a b : Followed) → HasLast frames trace programs xs a.running.machine a.last
    → Follows ys a b → HasLast frames trace programs (xs ++ ys) b.running.machine b.last
last-on frames trace programs xs ys a b (list, those, reached, is) more = (
  list ++ more.list,
  events-join list more.list ∙ ap₂ (λ u v. u ++ v) those more.those,
  reaches_on frames trace programs list more.list a.running.machine b.running.machine reached more.goes,
  more.last ∙ ap (λ (o : Option ℕ). last_or o (steppers more.list)) is ∙ sym (last-join None list more.list),
)

-- ---- there is one answer

pub last-step-is-one : LastStepIsOne
last-step-is-one s p q (xs, those, (a, is, count, sound, empty, goes), one) (ys, those_too, (b, is_too, count_too, sound_too, empty_too, goes_too), other) =
    let same = (replay_is_the_same s.frames s.trace s.programs a.world b.world s.machine.world s.machine.world xs ys is is_too goes.run goes_too.run (those ∙ sym those_too)).0 in
    one ∙ ap (λ (list : List (Event × Outcome)). last_or None (steppers list)) same ∙ sym other
