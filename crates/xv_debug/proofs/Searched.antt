-- Events that are sent up to a Run that is what is waited for.
use Rattle.std.proofs.Common.{◌≡◌, ◌≢◌, ◌&&◌, ◌||◌, ◌<◌, ◌≤◌, ◌+◌, ◌-◌, ◌∙◌, ℕ, zero, suc, Bool, true, false, List, [], ◌∷◌, ◌++◌, length, Option, None, Some}
use Rattle.std.proofs.Common.{replicate, refl, sym, ap, ap₂, subst, append_assoc, append-nil, add-one, arith, slice_get, is_some, min, not, option_map, Result, Ok, Err, IfOk}
use Rattle.std.proofs.lemmas.List.{length-append}
use Rattle.std.proofs.lemmas.Grind.{flat_map-append}
use Rattle.std.proofs.lemmas.Option.{same_Some}
use Rattle.kernel_spec.specs.runs.Run as runs
use Rattle.kernel_spec.specs.runs.Run.{Event, Run, Outcome, Step_of, World, bytes_out, out}
use Rattle.kernel_spec.specs.runs.Rounds.{events}
use Rattle.kernel_spec.specs.steps.Own as answers
use Rattle.xv_machine.specs.Events.{outcome_of}
use Rattle.xv_machine.specs.declared.event.Outcome as declared
use Rattle.xv_machine.proofs.Joins.{events-join}
use Rattle.xv_session.specs.Answers.{Sent, Stopped}
use Rattle.xv_session.specs.Recorded.{Recorded, running_of}
use Rattle.xv_session.specs.Steps.{Advances}
use Rattle.xv_session.specs.Stops.{Unstopped}
use Rattle.xv_session.specs.Until.{is_done}
use Rattle.xv_session.specs.declared.running.Running.{Running}
use Rattle.debug_words.specs.declared.vocabulary.Mark.{Mark}
use Rattle.xv_debug.specs.motion.Aims as aims
use Rattle.xv_debug.specs.motion.Backwards.{is_run}
use Rattle.xv_debug.specs.motion.Clock.{IsNext, RunsCome}
use Rattle.xv_debug.specs.motion.Effects.{Adds}
use Rattle.xv_debug.specs.motion.Marks as marked
use Rattle.xv_debug.specs.motion.Places.{IsFar, all_of}
use Rattle.xv_debug.specs.motion.Plan.{Planned}
use Rattle.xv_debug.specs.motion.Reaching.{Goes, NoneMet, Reaches, ReachesBy, Test, is_turn_of, meets_one}
use Rattle.xv_debug.specs.motion.Shown.{KeepsShown}
use Rattle.xv_debug.specs.declared.motion.aiming.Aim.{Aim}
use Rattle.xv_debug.specs.declared.motion.journey.Journey.{Journey}
use Rattle.xv_debug.specs.declared.motion.journey.Stop.{Stop}
use Rattle.xv_debug.specs.declared.motion.journey.Stop.TheVariants.{Met}
use Rattle.xv_debug.specs.declared.motion.output.Output.{Output}
use Rattle.xv_debug.specs.declared.motion.searching.Went.{Went}
use Rattle.xv_debug.specs.declared.motion.places.Kind.TheVariants.{Instructions, Bytes}
use Rattle.xv_debug.proofs.Along.{come-still, one-more, run-next}
use Rattle.xv_debug.proofs.Played.{Steps, last-one, shown-join, shown-none}
use Rattle.xv_debug.proofs.Reached.{adds-join, adds-none}
use Rattle.xv_debug.proofs.Stretched.{last-join}
use Rattle.xv_debug.proofs.Unmet.{AreUndue, undue, unmet}

-- ---- one after another

none-join : (q : Planned) (test : Test) (so_far : List Event) (xs ys : Steps) (a b c : Running) → NoneMet q test so_far xs a b → NoneMet q test (so_far ++ events xs) ys b c
    → NoneMet q test so_far (xs ++ ys) a c
none-join q test so_far [] ys a b c same more =
    subst (λ (r : Running). NoneMet q test so_far ys r c) same (subst (λ (es : List Event). NoneMet q test es ys b c) (append-nil so_far) more)
none-join q test so_far (x ∷ xs) ys a b c (mid, one, next, passes, rest) more = (
  mid,
  one,
  next,
  passes,
  none-join q test (so_far ++ x.0 ∷ []) xs ys mid b c rest
      (subst (λ (es : List Event). NoneMet q test es ys b c) (sym (append_assoc so_far (x.0 ∷ []) (events xs))) more),
)

reaches-join : (met : Bool) (q : Planned) (test : Test) (so_far : List Event) (xs ys : Steps) (a b c : Running) → NoneMet q test so_far xs a b
    → ReachesBy met q test (so_far ++ events xs) ys b c → ReachesBy met q test so_far (xs ++ ys) a c
reaches-join false q test so_far xs ys a b c none more = none-join q test so_far xs ys a b c none more
reaches-join true q test so_far xs ys a b c none more = record {
  before = xs ++ more.before;
  mid = more.mid;
  outcome = more.outcome;
  none = none-join q test so_far xs more.before a b more.mid none more.none;
  next = subst (λ (es : List Event). IsNext q es more.mid.machine.world Run)
      (append_assoc so_far (events xs) (events more.before) ∙ ap (λ (es : List Event). so_far ++ es) (sym (events-join xs more.before))) more.next;
  last = more.last;
  met = more.met;
  all = ap (λ (zs : Steps). xs ++ zs) more.all ∙ sym (append_assoc xs more.before ((Run, more.outcome) ∷ []));
}

pub goes-none : (q : Planned) (test : Test) (s : Recorded) (o : Output) → length o.last.items ≤ o.last.capacity → Goes q test false 0 None s s o o
goes-none q test s o fits = record { list = []; adds = adds-none s; count = refl; reaches = refl; last_is = refl; shown = shown-none o fits }

pub goes-join : (q : Planned) (test : Test) (met : Bool) (n m : ℕ) (before last : Option Outcome) (a b c : Recorded) (i j k : Output) → 0 < m → Goes q test false n before a b i j
    → Goes q test met m last b c j k → Goes q test met (n + m) last a c i k
goes-join q test met n m before last a b c i j k some p r =
    let more : 0 < length r.list = subst (λ l. 0 < l) (sym r.count) some in
    let added : b.events ≡ a.events ++ events p.list = ap (λ (s : Recorded). s.events) p.adds in record {
      list = p.list ++ r.list;
      adds = subst (λ (es : List Event). Adds es a c) (sym (events-join p.list r.list)) (adds-join (events p.list) (events r.list) a b c p.adds r.adds);
      count = length-append p.list r.list ∙ ap₂ (λ x y. x + y) p.count r.count;
      reaches = reaches-join met q test a.events p.list r.list (running_of a) (running_of b) (running_of c) p.reaches
          (subst (λ (es : List Event). ReachesBy met q test es r.list (running_of b) (running_of c)) added r.reaches);
      last_is = r.last_is ∙ sym (last-join p.list r.list more);
      shown = subst (λ (bs : List ℕ). KeepsShown bs i k) (sym (flat_map-append (λ (e : Event × Outcome). bytes_out e.1) p.list r.list)) (shown-join (out p.list) (out r.list) i j k p.shown r.shown);
    }

-- ---- one event

-- which is no Run
pub goes-apart : (q : Planned) (test : Test) (e : Event) (o : Outcome) (old new : Recorded) (had has : Output) → is_run e ≡ false → IsNext q old.events old.machine.world e
    → Sent old e o new → KeepsShown (bytes_out o) had has → Goes q test false 1 (Some o) old new had has
goes-apart q test e o old new had has apart next (one, same) shown = record {
  list = (e, o) ∷ [];
  adds = same;
  count = refl;
  reaches = (running_of new, one, next, (λ is. let no : false ≡ true = sym apart ∙ is in let bad : ⊥ = cc in absurd bad), refl);
  last_is = refl;
  shown = subst (λ (bs : List ℕ). KeepsShown bs had has) (sym (append-nil (bytes_out o))) shown;
}

reaches-run : (met : Bool) (q : Planned) (test : Test) (so_far : List Event) (o : Outcome) (old new : Running) → IsNext q so_far old.machine.world Run → Advances old Run o new
    → test old o new ≡ met → ReachesBy met q test so_far ((Run, o) ∷ []) old new
reaches-run false q test so_far o old new next one is = (new, one, next, (λ run. is), refl)
reaches-run true q test so_far o old new next one is = record {
  before = [];
  mid = old;
  outcome = o;
  none = refl;
  next = subst (λ (es : List Event). IsNext q es old.machine.world Run) (sym (append-nil so_far)) next;
  last = one;
  met = is;
  all = refl;
}

pub goes-run : (q : Planned) (test : Test) (met : Bool) (o : Outcome) (old new : Recorded) (had has : Output) → IsNext q old.events old.machine.world Run → Sent old Run o new
    → KeepsShown (bytes_out o) had has → test (running_of old) o (running_of new) ≡ met → Goes q test met 1 (Some o) old new had has
goes-run q test met o old new had has next (one, same) shown is = record {
  list = (Run, o) ∷ [];
  adds = same;
  count = refl;
  reaches = reaches-run met q test old.events o (running_of old) (running_of new) next one is;
  last_is = refl;
  shown = subst (λ (bs : List ℕ). KeepsShown bs had has) (sym (append-nil (bytes_out o))) shown;
}

-- ---- Runs that were sent at once

-- a done instruction shows nothing
done-silent : (o : Outcome) → is_done o ≡ true → bytes_out o ≡ []
done-silent (Step_of p answers.Stepped) done = refl
done-silent (Step_of p (answers.Called number value)) done = refl
done-silent (Step_of p (answers.Blocked number)) done = refl
done-silent (Step_of p (answers.Exited status)) done = refl
done-silent (Step_of p (answers.Faulted cause)) done = refl
done-silent (runs.Turn p) done = refl
done-silent runs.Idle done = refl
done-silent runs.Ticked done = refl
done-silent (runs.Typed echo) done = let bad : ⊥ = cc in absurd bad
done-silent (runs.Sent byte) done = let bad : ⊥ = cc in absurd bad
done-silent runs.Halted done = refl

-- They led to none of the places: none of them is what is waited for
record AreApart (q : Planned) (so_far : List Event) (test : Test) (aim : Aim) (marks : List Mark) (most n : ℕ) (old new : Running) : Type 0 where
  list : Steps
  none : NoneMet q test so_far list old new
  those : events list ≡ replicate n Run
  count : length list ≡ n
  silent : out list ≡ []
  come : RunsCome q so_far most new.machine.world
  undue : AreUndue aim marks new.machine

-- one that comes next after so many
next-of : (q : Planned) (so_far : List Event) (most n : ℕ) (list : Steps) (w : World) → events list ≡ replicate n Run → n < most → RunsCome q so_far most w → IsNext q (so_far ++ events list) w Run
next-of q so_far most n list w those few come = subst (λ (es : List Event). IsNext q (so_far ++ es) w Run) (sym those) (run-next q so_far most n w few come)

module _ (q : Planned) (ran : Option ℕ) (aim : Aim) (marks : List Mark) (pcs bs : List ℕ) (far : IsFar aim) (are_as : pcs ≡ all_of Instructions aim marks) (are_bs : bs ≡ all_of Bytes aim marks) where
  apart : (so_far : List Event) (most n : ℕ) (old new : Running) → n ≤ most → RunsCome q so_far most old.machine.world → AreUndue aim marks old.machine → Unstopped pcs bs n old new
      → AreApart q so_far (meets_one ran aim marks) aim marks most n old new
  apart so_far most zero old new few come before same = record {
    list = [];
    none = same;
    those = refl;
    count = refl;
    silent = refl;
    come = subst (λ (r : Running). RunsCome q so_far most r.machine.world) (sym same) come;
    undue = subst (λ (r : Running). AreUndue aim marks r.machine) (sym same) before;
  }
  apart so_far most (suc n) old new few come before (mid, o, first, one, done, clear) =
      let p = apart so_far most n old mid (omega (arith, few)) come before first in
      let missed : meets_one ran aim marks mid o new ≡ false = unmet aim marks pcs bs far are_as are_bs ran mid new o p.undue done clear in
      let next = next-of q so_far most n p.list mid.machine.world p.those (omega (arith, few)) p.come in record {
        list = p.list ++ (Run, o) ∷ [];
        none = none-join q (meets_one ran aim marks) so_far p.list ((Run, o) ∷ []) old mid new p.none (new, one, next, (λ run. missed), refl);
        those = events-join p.list ((Run, o) ∷ []) ∙ ap (λ (es : List Event). es ++ Run ∷ []) p.those ∙ one-more n;
        count = length-append p.list ((Run, o) ∷ []) ∙ ap (λ (k : ℕ). k + 1) p.count ∙ add-one n;
        silent = flat_map-append (λ (e : Event × Outcome). bytes_out e.1) p.list ((Run, o) ∷ []) ∙ ap₂ (λ (us vs : List ℕ). us ++ vs) p.silent (ap (λ (bs : List ℕ). bs ++ []) (done-silent o done));
        come = come-still q so_far most mid new o one done p.come;
        undue = undue aim marks pcs bs far are_as are_bs new.machine clear;
      }

  -- and the last of them is, or isn't
  pub goes-often : (most sent : ℕ) (stopped met : Bool) (told : Option Outcome) (o : Outcome) (old new : Recorded) (had has : Output) → 0 < most → RunsCome q old.events most old.machine.world
      → AreUndue aim marks old.machine
      → length had.last.items ≤ had.last.capacity → Stopped pcs bs most sent stopped told old new → told ≡ Some o → KeepsShown (bytes_out o) had has
      → ((not (is_turn_of ran o) && (aims.meets_with aim false o new.machine || marked.meets_with marks false o (running_of new))) ≡ met)
      → Goes q (meets_one ran aim marks) met sent (Some o) old new had has
  goes-often most zero stopped met told o old new had has some come before fits ((none, a, b, d), same) is shown was = let bad : ⊥ = omega (arith, some, none) in absurd bad
  goes-often most (suc n) stopped met told o old new had has some come before fits ((mid, x, first, one, stands, last, within, all), same) is shown was =
      let test = meets_one ran aim marks in
      let p = apart old.events most n (running_of old) mid (omega (arith, within)) come before first in
      let this : x ≡ o = same_Some x o (sym last ∙ is) in
      let last_one : Advances mid Run o (running_of new) = subst (λ (y : Outcome). Advances mid Run y (running_of new)) this one in
      let met_is : test mid o (running_of new) ≡ met =
      ap₂ (λ (u v : Bool). not (is_turn_of ran o) && (aims.meets_with aim u o new.machine || marked.meets_with marks v o (running_of new))) p.undue.by_aim p.undue.by_mark ∙ was in
      let last_next = next-of q old.events most n p.list mid.machine.world p.those (omega (arith, within)) p.come in
      let list : Steps = p.list ++ (Run, o) ∷ [] in
      let those : events list ≡ replicate (suc n) Run = events-join p.list ((Run, o) ∷ []) ∙ ap (λ (es : List Event). es ++ Run ∷ []) p.those ∙ one-more n in record {
        list = list;
        adds = subst (λ (es : List Event). Adds es old new) (sym those) same;
        count = length-append p.list ((Run, o) ∷ []) ∙ ap (λ (k : ℕ). k + 1) p.count ∙ add-one n;
        reaches = reaches-join met q test old.events p.list ((Run, o) ∷ []) (running_of old) mid (running_of new) p.none
            (reaches-run met q test (old.events ++ events p.list) o mid (running_of new) last_next last_one met_is);
        last_is = sym (last-one p.list Run o);
        shown = subst (λ (bs : List ℕ). KeepsShown bs had has) (sym (flat_map-append (λ (e : Event × Outcome). bytes_out e.1) p.list ((Run, o) ∷ [])
            ∙ ap₂ (λ (us vs : List ℕ). us ++ vs) p.silent (append-nil (bytes_out o)))) shown;
      }

-- ---- whether a byte waits

pub waits : (xs : List ℕ) → is_some (slice_get xs 0) ≡ true → xs ≢ []
waits [] is same = let bad : ⊥ = cc in bad
waits (x ∷ xs) is same = let bad : ⊥ = cc in bad

pub none_waits : (xs : List ℕ) → is_some (slice_get xs 0) ≡ false → xs ≡ []
none_waits [] is = refl
none_waits (x ∷ xs) is = let bad : ⊥ = cc in absurd bad

-- ---- how many were sent

-- of Runs that were sent at once
pub often_within : (pcs bs : List ℕ) (most sent : ℕ) (met : Bool) (told : Option Outcome) (old new : Recorded) → 0 < most → Stopped pcs bs most sent met told old new → sent ≤ most
often_within pcs bs most zero met told old new some ((none, a, b, d), same) = let bad : ⊥ = omega (arith, some, none) in absurd bad
often_within pcs bs most (suc n) met told old new some ((mid, q, first, one, stands, last, within, all), same) = within

pub often_forth : (pcs bs : List ℕ) (most sent : ℕ) (met : Bool) (told : Option Outcome) (old new : Recorded) → 0 < most → Stopped pcs bs most sent met told old new → 0 < sent
often_forth pcs bs most zero met told old new some ((none, a, b, d), same) = let bad : ⊥ = omega (arith, some, none) in absurd bad
often_forth pcs bs most (suc n) met told old new some ((mid, q, first, one, stands, last, within, all), same) = omega arith

-- one event is not more than some
pub one_within : {E : Type 0} (r : Result Went E) (most : ℕ) → 0 < most → IfOk r (λ w. w.sent ≡ 1) → IfOk r (λ w. w.sent ≤ most)
one_within (Ok w) most some one = omega (arith, some, one)
one_within (Err e) most some one = tt

pub one_forth : {E : Type 0} (r : Result Went E) → IfOk r (λ w. w.sent ≡ 1) → IfOk r (λ w. 0 < w.sent)
one_forth (Ok w) one = omega (arith, one)
one_forth (Err e) one = tt

-- fewer Runs than may be sent are left in the round
pub part_within : {E : Type 0} (r : Result Went E) (part most left : ℕ) → part ≡ min most left → IfOk r (λ w. w.sent ≤ part) → IfOk r (λ w. w.sent ≤ most)
part_within (Ok w) part most left is few = omega (arith, is, few)
part_within (Err e) part most left is few = tt

-- ---- the last is what is waited for

pub reaches_met : (may_end : Bool) (q : Planned) (test : Test) (most n : ℕ) (last : Option Outcome) (old new : Recorded) (had has : Output) → n ≤ most
    → Goes q test true n last old new had has → Reaches may_end q test most Met n last old new had has
reaches_met may_end q test most n last old new had has within goes = record {
  goes = goes;
  within = within;
  all = λ is. let bad : ⊥ = cc in absurd bad;
  broken = λ is. let bad : ⊥ = cc in absurd bad;
  fewer = λ is. let bad : ⊥ = cc in absurd bad;
  rests = tt;
  reason = tt;
}

-- as a word's journey tells it
pub reaches_told : (may_end : Bool) (q : Planned) (test : Test) (most : ℕ) (j : Journey) (n m : ℕ) (stop : Stop) (last : Option declared.Outcome) (old new : Recorded) (had has : Output)
    → j ≡ record { sent = m; stop = stop; last = last } → m ≡ n
    → Reaches may_end q test most stop n (option_map outcome_of last) old new had has → Reaches may_end q test most j.stop j.sent (option_map outcome_of j.last) old new had has
reaches_told may_end q test most j n m stop last old new had has is same reaches =
    subst (λ (k : Journey). Reaches may_end q test most k.stop k.sent (option_map outcome_of k.last) old new had has) (sym is)
    (subst (λ (k : ℕ). Reaches may_end q test most stop k (option_map outcome_of last) old new had has) (sym same) reaches)
