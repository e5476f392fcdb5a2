-- A run that is on a record, and one for which the record has no event.
use Rattle.std.proofs.Common.{◌≡◌, ◌∙◌, ◌+◌, ◌-◌, ◌<◌, ◌≤◌, ◌⊎◌, ◌&&◌, ℕ, zero, suc, Bool, true, false, List, []}
use Rattle.std.proofs.Common.{◌∷◌, ◌++◌, length, length-append, replicate, take, drop, inl, inr, refl, sym, ap, subst, arith, append_assoc, append-nil}
use Rattle.std.proofs.lemmas.List.{replicate-append-replicate}
use Rattle.kernel_spec.specs.runs.Run as runs
use Rattle.kernel_spec.specs.runs.Run.{Event, Run, Outcome, World}
use Rattle.xv_machine.specs.Events.{event_of}
use Rattle.xv_machine.specs.declared.event.Event as declared
use Rattle.xv_session.specs.Answers.{Sent}
use Rattle.xv_session.specs.Recorded.{Recorded}
use Rattle.recordings.specs.Recording.{Begins, event_among}
use Rattle.xv_session.specs.Steps.{Advances}
use Rattle.xv_session.specs.Until.{is_done}
use Rattle.xv_session.specs.declared.running.Running.{Running}
use Rattle.recordings.proofs.Beginnings.{begins-few, begins-more, more-equal, take-zero}
use Rattle.xv_debug.specs.Effects.{ByRecord}
use Rattle.xv_debug.specs.motion.Backwards.{is_run}
use Rattle.xv_debug.specs.motion.Clock.{Comes, EndsQuiet, EndsQuietIf, HasAhead, IsAhead, IsByClock, IsFar, IsHere, IsNext, NoneAhead, RunsCome, round_by, round_of}
use Rattle.xv_debug.specs.motion.Effects.{AddsRuns}
use Rattle.xv_debug.specs.motion.Plan.{Planned}
use Rattle.xv_debug.specs.motion.Resting.{RestsQuiet}
use Rattle.xv_debug.specs.declared.motion.clock.Coming.TheVariants.{Runs, Other}
use Rattle.xv_debug.specs.declared.motion.clock.Far.{Far}
use Rattle.xv_debug.specs.declared.motion.clock.Round.{Round}
use Rattle.xv_debug.specs.declared.motion.journey.Stop.{Stop}
use Rattle.xv_debug.specs.declared.motion.journey.Stop.TheVariants as stops
use Rattle.xv_debug.proofs.Clocked.{clock-run, done-due, done-goes, fewer, round-more, round_ran, round_sent}
use Rattle.xv_debug.proofs.Quiet.{done-quiet}

-- ---- the first of a record's events

-- and fewer of them
pub begins-first : (recorded xs ys : List Event) → Begins recorded (xs ++ ys) → Begins recorded xs
begins-first recorded xs ys (rest, is) = (ys ++ rest, is ∙ append_assoc xs ys rest)

-- equal ones that it has next
pub begins-on : (recorded events : List Event) (count : ℕ) (e : Event) → Begins recorded events → length events + count ≤ length recorded
    → ((k : ℕ) → k < count → event_among recorded (length events + k) ≡ e) → Begins recorded (events ++ replicate count e)
begins-on recorded events count e begun within each =
    let place = length events in
    let none : place + 0 ≡ place = omega arith in
    let sum : 0 + count ≡ count = omega arith in
    let all = more-equal recorded place 0 count e (omega (arith, within)) (λ k h. ap (λ (n : ℕ). event_among recorded (n + k)) none ∙ each k h) (take-zero (drop place recorded)) in
    begins-more recorded events place count e begun refl (subst (λ (n : ℕ). take n (drop place recorded) ≡ replicate n e) sum all)

-- ---- whether it has one for a place

behind : (events : List Event) (e : Event) (rest : List Event) → (events ++ e ∷ []) ++ rest ≡ events ++ e ∷ rest
behind events e rest = append_assoc events (e ∷ []) rest

pub ahead-begins : (recorded events : List Event) → HasAhead recorded events → Begins recorded events
ahead-begins recorded events (e, begun) = begins-first recorded events (e ∷ []) begun

pub ahead-few : (recorded events : List Event) → HasAhead recorded events → length events < length recorded
ahead-few recorded events (e, begun) = omega (arith, begins-few recorded (events ++ e ∷ []) begun, length-append events (e ∷ []))

pub has_ahead : (recorded events : List Event) → Begins recorded events → length events < length recorded → HasAhead recorded events
has_ahead recorded events (rest, is) few = by rest is
  where
    by : (more : List Event) → recorded ≡ events ++ more → HasAhead recorded events
    by [] same = absurd (omega (arith, ap length same, length-append events [], few))
    by (e ∷ more) same = (e, (more, same ∙ sym (behind events e more)))

pub over : (recorded events : List Event) → length recorded ≤ length events → NoneAhead recorded events
over recorded events all some = omega (arith, all, ahead-few recorded events some)

pub not_begun : (recorded events : List Event) → ¬ (Begins recorded events) → NoneAhead recorded events
not_begun recorded events other some = other (ahead-begins recorded events some)

-- after more events neither
pub none-later : (recorded events more : List Event) → NoneAhead recorded events → NoneAhead recorded (events ++ more)
none-later recorded events [] none some = none (subst (λ (es : List Event). HasAhead recorded es) (append-nil events) some)
none-later recorded events (x ∷ more) none (e, begun) =
    let here : events ++ x ∷ more ≡ (events ++ x ∷ []) ++ more = sym (behind events x more) in
    let longer : Begins recorded ((events ++ x ∷ []) ++ more) =
    begins-first recorded ((events ++ x ∷ []) ++ more) (e ∷ []) (subst (λ (es : List Event). Begins recorded (es ++ e ∷ [])) here begun) in
    none (x, begins-first recorded (events ++ x ∷ []) more longer)

-- ---- where a way stands

pub here-on : (plan : Planned) (events : List Event) (far : Far) → IsFar plan events far → length events < length plan.recorded → IsHere plan events far
here-on plan events far is few = record { round = is.round; along = λ on. has_ahead plan.recorded events (is.along on) few; apart = is.apart }

pub here-off : (plan : Planned) (events : List Event) (far : Far) → IsFar plan events far → length plan.recorded ≤ length events → IsHere plan events (record { round = far.round; along = false })
here-off plan events far is all = record { round = is.round; along = λ on. absurd-on on; apart = λ _. over plan.recorded events all }
  where
    absurd-on : false ≡ true → HasAhead plan.recorded events
    absurd-on on = let bad : ⊥ = cc in absurd bad

-- ---- what comes next

is-run : (e : Event) → is_run e ≡ true → e ≡ Run
is-run Run is = refl
is-run runs.Tick is = let bad : ⊥ = cc in absurd bad
is-run (runs.Key byte) is = let bad : ⊥ = cc in absurd bad
is-run runs.Send is = let bad : ⊥ = cc in absurd bad

-- by the record: Runs
pub along-runs : (plan : Planned) (events : List Event) (w : World) (place count n : ℕ) (e : declared.Event) → place ≡ length events → HasAhead plan.recorded events → is_run (event_of e) ≡ true
    → 0 < n → n ≤ count → place + count ≤ length plan.recorded → ((k : ℕ) → k < count → event_among plan.recorded (place + k) ≡ event_of e) → Comes plan events w (Runs n)
along-runs plan events w place count n e at some run more few inside each =
    let here : (k : ℕ) → k < n → event_among plan.recorded (length events + k) ≡ event_of e =
    λ k h. subst (λ (p : ℕ). event_among plan.recorded (p + k) ≡ event_of e) at (each k (omega (arith, h, few))) in
    let begun = begins-on plan.recorded events n (event_of e) (ahead-begins plan.recorded events some) (omega (arith, at, few, inside)) here in
    (more, inl (subst (λ (x : Event). Begins plan.recorded (events ++ replicate n x)) (is-run (event_of e) run) begun))

-- another event
pub along-other : (plan : Planned) (events : List Event) (w : World) (place count : ℕ) (e : declared.Event) → place ≡ length events → HasAhead plan.recorded events → is_run (event_of e) ≡ false
    → 0 < count → place + count ≤ length plan.recorded → ((k : ℕ) → k < count → event_among plan.recorded (place + k) ≡ event_of e) → Comes plan events w (Other e)
along-other plan events w place count e at some other more inside each =
    let here : (k : ℕ) → k < 1 → event_among plan.recorded (length events + k) ≡ event_of e =
    λ k h. subst (λ (p : ℕ). event_among plan.recorded (p + k) ≡ event_of e) at (each k (omega (arith, h, more))) in
    (other, inl (begins-on plan.recorded events 1 (event_of e) (ahead-begins plan.recorded events some) (omega (arith, at, more, inside)) here))

-- by the clock
pub clock-comes-runs : (plan : Planned) (events : List Event) (w : World) (round : Round) (e : declared.Event) → round ≡ round_of plan.quantum events → NoneAhead plan.recorded events
    → is_run (event_of e) ≡ true → IsByClock plan round w (event_of e) → Comes plan events w (Runs round.left)
clock-comes-runs plan events w round e is none run next =
    let now : IsByClock plan (round_of plan.quantum events) w Run = subst (λ (r : Round). IsByClock plan r w Run) is (clock-run plan round w (event_of e) run next) in
    let left : round.left ≡ (round_of plan.quantum events).left = ap (λ (r : Round). r.left) is in
    (omega (arith, left, now.2), inr (none, omega (arith, left), now.0, now.1, now.3))

pub clock-comes-other : (plan : Planned) (events : List Event) (w : World) (round : Round) (e : declared.Event) → round ≡ round_of plan.quantum events → NoneAhead plan.recorded events
    → is_run (event_of e) ≡ false → IsByClock plan round w (event_of e) → Comes plan events w (Other e)
clock-comes-other plan events w round e is none other next = (other, inr (none, subst (λ (r : Round). IsByClock plan r w (event_of e)) is next))

-- so many Runs are also fewer
pub fewer_come : (plan : Planned) (events : List Event) (count few : ℕ) (w : World) → few ≤ count → RunsCome plan events count w → RunsCome plan events few w
fewer_come plan events count few w within (inl begun) =
    let sum : few + (count - few) ≡ count = omega (arith, within) in
    let parts : (events ++ replicate few Run) ++ replicate (count - few) Run ≡ events ++ replicate count Run =
    append_assoc events (replicate few Run) (replicate (count - few) Run)
    ∙ ap (λ (es : List Event). events ++ es) (replicate-append-replicate few (count - few) Run ∙ ap (λ (n : ℕ). replicate n Run) sum) in
    inl (begins-first plan.recorded (events ++ replicate few Run) (replicate (count - few) Run) (subst (λ (es : List Event). Begins plan.recorded es) (sym parts) begun))
fewer_come plan events count few w within (inr (none, left, quiet, keyless, goes)) = inr (none, omega (arith, left, within), quiet, keyless, goes)

pub one-more : (n : ℕ) → replicate n Run ++ Run ∷ [] ≡ replicate (suc n) Run
one-more zero = refl
one-more (suc n) = ap (λ (es : List Event). Run ∷ es) (one-more n)

-- after so many of them comes one more
pub run-next : (plan : Planned) (events : List Event) (count n : ℕ) (w : World) → n < count → RunsCome plan events count w → IsNext plan (events ++ replicate n Run) w Run
run-next plan events count n w few come = by (fewer_come plan events count (suc n) w (omega (arith, few)) come)
  where
    by : RunsCome plan events (suc n) w → IsNext plan (events ++ replicate n Run) w Run
    by (inl begun) =
        inl (subst (λ (es : List Event). Begins plan.recorded es) (sym (append_assoc events (replicate n Run) (Run ∷ []) ∙ ap (λ (es : List Event). events ++ es) (one-more n))) begun)
    by (inr (none, left, quiet, keyless, goes)) =
        let round = round_of plan.quantum events in
        let some : 0 < round.left - n = omega (arith, left) in
        let now : IsByClock plan (fewer round n) w Run = (quiet, keyless, some, goes) in
        let taken : round_of plan.quantum (events ++ replicate n Run) ≡ fewer round n = round-more plan.quantum events n in
        inr (none-later plan.recorded events (replicate n Run) none, subst (λ (r : Round). IsByClock plan r w Run) (sym taken) now)

pub run_comes : (plan : Planned) (events : List Event) (count : ℕ) (w : World) → 0 < count → RunsCome plan events count w → IsNext plan events w Run
run_comes plan events count w some come = subst (λ (es : List Event). IsNext plan es w Run) (append-nil events) (run-next plan events count 0 w some come)

-- an instruction that is done leaves them next
pub come-still : (plan : Planned) (events : List Event) (count : ℕ) (a b : Running) (o : Outcome) → Advances a Run o b → is_done o ≡ true → RunsCome plan events count a.machine.world
    → RunsCome plan events count b.machine.world
come-still plan events count a b o one done (inl begun) = inl begun
come-still plan events count a b o one done (inr (none, left, quiet, keyless, goes)) =
    inr (none, left, done-quiet a b o one done quiet, done-due plan (round_of plan.quantum events) a b o one done ∙ keyless, done-goes a b o one done)

-- ---- how far a way is then

-- by the record, or not, so many events later
pub on-still : (plan : Planned) (events more : List Event) (far : Far) → IsHere plan events far → (HasAhead plan.recorded events → Begins plan.recorded (events ++ more))
    → (far.along ≡ true → Begins plan.recorded (events ++ more)) × (far.along ≡ false → NoneAhead plan.recorded (events ++ more))
on-still plan events more far here goes = ((λ is. goes (here.along is)), (λ is. none-later plan.recorded events more (here.apart is)))

-- after the next event
pub far-sent : (plan : Planned) (far now : Far) (e : Event) (o : Outcome) (a b : Recorded) → IsHere plan a.events far → IsNext plan a.events a.machine.world e → Sent a e o b
    → now.round ≡ round_by plan.quantum far.round e → now.along ≡ far.along → IsFar plan b.events now
far-sent plan far now e o a b here next sent by same =
    let added : b.events ≡ a.events ++ e ∷ [] = ap (λ (s : Recorded). s.events) sent.1 in
    let goes : HasAhead plan.recorded a.events → Begins plan.recorded (a.events ++ e ∷ []) = λ some. follows some next in
    let on = on-still plan a.events (e ∷ []) far here goes in record {
      round = round_sent plan.quantum far.round now.round e o a b sent here.round by;
      along = λ is. subst (λ (es : List Event). Begins plan.recorded es) (sym added) (on.0 (sym same ∙ is));
      apart = λ is. subst (λ (es : List Event). NoneAhead plan.recorded es) (sym added) (on.1 (sym same ∙ is));
    }
  where
    follows : HasAhead plan.recorded a.events → IsNext plan a.events a.machine.world e → Begins plan.recorded (a.events ++ e ∷ [])
    follows some (inl begun) = begun
    follows some (inr (none, clock)) = absurd (none some)

-- after Runs
pub far-ran : (plan : Planned) (far now : Far) (most n : ℕ) (a b : Recorded) → IsHere plan a.events far → RunsCome plan a.events most a.machine.world → n ≤ most → AddsRuns n a b
    → now.round ≡ fewer far.round n → now.along ≡ far.along → IsFar plan b.events now
far-ran plan far now most n a b here come within adds by same =
    let added : b.events ≡ a.events ++ replicate n Run = ap (λ (s : Recorded). s.events) adds in
    let goes : HasAhead plan.recorded a.events → Begins plan.recorded (a.events ++ replicate n Run) = λ some. follows some (fewer_come plan a.events most n a.machine.world within come) in
    let on = on-still plan a.events (replicate n Run) far here goes in record {
      round = round_ran plan.quantum far.round n now.round a b adds here.round by;
      along = λ is. subst (λ (es : List Event). Begins plan.recorded es) (sym added) (on.0 (sym same ∙ is));
      apart = λ is. subst (λ (es : List Event). NoneAhead plan.recorded es) (sym added) (on.1 (sym same ∙ is));
    }
  where
    follows : HasAhead plan.recorded a.events → RunsCome plan a.events n a.machine.world → Begins plan.recorded (a.events ++ replicate n Run)
    follows some (inl begun) = begun
    follows some (inr (none, left, quiet, keyless, goes)) = absurd (none some)

-- ---- where it rests

pub clock-rests : (plan : Planned) (events : List Event) (stop : Stop) (w : World) (round : Round) → round ≡ round_of plan.quantum events → NoneAhead plan.recorded events
    → RestsQuiet plan round stop w → EndsQuiet plan events stop w
clock-rests plan events stop w round is none rests = (none, subst (λ (r : Round). RestsQuiet plan r stop w) is rests)

pub ends_quiet : (plan : Planned) (events : List Event) (stop : Stop) (w : World) → EndsQuiet plan events stop w → EndsQuietIf plan events stop w
ends_quiet plan events stops.Done w ends = tt
ends_quiet plan events stops.Met w ends = tt
ends_quiet plan events stops.Asleep w ends = ends
ends_quiet plan events stops.Halted w ends = ends
ends_quiet plan events stops.Broken w ends = tt
ends_quiet plan events (stops.Refused error) w ends = tt

-- ---- what a word does along a record, or without one

pub by-along : {A B : Type 0} (plan : Planned) (s : Recorded) → HasAhead plan.recorded s.events → A → ByRecord plan s A B
by-along plan s some along = ((λ _. along), (λ none. absurd (none some)))

pub by-apart : {A B : Type 0} (plan : Planned) (s : Recorded) → NoneAhead plan.recorded s.events → B → ByRecord plan s A B
by-apart plan s none apart = ((λ some. absurd (none some)), (λ _. apart))
