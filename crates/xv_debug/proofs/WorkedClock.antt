-- Worked cases of the clock.
use Rattle.std.proofs.Common.{◌≡◌, ◌∙◌, ℕ, ℤ, true, false, List, [], ◌∷◌, ◌++◌, Option, None, Some, is_some, inl, inr, refl, sym, ap, arith}
use Rattle.kernel_spec.specs.runs.Run as runs
use Rattle.kernel_spec.specs.runs.Run.{Event, Run, Tick, Send, Key, World}
use Rattle.xv_report.specs.declared.waits.Wait.TheVariants.{Until, Child}
use Rattle.xv_debug.specs.motion.Clock.{HasAhead, IsAhead, IsByClock, IsNext, NoneAhead, begun, events_to_tick, round_of}
use Rattle.xv_debug.specs.motion.Plan.{Planned, key_due, later_keys}
use Rattle.xv_debug.specs.motion.Reaching.{is_turn_of}
use Rattle.xv_debug.specs.motion.Resting.{RestsBy, RestsQuiet, SomebodyMayGoOn, is_clock}
use Rattle.xv_debug.specs.declared.motion.clock.Round.{Round}
use Rattle.xv_debug.specs.declared.motion.journey.Stop.TheVariants.{Asleep}

-- ---- how far a round is

-- a byte that is sent takes none
two_of_three : round_of 3 (Run ∷ Send ∷ []) ≡ record { left = 2; keyed = false }
two_of_three = refl

-- after a tick all are left, and a key may come again
after_a_tick : round_of 3 (Key 97 ∷ Run ∷ Run ∷ Tick ∷ Run ∷ []) ≡ record { left = 2; keyed = false }
after_a_tick = refl

more_than_all : round_of 3 (Run ∷ Run ∷ Run ∷ Run ∷ []) ≡ record { left = 0; keyed = false }
more_than_all = refl

-- a key takes no Run, and is the round's to its end
keyed_round : round_of 3 (Run ∷ Key 97 ∷ Run ∷ Send ∷ []) ≡ record { left = 1; keyed = true }
keyed_round = refl

-- ---- up to a tick

abbrev two_ticks : List Event
two_ticks = Run ∷ Tick ∷ Key 97 ∷ Tick ∷ Run ∷ []

-- the Tick is one of them, and what comes after it is not
to_the_first : events_to_tick 1 two_ticks ≡ 2
to_the_first = refl

to_the_second : events_to_tick 2 two_ticks ≡ 4
to_the_second = refl

-- there is no third one: all
to_the_third : events_to_tick 3 two_ticks ≡ 5
to_the_third = refl

to_none : events_to_tick 0 two_ticks ≡ 0
to_none = refl

-- ---- which key is due

abbrev ab : Planned
ab = record { recorded = []; quantum = 1000; keys = 97 ∷ 98 ∷ [] }

-- in the first round the first, and a later one has one more
first_key : (w : World) → w.state.clock ≡ 0 → w.turns.halted ≡ None → (key_due ab (begun 1000) w ≡ Key 97 ∷ []) × (later_keys ab w ≡ 98 ∷ [])
first_key w at going = (rw (at, going) refl, rw at refl)

-- in the next one the next, and that is the last
second_key : (w : World) → w.state.clock ≡ 1 → w.turns.halted ≡ None → (key_due ab (begun 1000) w ≡ Key 98 ∷ []) × (later_keys ab w ≡ [])
second_key w at going = (rw (at, going) refl, rw at refl)

no_third_key : (w : World) → w.state.clock ≡ 2 → w.turns.halted ≡ None → key_due ab (begun 1000) w ≡ []
no_third_key w at going = rw (at, going) refl

-- none in a round that has had one, nor on a machine that has halted, nor without keys
had_one : (w : World) → key_due ab (record { left = 1000; keyed = true }) w ≡ []
had_one w = refl

halted_gets_none : (w : World) (status : ℤ) → w.turns.halted ≡ Some status → key_due ab (begun 1000) w ≡ []
halted_gets_none w status gone = rw gone refl

-- ---- what comes next

-- who may go on doesn't rest
resting : (w : World) → SomebodyMayGoOn w → RestsBy Asleep w → ⊥
resting w (inl stands) (stopped, going, nobody) = let no : false ≡ true = sym (ap (λ (o : Option ℕ). is_some o) stopped) ∙ stands in let bad : ⊥ = cc in bad
resting w (inr (going, (p, may))) (stopped, here, nobody) = nobody p may

-- a key is due, or none
key-or-none : (keys : List Event) (e : Event) → keys ≡ e ∷ [] → keys ≡ [] → ⊥
key-or-none keys e some none = let no : [] ≡ e ∷ [] = sym none ∙ some in let bad : ⊥ = cc in bad

abbrev first-of : Event → List Event → Event
first-of other [] = other
first-of other (e ∷ es) = e

same-key : (a b : Event) → a ∷ [] ≡ b ∷ [] → a ≡ b
same-key a b is = ap (first-of a) is

-- the clock settles the event
one_comes : (plan : Planned) (round : Round) (w : World) (e f : Event) → IsByClock plan round w e → IsByClock plan round w f → e ≡ f
one_comes plan round w Send Send a b = refl
one_comes plan round w Send Tick a (quiet, keyless, b) = absurd (a quiet)
one_comes plan round w Send Run a (quiet, keyless, some, on) = absurd (a quiet)
one_comes plan round w Send (Key k) a (quiet, due) = absurd (a quiet)
one_comes plan round w Tick Send (quiet, keyless, a) b = absurd (b quiet)
one_comes plan round w Tick Tick a b = refl
one_comes plan round w Tick Run (quiet, keyless, inl (none, goes)) (still, keyless_still, some, on) = let bad : ⊥ = omega (arith, none, some) in absurd bad
one_comes plan round w Tick Run (quiet, keyless, inr (rests, waits)) (still, keyless_still, some, on) = absurd (resting w on rests)
one_comes plan round w Tick (Key k) (quiet, keyless, a) (still, due) = absurd (key-or-none (key_due plan round w) (Key k) due keyless)
one_comes plan round w Run Send (quiet, keyless, some, on) b = absurd (b quiet)
one_comes plan round w Run Tick (still, keyless_still, some, on) (quiet, keyless, inl (none, goes)) = let bad : ⊥ = omega (arith, none, some) in absurd bad
one_comes plan round w Run Tick (still, keyless_still, some, on) (quiet, keyless, inr (rests, waits)) = absurd (resting w on rests)
one_comes plan round w Run Run a b = refl
one_comes plan round w Run (Key k) (quiet, keyless, some, on) (still, due) = absurd (key-or-none (key_due plan round w) (Key k) due keyless)
one_comes plan round w (Key k) Send (quiet, due) b = absurd (b quiet)
one_comes plan round w (Key k) Tick (quiet, due) (still, keyless, b) = absurd (key-or-none (key_due plan round w) (Key k) due keyless)
one_comes plan round w (Key k) Run (quiet, due) (still, keyless, some, on) = absurd (key-or-none (key_due plan round w) (Key k) due keyless)
one_comes plan round w (Key k) (Key m) (quiet, due) (still, also) = same-key (Key k) (Key m) (sym due ∙ also)

-- and none comes where it rests
none_at_rest : (plan : Planned) (round : Round) (w : World) (e : Event) → RestsQuiet plan round Asleep w → IsByClock plan round w e → ⊥
none_at_rest plan round w Send (rests, quiet, nobody, keyless) next = next quiet
none_at_rest plan round w Tick (rests, quiet, nobody, keyless) (still, no_key, inl (none, goes)) = resting w goes rests
none_at_rest plan round w Tick (rests, quiet, nobody, keyless) (still, no_key, inr (asleep, inl (p, waits))) = nobody p waits
none_at_rest plan round w Tick (rests, quiet, nobody, keyless) (still, no_key, inr (asleep, inr more)) = more keyless.1
none_at_rest plan round w Run (rests, quiet, nobody, keyless) (still, no_key, some, goes) = resting w goes rests
none_at_rest plan round w (Key k) (rests, quiet, nobody, keyless) (still, due) = key-or-none (key_due plan round w) (Key k) due keyless.0

-- only the clock is one
clocks : (is_clock (Some (Until 7)) ≡ true) × (is_clock (Some Child) ≡ false) × (is_clock None ≡ false)
clocks = (refl, refl, refl)

-- ---- whose turn it is

own_turn : (is_turn_of (Some 2) (runs.Turn 2) ≡ true) × (is_turn_of (Some 2) (runs.Turn 3) ≡ false) × (is_turn_of None (runs.Turn 2) ≡ false) × (is_turn_of (Some 2) runs.Ticked ≡ false)
own_turn = (refl, refl, refl, refl)

-- ---- along a record

abbrev tail : List Event → List Event
tail [] = []
tail (e ∷ es) = es

-- behind the same events the same one stands
same-behind : (before : List Event) (e f : Event) (xs ys : List Event) → (before ++ e ∷ []) ++ xs ≡ (before ++ f ∷ []) ++ ys → e ≡ f
same-behind [] e f xs ys is = ap (first-of e) is
same-behind (x ∷ before) e f xs ys is = same-behind before e f xs ys (ap tail is)

-- the plan settles the event: whatever stands in the record, and else what the clock says
plan_settles : (plan : Planned) (before : List Event) (w : World) (e f : Event) → IsNext plan before w e → IsNext plan before w f → e ≡ f
plan_settles plan before w e f (inl (xs, is)) (inl (ys, also)) = same-behind before e f xs ys (sym is ∙ also)
plan_settles plan before w e f (inl some) (inr (none, clock)) = absurd (none (e, some))
plan_settles plan before w e f (inr (none, clock)) (inl some) = absurd (none (f, some))
plan_settles plan before w e f (inr (none, clock)) (inr (also, other)) = one_comes plan (round_of plan.quantum before) w e f clock other

-- two Runs, a Tick and a key
abbrev played : List Event
played = Run ∷ Run ∷ Tick ∷ Key 97 ∷ []

-- its tick comes after its two Runs, whatever the quantum is
its_tick_comes : IsAhead played (Run ∷ Run ∷ []) Tick
its_tick_comes = (Key 97 ∷ [], refl)

its_first_event_comes_at_the_boot : IsAhead played [] Run
its_first_event_comes_at_the_boot = (Run ∷ Tick ∷ Key 97 ∷ [], refl)

abbrev second-of : List Event → Event
second-of (a ∷ b ∷ more) = b
second-of _ = Send

-- a tick by hand has left it
left_by_another_event : NoneAhead played (Run ∷ Tick ∷ [])
left_by_another_event (e, (rest, is)) = let no : Run ≡ Tick = ap second-of is in let bad : ⊥ = cc in bad

-- one that is the record's own hasn't
not_left_by_its_own : HasAhead played (Run ∷ Run ∷ Tick ∷ [])
not_left_by_its_own = (Key 97, ([], refl))

abbrev behind-four : List Event → List Event
behind-four (a ∷ b ∷ c ∷ d ∷ more) = more
behind-four _ = []

-- it is over after its last event
over_behind_its_last : NoneAhead played played
over_behind_its_last (e, (rest, is)) = let no : [] ≡ e ∷ rest = ap behind-four is in let bad : ⊥ = cc in bad

without_a_record : (before : List Event) → NoneAhead [] before
without_a_record [] (e, (rest, is)) = let bad : ⊥ = cc in bad
without_a_record (x ∷ before) (e, (rest, is)) = let bad : ⊥ = cc in bad
