-- Worked cases of the rounds that a driver plays: whole plans, so many rounds, and plans that are cut off before a round and behind an event.
use Rattle.kernel_spec.proofs.Prelude.{[], ℕ, ◌++◌, ◌||◌, ◌∙◌, ◌∷◌, ◌≡◌, ap, append-nil, append_assoc, AreRounds, arith, Bool, drop, drop-append_seam, EndsInRound, Event, events, false, Faulted}
use Rattle.kernel_spec.proofs.Prelude.{Halted, halted_by, halts, Idle, inl, inr, is_some, Key, length, length-map, List, list_any-append, LoadPageFault, map, map-append, None, Outcome, Planned, refl}
use Rattle.kernel_spec.proofs.Prelude.{replicate, round, Run, Send, Sent, Step_of, StopsBeforeRound, subst, sym, take, take-append_seam, Tick, Ticked, true, Typed}
use Rattle.kernel_spec.proofs.runs.Plans.{plan_goes_by_rounds, cut_ends_in_round}

-- ---- whole plans

-- events that each give nothing
abbrev quiet : List Event → List (Event × Outcome)
quiet es = map (λ e. (e, Idle)) es

abbrev sends : List Event
sends = replicate 32 Send

-- two keys in two rounds; a third one is left
two_keys : Planned 2 1 (7 ∷ 8 ∷ 9 ∷ []) false (quiet (Key 7 ∷ Run ∷ Tick ∷ sends ++ Key 8 ∷ Run ∷ Tick ∷ sends))
two_keys = (2, omega arith, (quiet (Key 7 ∷ Run ∷ Tick ∷ sends), quiet (Key 8 ∷ Run ∷ Tick ∷ sends), refl, refl, (quiet (Key 8 ∷ Run ∷ Tick ∷ sends), [], refl, refl, refl)), inl refl)

-- one key: the second round has none
one_key : Planned 2 1 (7 ∷ []) false (quiet (Key 7 ∷ Run ∷ Tick ∷ sends ++ Run ∷ Tick ∷ sends))
one_key = (2, omega arith, (quiet (Key 7 ∷ Run ∷ Tick ∷ sends), quiet (Run ∷ Tick ∷ sends), refl, refl, (quiet (Run ∷ Tick ∷ sends), [], refl, refl, refl)), inl refl)

-- process 1 faults in the first round, which is played to its end and is the last one
abbrev faulting : List (Event × Outcome)
faulting = (Key 7, Typed (7 ∷ [])) ∷ (Run, Step_of 1 (Faulted LoadPageFault)) ∷ (Tick, Halted) ∷ map (λ e. (e, Sent None)) sends

fault : Planned 2 1 (7 ∷ 8 ∷ []) false faulting
fault = (1, omega arith, (faulting, [], refl, refl, refl), inr refl)

-- a fault of process 2 isn't
abbrev other_faulting : List (Event × Outcome)
other_faulting = (Key 7, Typed (7 ∷ [])) ∷ (Run, Step_of 2 (Faulted LoadPageFault)) ∷ (Tick, Ticked) ∷ map (λ e. (e, Sent None)) sends

other_fault : Planned 2 1 (7 ∷ 8 ∷ []) false (other_faulting ++ quiet (Key 8 ∷ Run ∷ Tick ∷ sends))
other_fault = (2, omega arith, (other_faulting, quiet (Key 8 ∷ Run ∷ Tick ∷ sends), refl, refl, (quiet (Key 8 ∷ Run ∷ Tick ∷ sends), [], refl, refl, refl)), inl refl)

-- and no other list is planned: what is planned has just these events

none_left : (quantum : ℕ) (keys : List ℕ) (halted : Bool) (list : List (Event × Outcome)) → Planned 0 quantum keys halted list → list ≡ []
none_left quantum keys true list h = (plan_goes_by_rounds 0 quantum keys list).0.0 h
none_left quantum keys false list h = (plan_goes_by_rounds 0 quantum keys list).1.0 h

one_round : (quantum : ℕ) (keys : List ℕ) (list : List (Event × Outcome)) → Planned 1 quantum keys false list → events list ≡ round quantum keys
one_round quantum keys list plan =
    let (now, later, is, played, rest) = (plan_goes_by_rounds 0 quantum keys list).2.0 plan in
    ap events (is ∙ ap (λ (l : List (Event × Outcome)). now ++ l) (none_left quantum (drop 1 keys) (halts now) later rest) ∙ append-nil now) ∙ played

left_false : (a b : Bool) → (a || b) ≡ false → a ≡ false
left_false true b e = e
left_false false b e = refl

two_rounds : (quantum : ℕ) (keys : List ℕ) (list : List (Event × Outcome)) → halts list ≡ false → Planned 2 quantum keys false list → events list ≡ round quantum keys ++ round quantum (drop 1 keys)
two_rounds quantum keys list on plan =
    let (now, later, is, played, rest) = (plan_goes_by_rounds 1 quantum keys list).2.0 plan in
    let goes_on : halts now ≡ false = left_false (halts now) (halts later) (sym (list_any-append (λ (e : Event × Outcome). is_some (halted_by e.1)) now later) ∙ ap halts (sym is) ∙ on) in
    let second : events later ≡ round quantum (drop 1 keys) = one_round quantum (drop 1 keys) later (subst (λ (b : Bool). Planned 1 quantum (drop 1 keys) b later) goes_on rest) in
    ap events is ∙ map-append (λ (e : Event × Outcome). e.0) now later ∙ ap (λ (es : List Event). es ++ events later) played ∙ ap (λ (es : List Event). round quantum keys ++ es) second

one_key_only : (list : List (Event × Outcome)) → halts list ≡ false → Planned 2 1 (7 ∷ []) false list → events list ≡ Key 7 ∷ Run ∷ Tick ∷ sends ++ Run ∷ Tick ∷ sends
one_key_only list on h = two_rounds 1 (7 ∷ []) list on h

two_keys_only : (list : List (Event × Outcome)) → halts list ≡ false → Planned 2 1 (7 ∷ 8 ∷ []) false list → events list ≡ Key 7 ∷ Run ∷ Tick ∷ sends ++ Key 8 ∷ Run ∷ Tick ∷ sends
two_keys_only list on h = two_rounds 1 (7 ∷ 8 ∷ []) list on h

-- nothing is planned behind a round that halts
fault_ends : (more : List (Event × Outcome)) → Planned 2 1 (7 ∷ 8 ∷ []) false (faulting ++ more) → more ≡ []
fault_ends more plan =
    let (now, later, is, played, rest) = (plan_goes_by_rounds 1 1 (7 ∷ 8 ∷ []) (faulting ++ more)).2.0 plan in
    let long : length now ≡ 35 = sym (length-map now (λ (e : Event × Outcome). e.0)) ∙ ap length played in
    let same : now ≡ faulting = sym (take-append_seam now later) ∙ ap (λ (n : ℕ). take n (now ++ later)) long ∙ ap (take 35) (sym is) ∙ take-append_seam faulting more in
    let behind : later ≡ more = sym (drop-append_seam now later) ∙ ap (λ (n : ℕ). drop n (now ++ later)) long ∙ ap (drop 35) (sym is) ∙ drop-append_seam faulting more in
    sym behind ∙ (plan_goes_by_rounds 1 1 (8 ∷ []) later).0.0 (subst (λ (b : Bool). Planned 1 1 (8 ∷ []) b later) (ap halts same) rest)

-- none where none may begin, or on a machine that is halted
none_allowed : Planned 0 1 (7 ∷ []) false []
none_allowed = (0, omega arith, refl, inl refl)

halted_before : (list : List (Event × Outcome)) → Planned 2 1 (7 ∷ []) true list → list ≡ []
halted_before list plan = (plan_goes_by_rounds 2 1 (7 ∷ []) list).0.0 plan

-- ---- exactly so many rounds

abbrev first_round : List (Event × Outcome)
first_round = quiet (Key 7 ∷ Run ∷ Tick ∷ sends)

-- two with one key: the second has none; and two keys
two_with_one_key : AreRounds 2 1 (7 ∷ []) false (first_round ++ quiet (Run ∷ Tick ∷ sends))
two_with_one_key = (first_round, quiet (Run ∷ Tick ∷ sends), refl, refl, (quiet (Run ∷ Tick ∷ sends), [], refl, refl, refl))

two_with_two_keys : AreRounds 2 1 (7 ∷ 8 ∷ []) false (first_round ++ quiet (Key 8 ∷ Run ∷ Tick ∷ sends))
two_with_two_keys = (first_round, quiet (Key 8 ∷ Run ∷ Tick ∷ sends), refl, refl, (quiet (Key 8 ∷ Run ∷ Tick ∷ sends), [], refl, refl, refl))

-- the round in which process 1 faults is a whole one, and no second one begins
one_that_faults : AreRounds 1 1 (7 ∷ 8 ∷ []) false faulting
one_that_faults = (faulting, [], refl, refl, refl)

none_behind_a_fault : (more : List (Event × Outcome)) → AreRounds 2 1 (7 ∷ 8 ∷ []) false (faulting ++ more) → ⊥
none_behind_a_fault more (now, later, is, played, rest) =
    let long : length now ≡ 35 = sym (length-map now (λ (e : Event × Outcome). e.0)) ∙ ap length played in
    let same : now ≡ faulting = sym (take-append_seam now later) ∙ ap (λ (n : ℕ). take n (now ++ later)) long ∙ ap (take 35) (sym is) ∙ take-append_seam faulting more in
    subst (λ (b : Bool). AreRounds 1 1 (8 ∷ []) b later) (ap halts same) rest

-- a round isn't two, nor none
one_only : AreRounds 2 1 (7 ∷ []) false first_round → ⊥
one_only (now, later, is, played, rest) = by later is rest
  where
    long : length now ≡ 35
    long = sym (length-map now (λ (e : Event × Outcome). e.0)) ∙ ap length played

    by : (later : List (Event × Outcome)) → first_round ≡ now ++ later → AreRounds 1 1 [] (halts now) later → ⊥
    by later is rest = nothing (halts now) later (sym (drop-append_seam now later) ∙ ap (λ (n : ℕ). drop n (now ++ later)) long ∙ ap (drop 35) (sym is)) rest
      where
        nothing : (b : Bool) (xs : List (Event × Outcome)) → xs ≡ [] → AreRounds 1 1 [] b xs → ⊥
        nothing true xs none are = are
        nothing false xs none (a, b, both, events_are, more) =
            let short : events a ≡ [] = empty a b (sym both ∙ none) in
            let no : ◌≡◌ {A = List Event} [] (Run ∷ Tick ∷ sends) = sym short ∙ events_are in let bad : ⊥ = cc in bad
          where
            empty : (a b : List (Event × Outcome)) → a ++ b ≡ [] → events a ≡ []
            empty [] b e = refl
            empty (x ∷ a) b e = let bad : ⊥ = cc in absurd bad

not_none : AreRounds 0 1 (7 ∷ []) false first_round → ⊥
not_none is = let bad : ⊥ = cc in bad

-- ---- a plan that is cut off before a round

stops_at_first : StopsBeforeRound 2 1 (7 ∷ 8 ∷ []) false []
stops_at_first = (0, omega arith, refl, refl)

stops_before_second : StopsBeforeRound 2 1 (7 ∷ 8 ∷ []) false first_round
stops_before_second = (1, omega arith, (first_round, [], refl, refl, refl), refl)

-- not where no round could begin: on a halted machine, and where none is left
no_stop_when_halted : StopsBeforeRound 2 1 (7 ∷ []) true [] → ⊥
no_stop_when_halted (count, less, are, on) = let bad : ⊥ = cc in bad

no_stop_when_over : StopsBeforeRound 0 1 (7 ∷ []) false [] → ⊥
no_stop_when_over (count, less, are, on) = omega (arith, less)

no_stop_behind_a_fault : StopsBeforeRound 2 1 (7 ∷ 8 ∷ []) false faulting → ⊥
no_stop_behind_a_fault (count, less, are, on) = let bad : ⊥ = cc in bad

-- ---- a plan that is cut off behind an event

-- in the second round, behind its key; in the first one, behind its tick
cut_behind_key : EndsInRound 2 1 (7 ∷ 8 ∷ []) false (first_round ++ (Key 8, Typed (8 ∷ [])) ∷ []) (Key 8, Typed (8 ∷ []))
cut_behind_key = (1, first_round, [], Run ∷ Tick ∷ sends, refl, omega arith, (first_round, [], refl, refl, refl), refl, refl)

cut_behind_tick : EndsInRound 1 1 (7 ∷ []) false ((Key 7, Typed (7 ∷ [])) ∷ (Run, Idle) ∷ (Tick, Ticked) ∷ []) (Tick, Ticked)
cut_behind_tick = (0, [], (Key 7, Typed (7 ∷ [])) ∷ (Run, Idle) ∷ [], sends, refl, omega arith, refl, refl, refl)

-- the last event is the one that is named, and there is one
not_last : (before : List (Event × Outcome)) → (Key 7, Typed (7 ∷ [])) ∷ (Run, Idle) ∷ [] ≡ before ++ (Key 7, Typed (7 ∷ [])) ∷ [] → ⊥
not_last [] e = cc
not_last (x ∷ []) e = let no : Run ∷ [] ≡ Key 7 ∷ [] = ap (λ (xs : List (Event × Outcome)). events (drop 1 xs)) e in let bad : ⊥ = cc in bad
not_last (x ∷ y ∷ before) e = by_rest before (ap (drop 2) e)
  where
    by_rest : (before : List (Event × Outcome)) → [] ≡ before ++ (Key 7, Typed (7 ∷ [])) ∷ [] → ⊥
    by_rest [] f = cc
    by_rest (z ∷ before) f = cc

other_last : EndsInRound 1 1 (7 ∷ []) false ((Key 7, Typed (7 ∷ [])) ∷ (Run, Idle) ∷ []) (Key 7, Typed (7 ∷ [])) → ⊥
other_last (count, before, part, rest, is, less, are, on, played) = not_last (before ++ part) (is ∙ sym (append_assoc before part ((Key 7, Typed (7 ∷ [])) ∷ [])))

none_last : (before : List (Event × Outcome)) (last : Event × Outcome) → [] ≡ before ++ last ∷ [] → ⊥
none_last [] last e = cc
none_last (x ∷ before) last e = cc

no_event : (last : Event × Outcome) → EndsInRound 2 1 (7 ∷ []) false [] last → ⊥
no_event last (count, before, part, rest, is, less, are, on, played) = none_last (before ++ part) last (is ∙ sym (append_assoc before part (last ∷ [])))

-- a tick where a run is due isn't planned
not_due : EndsInRound 1 1 (7 ∷ []) false ((Key 7, Typed (7 ∷ [])) ∷ (Tick, Ticked) ∷ []) (Tick, Ticked) → ⊥
not_due (count, before, part, rest, is, less, are, on, played) =
    let none : count ≡ 0 = omega (arith, less) in
    let empty : before ≡ [] = subst (λ (n : ℕ). AreRounds n 1 (7 ∷ []) false before) none are in
    let all : part ++ (Tick, Ticked) ∷ [] ≡ (Key 7, Typed (7 ∷ [])) ∷ (Tick, Ticked) ∷ [] = sym (is ∙ ap (λ (xs : List (Event × Outcome)). xs ++ (part ++ (Tick, Ticked) ∷ [])) empty) in
    let same : Key 7 ∷ Tick ∷ rest ≡ Key 7 ∷ Run ∷ Tick ∷ sends = sym (ap (λ (xs : List (Event × Outcome)). events xs ++ rest) all) ∙ played ∙ ap (λ (n : ℕ). round 1 (drop n (7 ∷ []))) none in
    let bad : ⊥ = cc in bad

-- nothing is planned behind a round that halts, and so nothing is cut off there
not_behind_a_fault : EndsInRound 2 1 (7 ∷ 8 ∷ []) false (faulting ++ (Key 8, Idle) ∷ []) (Key 8, Idle) → ⊥
not_behind_a_fault cut =
    let (before, more, is, plan) = (cut_ends_in_round 2 1 (7 ∷ 8 ∷ []) false (faulting ++ (Key 8, Idle) ∷ []) (Key 8, Idle)).1 cut in
    let none : (Key 8, Idle) ∷ more ≡ [] = fault_ends ((Key 8, Idle) ∷ more) plan in
    let bad : ⊥ = cc in bad
