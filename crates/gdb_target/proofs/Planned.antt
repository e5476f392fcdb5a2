-- The events of a run, place by place: those of its record, and then those of its rounds.
use Rattle.std.proofs.Common.{◌≡◌, ◌∙◌, ℕ, zero, suc, ◌+◌, ◌-◌, ◌<◌, ◌≤◌, inl, inr, List, [], ◌∷◌, ◌++◌, refl, sym, ap, arith, length, length-append, take, get_or, append_assoc, append-nil, min}
use Rattle.std.specs.Prelude.{replicate}
use Rattle.std.proofs.lemmas.Bool.{cases_lt, lt-ltb, le-ltb}
use Rattle.std.proofs.lemmas.List.{take-append-le, take_all, take_more, replicate-append-replicate}
use Rattle.std.proofs.lemmas.Option.{unwrap_or-slice_get}
use Rattle.kernel_spec.specs.runs.Run.{Event, Send}
use Rattle.gdb_target.specs.Rounds.{event_at}
use Rattle.recordings.specs.Recording.{event_among}
use Rattle.gdb_target.specs.Plan.{Planned, planned_at, first_events, FirstOfFirst, MoreOfOneKind, RecordIsFirst, RoundsAlone}

-- ---- a place of the record, and one after it

pub in-record : (plan : Planned) (place : ℕ) → place < length plan.recorded → planned_at plan place ≡ event_among plan.recorded place
in-record plan place inside = rw (lt-ltb place (length plan.recorded) inside) refl

pub past-record : (plan : Planned) (place : ℕ) → length plan.recorded ≤ place → planned_at plan place ≡ event_at plan.keys plan.quantum (place - length plan.recorded)
past-record plan place past = rw (le-ltb place (length plan.recorded) past) refl

-- ---- the first events

length-first : (plan : Planned) (n : ℕ) → length (first_events plan n) ≡ n
length-first plan zero = refl
length-first plan (suc n) = omega (arith, length-append (first_events plan n) (planned_at plan n ∷ []), length-first plan n)

take-nothing-of : (list : List Event) → take zero list ≡ []
take-nothing-of [] = refl
take-nothing-of (x ∷ list) = refl

take-nothing : (place : ℕ) → take {A = Event} place [] ≡ []
take-nothing zero = refl
take-nothing (suc n) = refl

first-at : (plan : Planned) (place count : ℕ) → take place (first_events plan count) ≡ first_events plan (min place count)
first-at plan place zero = let none : min place 0 ≡ 0 = omega arith in take-nothing place ∙ sym (ap (first_events plan) none)
first-at plan place (suc n) =
    elim (cases_lt place (suc n)) [
      | inl within ↦
          let inside : place ≤ length (first_events plan n) = omega (arith, length-first plan n) in
          let same : min place n ≡ min place (suc n) = omega arith in
          take-append-le place (first_events plan n) (planned_at plan n ∷ []) inside ∙ first-at plan place n ∙ ap (first_events plan) same
      | inr beyond ↦
          let whole : length (first_events plan (suc n)) ≤ place = omega (arith, length-first plan (suc n)) in
          let all : suc n ≡ min place (suc n) = omega arith in
          take_all place (first_events plan (suc n)) whole ∙ ap (first_events plan) all
    ]

pub first-of-first : FirstOfFirst
first-of-first plan count place = first-at plan place count

pub more-of-one-kind : MoreOfOneKind
more-of-one-kind plan place zero e each = let here : place + 0 ≡ place = omega arith in ap (first_events plan) here ∙ sym (append-nil (first_events plan place))
more-of-one-kind plan place (suc n) e each =
    let last : planned_at plan (place + n) ≡ e = each n (omega arith) in
    let before : first_events plan (place + n) ≡ first_events plan place ++ replicate n e = more-of-one-kind plan place n e (λ k h. each k (omega arith)) in
    let next : place + suc n ≡ suc (place + n) = omega arith in
    ap (first_events plan) next ∙ ap (λ (xs : List Event). xs ++ planned_at plan (place + n) ∷ []) before
    ∙ ap (λ (x : Event). (first_events plan place ++ replicate n e) ++ x ∷ []) last
    ∙ append_assoc (first_events plan place) (replicate n e) (e ∷ [])
    ∙ ap (λ (xs : List Event). first_events plan place ++ xs)
    (replicate-append-replicate n 1 e ∙ ap (λ (m : ℕ). replicate m e) (let one : n + 1 ≡ suc n = omega arith in one))

-- ---- the record's events

first-recorded : (plan : Planned) (n : ℕ) → n ≤ length plan.recorded → first_events plan n ≡ take n plan.recorded
first-recorded plan zero few = sym (take-nothing-of plan.recorded)
first-recorded plan (suc n) few =
    let next : n + 1 ≡ suc n = omega arith in
    let here : planned_at plan n ≡ get_or plan.recorded n Send = in-record plan n (omega (arith, few)) ∙ unwrap_or-slice_get plan.recorded n Send in
    ap (λ (es : List Event). es ++ planned_at plan n ∷ []) (first-recorded plan n (omega (arith, few)))
    ∙ ap (λ (e : Event). take n plan.recorded ++ e ∷ []) here ∙ sym (take_more plan.recorded n Send (omega (arith, few)))
    ∙ ap (λ (k : ℕ). take k plan.recorded) next

pub record-is-first : RecordIsFirst
record-is-first plan = first-recorded plan (length plan.recorded) (omega arith) ∙ take_all (length plan.recorded) plan.recorded (omega arith)

pub rounds-alone : RoundsAlone
rounds-alone plan place none =
    let here : length plan.recorded ≡ 0 = ap length none in
    let same : place - length plan.recorded ≡ place = omega (arith, here) in
    past-record plan place (omega (arith, here)) ∙ ap (event_at plan.keys plan.quantum) same
