-- The events of a record, and the stretch in which a place lies.
use Rattle.std.proofs.Common.{◌≡◌, ◌∙◌, ℕ, zero, suc, ◌+◌, ◌-◌, ◌<◌, ◌≤◌, List, [], ◌∷◌, ◌++◌, refl, sym, ap, subst, arith, length, take}
use Rattle.std.proofs.Common.{length-append, get_or, append_assoc, append-nil}
use Rattle.std.specs.Prelude.{replicate}
use Rattle.std.proofs.lemmas.List.{length-replicate, get_or-append-add, get_or-replicate, take_all}
use Rattle.std.proofs.lemmas.Option.{unwrap_or-slice_get}
use Rattle.std.proofs.Math.ListN.{get_or-append}
use Rattle.kernel_spec.specs.runs.Run.{Event, Send}
use Rattle.xv_machine.specs.Events.{event_of}
use Rattle.recordings.specs.Recording.{AreInOrder, end_of, event_among, events_from}
use Rattle.recordings.specs.declared.recording.Stretch.{Stretch}

-- the end of the first of them, so many
abbrev pub end_at : (begin : ℕ) → List Stretch → (place : ℕ) → ℕ
end_at begin list place = end_of begin (take place list)

pub grows : (begin : ℕ) (list : List Stretch) → AreInOrder begin list → begin ≤ end_of begin list
grows begin [] order = omega arith
grows begin (s ∷ rest) order = let more = grows s.end rest order.1 in omega (arith, more, order.0)

pub long : (begin : ℕ) (list : List Stretch) → AreInOrder begin list → begin + length (events_from begin list) ≡ end_of begin list
long begin [] order = omega arith
long begin (s ∷ rest) order =
    let whole = length-append (replicate (s.end - begin) (event_of s.event)) (events_from s.end rest) in
    let here = length-replicate (s.end - begin) (event_of s.event) in
    let more = long s.end rest order.1 in
    omega (arith, whole, here, more, order.0)

pub end-at-all : (begin : ℕ) (list : List Stretch) (place : ℕ) → length list ≤ place → end_at begin list place ≡ end_of begin list
end-at-all begin list place all = ap (end_of begin) (take_all place list all)

end-next : (begin : ℕ) (list : List Stretch) (i : ℕ) (d : Stretch) → i < length list → (get_or list i d).end ≡ end_at begin list (suc i)
end-next begin [] i d inside = absurd (omega (arith, inside))
end-next begin (s ∷ rest) zero d inside = refl
end-next begin (s ∷ rest) (suc i) d inside = end-next s.end rest i d (omega (arith, inside))

pub end-at-next : (begin : ℕ) (list : List Stretch) (i : ℕ) (d : Stretch) → i < length list → (get_or list i d).end ≡ end_at begin list (i + 1)
end-at-next begin list i d inside = let next : suc i ≡ i + 1 = omega arith in end-next begin list i d inside ∙ ap (end_at begin list) next

pub end-within : (begin : ℕ) (list : List Stretch) (i : ℕ) → AreInOrder begin list → end_at begin list i ≤ end_of begin list
end-within begin [] zero order = omega arith
end-within begin [] (suc i) order = omega arith
end-within begin (s ∷ rest) zero order = grows begin (s ∷ rest) order
end-within begin (s ∷ rest) (suc i) order = end-within s.end rest i order.1

begins : (begin : ℕ) (list : List Stretch) (i : ℕ) → AreInOrder begin list → begin ≤ end_at begin list i
begins begin [] zero order = omega arith
begins begin [] (suc i) order = omega arith
begins begin (s ∷ rest) zero order = omega arith
begins begin (s ∷ rest) (suc i) order = let more = begins s.end rest i order.1 in omega (arith, more, order.0)

-- the event at a place of a stretch
found-or : (begin : ℕ) (list : List Stretch) (i n : ℕ) (d : Stretch) → AreInOrder begin list → i < length list → end_at begin list i ≤ n → n < end_at begin list (suc i)
    → get_or (events_from begin list) (n - begin) Send ≡ event_of (get_or list i d).event
found-or begin [] i n d order inside after before = absurd (omega (arith, inside))
found-or begin (s ∷ rest) zero n d order inside after before =
    let e = event_of s.event in
    let few : n - begin < s.end - begin = omega (arith, after, before) in
    get_or-append (replicate (s.end - begin) e) (events_from s.end rest) Send (n - begin) (omega (arith, few, length-replicate (s.end - begin) e))
    ∙ get_or-replicate (s.end - begin) (n - begin) e Send few
found-or begin (s ∷ rest) (suc i) n d order inside after before =
    let e = event_of s.event in
    let here = replicate (s.end - begin) e in
    let late : s.end ≤ n = (let more = begins s.end rest i order.1 in omega (arith, more, after)) in
    let place : n - begin ≡ length here + (n - s.end) = omega (arith, late, order.0, length-replicate (s.end - begin) e) in
    ap (λ (m : ℕ). get_or (here ++ events_from s.end rest) m Send) place ∙ get_or-append-add here (events_from s.end rest) (n - s.end) Send
    ∙ found-or s.end rest i n d order.1 (omega (arith, inside)) after before

pub found : (list : List Stretch) (i n : ℕ) (d : Stretch) → AreInOrder 0 list → i < length list → end_at 0 list i ≤ n → n < end_at 0 list (i + 1)
    → event_among (events_from 0 list) n ≡ event_of (get_or list i d).event
found list i n d order inside after before =
    let same : n ≡ n - 0 = omega arith in
    let next : i + 1 ≡ suc i = omega arith in
    unwrap_or-slice_get (events_from 0 list) n Send ∙ ap (λ (m : ℕ). get_or (events_from 0 list) m Send) same
    ∙ found-or 0 list i n d order inside after (subst (λ (k : ℕ). n < end_at 0 list k) next before)

-- ---- one more

pub events-push : (begin : ℕ) (list : List Stretch) (s : Stretch) → events_from begin (list ++ s ∷ []) ≡ events_from begin list ++ replicate (s.end - end_of begin list) (event_of s.event)
events-push begin [] s = append-nil (replicate (s.end - begin) (event_of s.event))
events-push begin (x ∷ rest) s =
    ap (λ (es : List Event). replicate (x.end - begin) (event_of x.event) ++ es) (events-push x.end rest s)
    ∙ sym (append_assoc (replicate (x.end - begin) (event_of x.event)) (events_from x.end rest) (replicate (s.end - end_of x.end rest) (event_of s.event)))

pub end-push : (begin : ℕ) (list : List Stretch) (s : Stretch) → end_of begin (list ++ s ∷ []) ≡ s.end
end-push begin [] s = refl
end-push begin (x ∷ rest) s = end-push x.end rest s

pub order-push : (begin : ℕ) (list : List Stretch) (s : Stretch) → AreInOrder begin list → end_of begin list ≤ s.end → AreInOrder begin (list ++ s ∷ [])
order-push begin [] s order after = (after, tt)
order-push begin (x ∷ rest) s order after = (order.0, order-push x.end rest s order.1 after)
