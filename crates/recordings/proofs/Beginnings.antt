-- With which events a record begins.
use Rattle.std.proofs.Common.{◌≡◌, ◌∙◌, ℕ, true, false, zero, suc, ◌+◌, ◌-◌, ◌<◌, ◌≤◌, List, [], ◌∷◌, ◌++◌, refl, sym, ap, ap₂, subst, arith, length, take, drop, replicate, get_or, min}
use Rattle.std.proofs.Common.{length-append, append_assoc, append-nil}
use Rattle.std.proofs.Math.Seq.{drop-append_seam, take-append-add}
use Rattle.std.proofs.lemmas.Bool.{eq-eqb, eqb-true}
use Rattle.std.proofs.lemmas.List.{get_or-drop, get_or-replicate, get_or-take, length-drop, length-replicate, length-take}
use Rattle.std.proofs.lemmas.List.{length-take-le, replicate-append-replicate, take-append-drop, take-append-le, take_all, take_more}
use Rattle.std.proofs.lemmas.Option.{unwrap_or-slice_get}
use Rattle.kernel_spec.specs.runs.Run as runs
use Rattle.kernel_spec.specs.runs.Run.{Event, Send}
use Rattle.recordings.specs.Recording.{Begins, event_among, is_same}

-- ---- events that are told apart

pub same-event : (a b : Event) → is_same a b ≡ true → a ≡ b
same-event runs.Run runs.Run is = refl
same-event runs.Run runs.Tick is = let bad : ⊥ = cc in absurd bad
same-event runs.Run (runs.Key n) is = let bad : ⊥ = cc in absurd bad
same-event runs.Run Send is = let bad : ⊥ = cc in absurd bad
same-event runs.Tick runs.Run is = let bad : ⊥ = cc in absurd bad
same-event runs.Tick runs.Tick is = refl
same-event runs.Tick (runs.Key n) is = let bad : ⊥ = cc in absurd bad
same-event runs.Tick Send is = let bad : ⊥ = cc in absurd bad
same-event (runs.Key m) runs.Run is = let bad : ⊥ = cc in absurd bad
same-event (runs.Key m) runs.Tick is = let bad : ⊥ = cc in absurd bad
same-event (runs.Key m) (runs.Key n) is = ap (λ (k : ℕ). runs.Key k) (eqb-true m n is)
same-event (runs.Key m) Send is = let bad : ⊥ = cc in absurd bad
same-event Send runs.Run is = let bad : ⊥ = cc in absurd bad
same-event Send runs.Tick is = let bad : ⊥ = cc in absurd bad
same-event Send (runs.Key n) is = let bad : ⊥ = cc in absurd bad
same-event Send Send is = refl

itself : (a : Event) → is_same a a ≡ true
itself runs.Run = refl
itself runs.Tick = refl
itself (runs.Key n) = eq-eqb n n refl
itself Send = refl

pub other-event : (a b : Event) → is_same a b ≡ false → a ≡ b → ⊥
other-event a b other same = let no : false ≡ true = sym other ∙ subst (λ (x : Event). is_same a x ≡ true) same (itself a) in let bad : ⊥ = cc in bad

-- ---- equal events from a place on

-- so many, and so many more
pub more-equal : (list : List Event) (place n m : ℕ) (e : Event) → place + n + m ≤ length list → ((k : ℕ) → k < m → event_among list (place + n + k) ≡ e)
    → take n (drop place list) ≡ replicate n e → take (n + m) (drop place list) ≡ replicate (n + m) e
more-equal list place n zero e within each those =
    let none : n + 0 ≡ n = omega arith in
    ap (λ (k : ℕ). take k (drop place list)) none ∙ those ∙ ap (λ (k : ℕ). replicate k e) (sym none)
more-equal list place n (suc m) e within each those =
    let next : n + suc m ≡ (n + m) + 1 = omega arith in
    let few : n + m < length (drop place list) = omega (arith, within, length-drop place list) in
    let same : place + (n + m) ≡ place + n + m = omega arith in
    let before = more-equal list place n m e (omega (arith, within)) (λ k h. each k (omega (arith, h))) those in
    let here : get_or (drop place list) (n + m) Send ≡ e =
    get_or-drop place list (n + m) Send ∙ ap (λ (k : ℕ). get_or list k Send) same ∙ sym (unwrap_or-slice_get list (place + n + m) Send) ∙ each m (omega arith) in
    let one : n + m + 1 ≡ n + suc m = omega arith in
    ap (λ (k : ℕ). take k (drop place list)) next ∙ take_more (drop place list) (n + m) Send few ∙ ap₂ (λ (es : List Event) (x : Event). es ++ x ∷ []) before here
    ∙ replicate-append-replicate (n + m) 1 e ∙ ap (λ (k : ℕ). replicate k e) one

-- each of them
pub each-equal : (list : List Event) (place count at : ℕ) (e : Event) → take count (drop place list) ≡ replicate count e → place ≤ at → at - place < count
    → (at < length list) × (event_among list at ≡ e)
each-equal list place count at e those after before =
    let long : min count (length (drop place list)) ≡ count = sym (length-take count (drop place list)) ∙ ap length those ∙ length-replicate count e in
    let here : place + (at - place) ≡ at = omega (arith, after) in
    let inside : at < length list = omega (arith, long, length-drop place list, after, before) in (
      inside,
      unwrap_or-slice_get list at Send ∙ ap (λ (k : ℕ). get_or list k Send) (sym here) ∙ sym (get_or-drop place list (at - place) Send)
          ∙ sym (get_or-take count (drop place list) (at - place) Send before) ∙ ap (λ (es : List Event). get_or es (at - place) Send) those
          ∙ get_or-replicate count (at - place) e Send before,
    )

-- ---- with which events it begins

pub begins-none : (recorded : List Event) → Begins recorded []
begins-none recorded = (recorded, refl)

pub begins-few : (recorded events : List Event) → Begins recorded events → length events ≤ length recorded
begins-few recorded events (rest, is) = omega (arith, ap length is, length-append events rest)

pub begins-more : (recorded events : List Event) (place count : ℕ) (e : Event) → Begins recorded events → place ≡ length events
    → take count (drop place recorded) ≡ replicate count e → Begins recorded (events ++ replicate count e)
begins-more recorded events place count e (rest, is) at those =
    let here : drop place recorded ≡ rest = ap₂ (λ (k : ℕ) (es : List Event). drop k es) at is ∙ drop-append_seam events rest in
    let first : take count rest ≡ replicate count e = ap (take count) (sym here) ∙ those in (
      drop count rest,
      is ∙ ap (λ (es : List Event). events ++ es) (sym (take-append-drop count rest) ∙ ap (λ (es : List Event). es ++ drop count rest) first)
          ∙ sym (append_assoc events (replicate count e) (drop count rest)),
    )

-- ---- equal events of a run, from a place on

pub take-zero : (events : List Event) → take 0 events ≡ []
take-zero [] = refl
take-zero (x ∷ events) = refl

pub begins-zero : (recorded events : List Event) → Begins recorded (take 0 events)
begins-zero recorded events = subst (λ (es : List Event). Begins recorded es) (sym (take-zero events)) (begins-none recorded)

pub first-more : (events : List Event) (place count : ℕ) (e : Event) → place ≤ length events → take count (drop place events) ≡ replicate count e
    → take (place + count) events ≡ take place events ++ replicate count e
first-more events place count e within those =
    let xs = take place events in
    let long : place ≡ length xs = sym (length-take-le place events within) in
    ap (take (place + count)) (sym (take-append-drop place events)) ∙ ap (λ (n : ℕ). take (n + count) (xs ++ drop place events)) long ∙ take-append-add xs (drop place events) count
    ∙ ap (λ (es : List Event). xs ++ es) those
