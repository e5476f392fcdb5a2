-- A run that is played again, to find the last place that was what is waited for.
use Rattle.std.proofs.Common.{◌≡◌, ◌∙◌, ◌+◌, ◌≤◌, ℕ, suc, Bool, List, [], ◌∷◌, ◌++◌, length, drop, take, Option, None, replicate}
use Rattle.std.proofs.Common.{refl, sym, ap, subst, append_assoc, append-nil, arith}
use Rattle.std.proofs.Math.Seq.{take-add}
use Rattle.std.proofs.lemmas.List.{length-append, length-replicate, length-take-le, replicate-append-replicate, take-take, take-replicate}
use Rattle.kernel_spec.specs.runs.Run.{Event}
use Rattle.xv_machine.specs.Meaning.{Meaning}
use Rattle.xv_session.specs.Recorded.{Recorded, IsPlayed}
use Rattle.xv_debug.specs.motion.Backwards.{LookedAt, Looked, LookedTo, later}
use Rattle.xv_debug.specs.declared.motion.aiming.Aim.{Aim}

-- some events after others
pub looked-join : (aim : Aim) (xs ys : List Event) (place : ℕ) (found mid answer : Option ℕ) (a b c : Meaning) → Looked aim xs place found a b mid → Looked aim ys (place + length xs) mid b c answer
    → Looked aim (xs ++ ys) place found a c answer
looked-join aim [] ys place found mid answer a b c (same, is) more =
    let here : place + 0 ≡ place = omega arith in
    subst (λ (n : ℕ). Looked aim ys n found a c answer) here
    (subst (λ (o : Option ℕ). Looked aim ys (place + 0) o a c answer) is (subst (λ (m : Meaning). Looked aim ys (place + 0) mid m c answer) same more))
looked-join aim (x ∷ xs) ys place found mid answer a b c (m, hit, one, rest) more =
    let here : place + suc (length xs) ≡ (place + 1) + length xs = omega arith in
    (m, hit, one, looked-join aim xs ys (place + 1) (later hit (place + 1) found) mid answer m b c rest (subst (λ (n : ℕ). Looked aim ys n mid b c answer) here more))

-- one more of equal events
pub looked-more : (aim : Aim) (e : Event) (n place : ℕ) (found mid answer : Option ℕ) (hit : Bool) (a b c : Meaning) → Looked aim (replicate n e) place found a b mid → LookedAt aim e b c hit
    → answer ≡ later hit (place + n + 1) mid → Looked aim (replicate (n + 1) e) place found a c answer
looked-more aim e n place found mid answer hit a b c so_far one is =
    let long : place + length (replicate n e) ≡ place + n = ap (λ (k : ℕ). place + k) (length-replicate n e) in
    let next : answer ≡ later hit (place + length (replicate n e) + 1) mid = is ∙ ap (λ (k : ℕ). later hit (k + 1) mid) (sym long) in
    subst (λ (es : List Event). Looked aim es place found a c answer) (replicate-append-replicate n 1 e)
    (looked-join aim (replicate n e) (e ∷ []) place found mid answer a b c so_far (c, hit, one, (refl, next)))

-- the next of equal events, so many
pub looked-to-more : (aim : Aim) (begin place count : ℕ) (e : Event) (s : Recorded) (m n : Meaning) (found answer : Option ℕ) → begin ≤ place → place ≤ length s.events
    → take count (drop place s.events) ≡ replicate count e → LookedTo aim begin place s m found → Looked aim (replicate count e) place found m n answer → LookedTo aim begin (place + count) s n answer
looked-to-more aim begin place count e s m n found answer from within next p more =
    let all = s.events in
    let long : length (take begin all ++ p.list) ≡ length (take place all) = ap (length {A = Event}) p.those in
    let parts : length (take begin all) + length p.list ≡ length (take place all) = sym (length-append (take begin all) p.list) ∙ long in
    let first : length (take begin all) ≡ begin = length-take-le begin all (omega (arith, from, within)) in
    let second : length (take place all) ≡ place = length-take-le place all within in
    let here : begin + length p.list ≡ place = omega (arith, parts, first, second) in record {
      from = p.from;
      list = p.list ++ replicate count e;
      played = p.played;
      those = sym (append_assoc (take begin all) p.list (replicate count e)) ∙ ap (λ (es : List Event). es ++ replicate count e) p.those
          ∙ ap (λ (es : List Event). take place all ++ es) (sym next) ∙ sym (take-add place count all);
      looked = looked-join aim p.list (replicate count e) begin None found answer p.from m n p.looked (subst (λ (k : ℕ). Looked aim (replicate count e) k found m n answer) (sym here) more);
    }

-- at the begin nothing was looked at
pub looked-to-none : (aim : Aim) (begin : ℕ) (s : Recorded) (m : Meaning) → IsPlayed s.frames s.trace s.programs (take begin s.events) m → LookedTo aim begin begin s m None
looked-to-none aim begin s m played = record { from = m; list = []; played = played; those = append-nil (take begin s.events); looked = (refl, refl) }

-- the first of equal events are equal
pub fewer-equal : (count equal place : ℕ) (e : Event) (xs : List Event) → count ≤ equal → take equal (drop place xs) ≡ replicate equal e → take count (drop place xs) ≡ replicate count e
fewer-equal count equal place e xs few same = sym (take-take count equal (drop place xs) few) ∙ ap (take count) same ∙ take-replicate count equal e few
