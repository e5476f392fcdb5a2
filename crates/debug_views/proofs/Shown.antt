-- What is written of a machine, line by line.
use Rattle.std.proofs.Common.{◌≡◌, ℕ, zero, suc, ◌+◌, ◌-◌, ◌^◌, ◌<◌, ◌≤◌, ◌⊎◌, inl, inr, min, List, []}
use Rattle.std.proofs.Common.{◌++◌, length, take, drop, replicate, Option, None, Some, Result, OnOk, refl, sym, ◌∙◌, ap, subst}
use Rattle.std.proofs.Common.{arith, append-nil, eq-eqb, ne_eqb, lt-ltb, le-ltb, length-take, length-drop}
use Rattle.std.proofs.Math.Seq.{take-append-add}
use Rattle.std.proofs.lemmas.List.{drop-drop, length-replicate, replicate-append-replicate, take-append-drop}
use Rattle.std.proofs.lemmas.Result.{on_ok_weaker}
use Rattle.kernel_spec.specs.runs.Run.{Event}
use Rattle.kernel_spec.specs.views.State.{State}
use Rattle.kcall_core.specs.declared.kernel.observers.frame_uses.FrameUse.{FrameUse}
use Rattle.xv_session.specs.Recorded.{Recorded}
use Rattle.xv_session.specs.Answers.{AreEqualFrom}
use Rattle.debug_views.specs.EventText.{AreAlike, AreEvents, equal_text, more_events}
use Rattle.debug_views.specs.Focus.{IsLeastFrom}
use Rattle.debug_views.specs.FrameText.{AreShares, more_text, share_text}
use Rattle.debug_views.specs.MemoryText.{memory_line, memory_lines}
use Rattle.debug_views.specs.Written.{Writes}
use Rattle.debug_views.proofs.Texts.{two_behind}

-- ---- a text, and what is so behind it

-- nothing is written
pub writes-nothing : (Is : List ℕ → Type 0) (old : List ℕ) → Is [] → Writes old old Is
writes-nothing Is old is = ([], is, sym (append-nil old))

-- a text is written that is so
pub writes-text : (Is : List ℕ → Type 0) (old new text : List ℕ) → Is text → new ≡ old ++ text → Writes old new Is
writes-text Is old new text is same = (text, is, same)

-- a text is written, and behind it what is so
pub writes-behind : (Rest Is : List ℕ → Type 0) (old mid new front : List ℕ) → mid ≡ old ++ front → Writes mid new Rest → ((rest : List ℕ) → Rest rest → Is (front ++ rest)) → Writes old new Is
writes-behind Rest Is old mid new front first (rest, is, same) whole = (front ++ rest, whole rest is, two_behind old mid new front rest first same)

-- the same behind a call that may fail
pub shows-behind : {T E : Type 0} (r : Result T E) (Rest Is : List ℕ → Type 0) (old mid new front : List ℕ) → mid ≡ old ++ front
    → ((rest : List ℕ) → Rest rest → Is (front ++ rest)) → OnOk r (Writes mid new Rest) → OnOk r (Writes old new Is)
shows-behind r Rest Is old mid new front first whole wrote = on_ok_weaker r (λ w. writes-behind Rest Is old mid new front first w whole) wrote

-- a text is written that is so, by a call that may fail
pub shows-text : {T E : Type 0} (r : Result T E) (Is : List ℕ → Type 0) (old new text : List ℕ) → Is text → OnOk r (new ≡ old ++ text) → OnOk r (Writes old new Is)
shows-text r Is old new text is wrote = on_ok_weaker r (writes-text Is old new text is) wrote

-- what is so of a text is so by another word
pub writes-same : (Was Is : List ℕ → Type 0) (old new : List ℕ) → ((text : List ℕ) → Was text → Is text) → Writes old new Was → Writes old new Is
writes-same Was Is old new told (text, was, same) = (text, told text was, same)

pub shows-same : {T E : Type 0} (r : Result T E) (Was Is : List ℕ → Type 0) (old new : List ℕ) → ((text : List ℕ) → Was text → Is text) → OnOk r (Writes old new Was) → OnOk r (Writes old new Is)
shows-same r Was Is old new told wrote = on_ok_weaker r (writes-same Was Is old new told) wrote

-- ---- memory

-- no line
pub no-lines : (s : State) (p lines address count : ℕ) → (lines ≡ 0) ⊎ (count ≡ 0) → memory_lines s p lines address count ≡ []
unfolding memory_lines
no-lines s p zero address count none = refl
no-lines s p (suc lines) address count (inl none) = absurd (omega (arith, none))
no-lines s p (suc lines) address count (inr none) = rw (eq-eqb count 0 none) refl

-- the last line below 2^64
pub last-line : (s : State) (p lines address count : ℕ) → 0 < lines → 0 < count → 2 ^ 64 ≤ address + min count 16 → memory_lines s p lines address count ≡ memory_line s p address (min count 16)
unfolding memory_lines
last-line s p zero address count some more at = absurd (omega (arith, some))
last-line s p (suc lines) address count some more at =
    let not_none : ¬ (count ≡ 0) = λ e. absurd (omega (arith, e, more)) in
    rw (ne_eqb count 0 not_none, le-ltb (address + min count 16) (2 ^ 64) at) (append-nil (memory_line s p address (min count 16)))

-- a line with others behind it
pub next-lines : (s : State) (p lines address count : ℕ) → 0 < lines → 0 < count → address + min count 16 < 2 ^ 64
    → memory_lines s p lines address count ≡ memory_line s p address (min count 16) ++ memory_lines s p (lines - 1) (address + min count 16) (count - min count 16)
unfolding memory_lines
next-lines s p zero address count some more at = absurd (omega (arith, some))
next-lines s p (suc lines) address count some more at =
    let not_none : ¬ (count ≡ 0) = λ e. absurd (omega (arith, e, more)) in
    let less : suc lines - 1 ≡ lines = omega arith in
    rw (less, ne_eqb count 0 not_none, lt-ltb (address + min count 16) (2 ^ 64) at) refl

-- a line was written, and the others behind it
pub lines-shown : {T E : Type 0} (r : Result T E) (s : State) (p lines address count here next : ℕ) (old mid new : List ℕ)
    → 0 < lines → 0 < count → here ≡ min count 16 → next ≡ address + here → next < 2 ^ 64
    → mid ≡ old ++ memory_line s p address here → OnOk r (new ≡ mid ++ memory_lines s p (lines - 1) next (count - here)) → OnOk r (new ≡ old ++ memory_lines s p lines address count)
lines-shown r s p lines address count here next old mid new some more is at within first wrote =
    let below : address + min count 16 < 2 ^ 64 = omega (arith, is, at, within) in
    let whole : memory_line s p address here ++ memory_lines s p (lines - 1) next (count - here) ≡ memory_lines s p lines address count =
    rw (next-lines s p lines address count some more below, at, is) refl in
    on_ok_weaker r (λ e. two_behind old mid new (memory_line s p address here) (memory_lines s p (lines - 1) next (count - here)) first e ∙ ap (λ t. old ++ t) whole) wrote

-- or it was the last one
pub last-shown : (s : State) (p lines address count here : ℕ) (old new : List ℕ) → 0 < lines → 0 < count → here ≡ min count 16
    → 2 ^ 64 ≤ address + here → new ≡ old ++ memory_line s p address here → new ≡ old ++ memory_lines s p lines address count
last-shown s p lines address count here old new some more is past first =
    let behind : 2 ^ 64 ≤ address + min count 16 = omega (arith, is, past) in
    rw (last-line s p lines address count some more behind, sym is) first

-- ---- events

-- equal events end where the list does, or before
pub equal-within : (list : List Event) (place count : ℕ) (e : Event) → AreEqualFrom list place (Some (e, count)) → place + count ≤ length list
equal-within list place count e are =
    let long : length (take count (drop place list)) ≡ count = ap length are.1 ∙ length-replicate count e in
    let some = length-take count (drop place list) in
    let rest = length-drop place list in
    omega (arith, long, some, rest, are.0)

-- equal ones, and those right behind them
alike-joined : (a b : ℕ) (e : Event) (xs : List Event) → take a xs ≡ replicate a e → take b (drop a xs) ≡ replicate b e → take (a + b) xs ≡ replicate (a + b) e
alike-joined a b e xs first more =
    ap (take (a + b)) (sym (take-append-drop a xs)) ∙ ap (λ (t : List Event). take (a + b) (t ++ drop a xs)) first
    ∙ ap (λ (k : ℕ). take (k + b) (replicate a e ++ drop a xs)) (sym (length-replicate a e)) ∙ take-append-add (replicate a e) (drop a xs) b
    ∙ ap (λ (t : List Event). replicate a e ++ t) more ∙ replicate-append-replicate a b e

pub equal-joined : (list : List Event) (place a b : ℕ) (e : Event) → AreEqualFrom list place (Some (e, a)) → AreAlike list (place + a) e b → AreEqualFrom list place (Some (e, a + b))
equal-joined list place a b e are more = (omega (arith, are.0), alike-joined a b e (drop place list) are.1 (ap (take b) (drop-drop a place list) ∙ more))

-- so many lines were written
pub no-lines-left : (list : List Event) (lines place : ℕ) → lines ≡ 0 → AreEvents list lines place (more_events (length list) place)
no-lines-left list zero place none = refl
no-lines-left list (suc lines) place none = absurd (omega (arith, none))

-- behind the last one there is none
pub no-events : (list : List Event) (lines place : ℕ) → 0 < lines → length list ≤ place → AreEvents list lines place []
no-events list zero place some past = absurd (omega (arith, some))
no-events list (suc lines) place some past = inl (past, refl)

-- equal events, and those behind them
pub events-next : (list : List Event) (lines place count : ℕ) (e : Event) (rest : List ℕ) → 0 < lines → AreEqualFrom list place (Some (e, count)) → AreEvents list (lines - 1) (place + count) rest
    → AreEvents list lines place (equal_text place count e ++ rest)
events-next list zero place count e rest some are more = absurd (omega (arith, some))
events-next list (suc lines) place count e rest some are more =
    let less : suc lines - 1 ≡ lines = omega arith in
    inr (e, count, rest, are, subst (λ n. AreEvents list n (place + count) rest) less more, refl)

-- ---- shares of RAM

-- so many lines were written
pub no-shares-left : (s : Recorded) (uses : List FrameUse) (lines from : ℕ) (next : Option ℕ) → lines ≡ 0 → IsLeastFrom s.machine.world.state from next → AreShares s uses lines from (more_text next)
no-shares-left s uses zero from next none least = (next, least, refl)
no-shares-left s uses (suc lines) from next none least = absurd (omega (arith, none))

-- no process is left
pub no-shares : (s : Recorded) (uses : List FrameUse) (lines from : ℕ) → 0 < lines → IsLeastFrom s.machine.world.state from None → AreShares s uses lines from []
no-shares s uses zero from some least = absurd (omega (arith, some))
no-shares s uses (suc lines) from some least = inl (least, refl)

-- the next one, and those behind it
pub shares-next : (s : Recorded) (uses : List FrameUse) (lines from p : ℕ) (rest : List ℕ) → 0 < lines → IsLeastFrom s.machine.world.state from (Some p) → AreShares s uses (lines - 1) (p + 1) rest
    → AreShares s uses lines from (share_text s uses p ++ rest)
shares-next s uses zero from p rest some least more = absurd (omega (arith, some))
shares-next s uses (suc lines) from p rest some least more =
    let less : suc lines - 1 ≡ lines = omega arith in
    inr (p, rest, least, subst (λ n. AreShares s uses n (p + 1) rest) less more, refl)
