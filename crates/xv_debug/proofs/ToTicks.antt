-- How many events there are up to a Tick, stretch by stretch of equal ones.
use Rattle.std.proofs.Common.{◌≡◌, ◌∙◌, ◌+◌, ◌-◌, ◌<◌, ◌≤◌, ℕ, zero, suc, Bool, true, false, List, [], ◌∷◌, length, drop, refl, sym, ap, arith, drop-cons}
use Rattle.std.specs.Prelude.{if◌then◌else◌}
use Rattle.std.proofs.lemmas.List.{drop_all}
use Rattle.std.proofs.lemmas.Option.{unwrap_or-slice_get}
use Rattle.kernel_spec.specs.runs.Run.{Event, Send}
use Rattle.recordings.specs.Recording.{event_among}
use Rattle.xv_debug.specs.motion.Clock.{events_to_tick, is_tick}

none-of-none : (number : ℕ) → events_to_tick number [] ≡ 0
none-of-none zero = refl
none-of-none (suc n) = refl

-- none at a place beyond the last
pub none-left : (list : List Event) (place number : ℕ) → length list ≤ place → events_to_tick number (drop place list) ≡ 0
none-left list place number over = ap (events_to_tick number) (drop_all place list over) ∙ none-of-none number

-- none up to no Tick
pub none-asked : (list : List Event) (number : ℕ) → number ≡ 0 → events_to_tick number list ≡ 0
none-asked list number is = rw is refl

-- those from a place on, of which the first is a Tick or not
abbrev from : List Event → (place n : ℕ) → Bool → ℕ
from list place n b = suc (events_to_tick (if b then n else suc n) (drop (suc place) list))

one-more : (list : List Event) (place n : ℕ) → place < length list → events_to_tick (suc n) (drop place list) ≡ from list place n (is_tick (event_among list place))
one-more list place n there =
    ap (events_to_tick (suc n))
    (drop-cons list place Send there ∙ ap (λ (e : Event). e ∷ drop (suc place) list) (sym (unwrap_or-slice_get list place Send)))

-- so many events from a place on are Ticks, or none of them is one
abbrev pub AreTicks : List Event → (place count : ℕ) → Bool → Type 0
AreTicks list place count b = (k : ℕ) → k < count → is_tick (event_among list (place + k)) ≡ b

first-is : (list : List Event) (place count : ℕ) (b : Bool) → AreTicks list place (suc count) b → is_tick (event_among list place) ≡ b
first-is list place count b all = let here : place + 0 ≡ place = omega arith in rw (sym here) (all 0 (omega arith))

others-are : (list : List Event) (place count : ℕ) (b : Bool) → AreTicks list place (suc count) b → AreTicks list (suc place) count b
others-are list place count b all = λ k less. (let same : suc place + k ≡ place + suc k = omega arith in rw same (all (suc k) (omega (arith, less))))

-- so many Ticks are as many of those that are looked for
pub past-ticks : (list : List Event) (count place left : ℕ) → place + count ≤ length list → count ≤ left → AreTicks list place count true
    → events_to_tick left (drop place list) ≡ count + events_to_tick (left - count) (drop (place + count) list)
past-ticks list zero place left within few ticks =
    let here : place + 0 ≡ place = omega arith in
    let all : left - 0 ≡ left = omega arith in
    rw (here, all) (omega arith)
past-ticks list (suc n) place zero within few ticks = absurd (omega (arith, few))
past-ticks list (suc n) place (suc m) within few ticks =
    let there : place + suc n ≡ suc place + n = omega arith in
    let start : events_to_tick (suc m) (drop place list) ≡ suc (events_to_tick m (drop (suc place) list)) =
    one-more list place m (omega (arith, within)) ∙ ap (from list place m) (first-is list place n true ticks) in
    let rest = past-ticks list n (suc place) m (omega (arith, within)) (omega (arith, few)) (others-are list place n true ticks) in
    let less : suc m - suc n ≡ m - n = omega arith in
    rw (there, less) (omega (arith, start, rest))

-- of other events none
pub past-others : (list : List Event) (count place left : ℕ) → place + count ≤ length list → 0 < left → AreTicks list place count false
    → events_to_tick left (drop place list) ≡ count + events_to_tick left (drop (place + count) list)
past-others list zero place left within some others = let here : place + 0 ≡ place = omega arith in rw here (omega arith)
past-others list (suc c) place zero within some others = absurd (omega (arith, some))
past-others list (suc c) place (suc n) within some others =
    let there : place + suc c ≡ suc place + c = omega arith in
    let start : events_to_tick (suc n) (drop place list) ≡ suc (events_to_tick (suc n) (drop (suc place) list)) =
    one-more list place n (omega (arith, within)) ∙ ap (from list place n) (first-is list place c false others) in
    let next = past-others list c (suc place) (suc n) (omega (arith, within)) some (others-are list place c false others) in
    rw there (omega (arith, start, next))
