-- The events of spans, from the first on.
use Rattle.std.proofs.Common.{◌≡◌, ◌≢◌, ℕ, zero, suc, ◌+◌, ◌-◌, ◌<◌, ◌≤◌, List, [], ◌∷◌, ◌++◌, length, take}
use Rattle.std.proofs.Common.{drop, get_or, replicate, min, Option, None, Some, inl, inr, refl, sym, ap, ◌∙◌, subst, arith}
use Rattle.std.specs.Prelude.{slice_get}
use Rattle.std.proofs.lemmas.Bool.{cases_lt}
use Rattle.std.proofs.lemmas.Grind.{flat_map-append}
use Rattle.std.proofs.lemmas.List.{take-append-le, append-nil, append_assoc, length-append, length-replicate, take_all, take-replicate, take_more, take-append-drop, replicate-append-replicate}
use Rattle.std.proofs.Math.Seq.{take-append-add}
use Rattle.kernel_spec.specs.runs.Run.{Event}
use Rattle.xv_machine.specs.Events.{event_of}
use Rattle.xv_machine.proofs.Kept.{drop-none}
use Rattle.xv_session.specs.declared.history.Span.{Span}
use Rattle.xv_session.specs.Spans.{span_events, all_events, Kept, kept, AreApart, Closes, Reopens, next_span}

-- ---- the first elements of two lists

pub take-both : {X : Type 0} (n : ℕ) (xs ys : List X) → take n (xs ++ ys) ≡ take n xs ++ take (n - length xs) ys
take-both n xs ys = elim (cases_lt (length xs) n) [
  | inl lt ↦
      let sum : n ≡ length xs + (n - length xs) = omega (arith, lt) in
      ap (λ k. take k (xs ++ ys)) sum ∙ take-append-add xs ys (n - length xs) ∙ ap (λ zs. zs ++ take (n - length xs) ys) (sym (take_all n xs (omega (arith, lt))))
  | inr ge ↦
      let none : n - length xs ≡ 0 = omega (arith, ge) in
      take-append-le n xs ys ge ∙ sym (append-nil (take n xs)) ∙ ap (λ k. take n xs ++ take k ys) (sym none)
]

pub take-equal : {X : Type 0} (n count : ℕ) (x : X) → take n (replicate count x) ≡ replicate (min count n) x
take-equal n count x = elim (cases_lt count n) [
  | inl lt ↦
      let few : min count n ≡ count = omega (arith, lt) in
      take_all n (replicate count x) (omega (arith, length-replicate count x, lt)) ∙ ap (λ k. replicate k x) (sym few)
  | inr ge ↦
      let few : min count n ≡ n = omega (arith, ge) in
      take-replicate n count x ge ∙ ap (λ k. replicate k x) (sym few)
]

-- ---- spans

pub one-span-more : (spans : List Span) (place : ℕ) (d : Span) → place < length spans → all_events (take (place + 1) spans) ≡ all_events (take place spans) ++ span_events (get_or spans place d)
one-span-more spans place d lt =
    ap all_events (take_more spans place d lt) ∙ flat_map-append span_events (take place spans) (get_or spans place d ∷ [])
    ∙ ap (λ es. all_events (take place spans) ++ es) (append-nil (span_events (get_or spans place d)))

pub long-span : (s : Span) → length (span_events s) ≡ s.count
long-span s = length-replicate s.count (event_of s.event)

-- so many more of the last kind
pub longer : (before : List Event) (count more : ℕ) (e : Event) → before ++ replicate (count + more) e ≡ (before ++ replicate count e) ++ replicate more e
longer before count more e = ap (λ es. before ++ es) (sym (replicate-append-replicate count more e)) ∙ sym (append_assoc before (replicate count e) (replicate more e))

pub all-push : (over : List Span) (s : Span) → all_events (over ++ s ∷ []) ≡ all_events over ++ span_events s
all-push over s = flat_map-append span_events over (s ∷ []) ∙ ap (λ es. all_events over ++ es) (append-nil (span_events s))

-- ---- spans that are apart

next-push : (over : List Span) (s last : Span) → next_span (over ++ s ∷ []) last ≡ next_span over s
next-push [] s last = refl
next-push (x ∷ over) s last = refl

-- one more is over
pub apart-push : (over : List Span) (last s : Span) → AreApart over last → 0 < last.count → event_of s.event ≢ event_of last.event → AreApart (over ++ last ∷ []) s
apart-push [] last s apart some other = (some, other, tt)
apart-push (x ∷ over) last s apart some other = (
  apart.0,
  subst (λ (n : Span). event_of n.event ≢ event_of x.event) (sym (next-push over last s)) apart.1,
  apart-push over last s apart.2 some other,
)

-- the last that is over goes on
pub apart-pop : (over : List Span) (s last : Span) → AreApart (over ++ s ∷ []) last → AreApart over s × (0 < s.count)
apart-pop [] s last apart = (tt, apart.0)
apart-pop (x ∷ over) s last apart =
    let rest = apart-pop over s last apart.2 in
    ((apart.0, subst (λ (n : Span). event_of n.event ≢ event_of x.event) (next-push over s last) apart.1, rest.0), rest.1)

-- the last is of so many
pub apart-count : (over : List Span) (last : Span) (n : ℕ) → AreApart over last → AreApart over (record last { count = n })
apart-count [] last n apart = tt
apart-count (x ∷ []) last n apart = (apart.0, apart.1, tt)
apart-count (x ∷ y ∷ over) last n apart = (apart.0, apart.1, apart-count (y ∷ over) last n apart.2)

-- if the last is empty, the one before it goes on
pub reopens : (old new : List Span) (last s : Span) → old ≡ new ++ s ∷ [] → last.count ≡ 0 → Reopens old last new s
reopens old new last s all none = record {
  events = sym (all-push new s) ∙ ap all_events (sym all) ∙ sym (append-nil (all_events old)) ∙ ap (λ n. all_events old ++ replicate n (event_of last.event)) (sym none);
  apart = λ apart. (apart-pop new s last (subst (λ (o : List Span). AreApart o last) all apart)).0;
  opens = λ apart. inl (apart-pop new s last (subst (λ (o : List Span). AreApart o last) all apart)).1;
}

-- if it isn't, it is over
pub closes : (over new : List Span) (last : Span) → new ≡ over ++ last ∷ [] → 0 < last.count → Closes over last new
closes over new last all some = subst (λ (o : List Span). Closes over last o) (sym all) (record { events = all-push over last; apart = λ s other apart. apart-push over last s apart some other })

-- ---- a history

-- so many events more
pub count-more : (over : List Span) (last : Span) (count more again : ℕ) → count ≡ length (kept over last).events → again ≡ more
    → count + again ≡ length (kept over (record last { count = last.count + more })).events
count-more over last count more again all same =
    let xs = all_events over in
    let e = event_of last.event in
    let was : length (xs ++ replicate last.count e) ≡ length xs + last.count = length-append xs (replicate last.count e) ∙ ap (λ n. length xs + n) (length-replicate last.count e) in
    let is : length (xs ++ replicate (last.count + more) e) ≡ length xs + (last.count + more) =
    length-append xs (replicate (last.count + more) e) ∙ ap (λ n. length xs + n) (length-replicate (last.count + more) e) in
    omega (arith, was, is, all, same)

-- more of the last kind
pub kept-more : (over : List Span) (last : Span) (more : ℕ)
    → kept over (record last { count = last.count + more }) ≡ record
    { events = (kept over last).events ++ replicate more (kept over last).next; next = (kept over last).next }
kept-more over last more = ap (λ (es : List Event). let k : Kept = record { events = es; next = event_of last.event } in k) (longer (all_events over) last.count more (event_of last.event))

-- the events before a place
pub kept-first : (over : List Span) (last : Span) (place : ℕ)
    → take place (kept over last).events ≡ take place (all_events over) ++ replicate (min last.count (place - length (all_events over))) (event_of last.event)
kept-first over last place = take-both place (all_events over) (span_events last)
    ∙ ap (λ es. take place (all_events over) ++ es) (take-equal (place - length (all_events over)) last.count (event_of last.event))

-- the last span is cut, so that the events end at the place
pub cut-last : (over : List Span) (last : Span) (count place : ℕ) → count ≡ length (kept over last).events → place < count → count - place ≤ last.count
    → (place ≡ length (kept over (record last { count = last.count - (count - place) })).events)
    × (take place (kept over (record last { count = last.count - (count - place) })).events ≡ take place (kept over last).events)
cut-last over last count place all before few =
    let xs = all_events over in
    let e = event_of last.event in
    let less = last.count - (count - place) in
    let long : length (xs ++ replicate last.count e) ≡ length xs + last.count = length-append xs (replicate last.count e) ∙ ap (λ n. length xs + n) (length-replicate last.count e) in
    let short : length (xs ++ replicate less e) ≡ length xs + less = length-append xs (replicate less e) ∙ ap (λ n. length xs + n) (length-replicate less e) in
    let ends : place ≡ length (xs ++ replicate less e) = omega (arith, all, long, short, before, few) in
    let parts : replicate last.count e ≡ replicate less e ++ replicate (last.count - less) e =
    ap (λ n. replicate n e) (let sum : last.count ≡ less + (last.count - less) = omega (arith, few) in sum)
    ∙ sym (replicate-append-replicate less (last.count - less) e) in
    let apart : xs ++ replicate last.count e ≡ (xs ++ replicate less e) ++ replicate (last.count - less) e = ap (λ es. xs ++ es) parts
    ∙ sym (append_assoc xs (replicate less e) (replicate (last.count - less) e)) in
    (ends, sym (ap (take place) apart ∙ take-append-le place (xs ++ replicate less e) (replicate (last.count - less) e) (omega (arith, ends))))

-- the last span is cut off
pub cut-off : (old new : List Span) (last s : Span) (count place : ℕ) → old ≡ new ++ s ∷ [] → count ≡ length (kept old last).events → place < count → last.count < count - place
    → (count - last.count ≡ length (kept new s).events) × (take place (kept new s).events ≡ take place (kept old last).events)
cut-off old new last s count place all counted inside past =
    let same : all_events old ≡ (kept new s).events = ap all_events all ∙ all-push new s in
    let long : length (all_events old ++ span_events last) ≡ length (all_events old) + last.count =
    length-append (all_events old) (span_events last) ∙ ap (λ n. length (all_events old) + n) (long-span last) in (
      omega (arith, counted, long, ap length same, past),
      ap (take place) (sym same) ∙ sym (take-append-le place (all_events old) (span_events last) (omega (arith, counted, long, inside, past))),
    )

-- what one more span adds to the events before a place
pub first-more : (spans : List Span) (place most : ℕ) (d : Span) → place < length spans
    → (most - length (all_events (take (place + 1) spans)) ≡ most - length (all_events (take place spans)) - min (get_or spans place d).count (most - length (all_events (take place spans))))
    × (take most (all_events (take (place + 1) spans)) ≡ take most (all_events (take place spans)) ++ replicate
    (min (get_or spans place d).count (most - length (all_events (take place spans)))) (event_of (get_or spans place d).event))
first-more spans place most d lt =
    let xs = all_events (take place spans) in
    let s = get_or spans place d in
    let more : all_events (take (place + 1) spans) ≡ xs ++ span_events s = one-span-more spans place d lt in
    let long : length (all_events (take (place + 1) spans)) ≡ length xs + s.count = ap length more ∙ length-append xs (span_events s) ∙ ap (λ n. length xs + n) (long-span s) in
    (omega (arith, long), ap (take most) more ∙ take-both most xs (span_events s) ∙ ap (λ es. take most xs ++ es) (take-equal (most - length xs) s.count (event_of s.event)))

-- ---- the events from a place on

drop-past : (xs zs : List Event) (b : ℕ) → drop (b + length xs) (xs ++ zs) ≡ drop b zs
drop-past [] zs b = let same : b + 0 ≡ b = omega arith in ap (λ (k : ℕ). drop k zs) same
drop-past (x ∷ xs) zs b = let more : b + suc (length xs) ≡ suc (b + length xs) = omega arith in ap (λ (k : ℕ). drop k (x ∷ (xs ++ zs))) more ∙ drop-past xs zs b

drop-equal : (n b : ℕ) (e : Event) (ys : List Event) → b ≤ n → drop b (replicate n e ++ ys) ≡ replicate (n - b) e ++ ys
drop-equal n zero e ys few = let same : n ≡ n - 0 = omega arith in drop-none (replicate n e ++ ys) ∙ ap (λ (k : ℕ). replicate k e ++ ys) same
drop-equal zero (suc b) e ys few = absurd (omega (arith, few))
drop-equal (suc n) (suc b) e ys few = let same : n - b ≡ suc n - suc b = omega arith in drop-equal n b e ys (omega (arith, few)) ∙ ap (λ (k : ℕ). replicate k e ++ ys) same

take-front : (k : ℕ) (e : Event) (ys : List Event) → take k (replicate k e ++ ys) ≡ replicate k e
take-front k e ys = take-append-le k (replicate k e) ys (omega (arith, length-replicate k e)) ∙ take_all k (replicate k e) (omega (arith, length-replicate k e))

-- equal events behind others: those from the b-th on
pub from-middle : (xs ys : List Event) (n b : ℕ) (e : Event) → b ≤ n → take (n - b) (drop (b + length xs) (xs ++ (replicate n e ++ ys))) ≡ replicate (n - b) e
from-middle xs ys n b e few = ap (take (n - b)) (drop-past xs (replicate n e ++ ys) b ∙ drop-equal n b e ys few) ∙ take-front (n - b) e ys

-- the events of spans, around one of them
pub around : (spans : List Span) (rest : List Event) (at : ℕ) (d : Span) → at < length spans
    → all_events spans ++ rest ≡ all_events (take at spans) ++ (span_events (get_or spans at d) ++ (all_events (drop (at + 1) spans) ++ rest))
around spans rest at d lt =
    let xs = all_events (take at spans) in
    let s = span_events (get_or spans at d) in
    let zs = all_events (drop (at + 1) spans) in
    ap (λ (es : List Event). es ++ rest) (ap all_events (sym (take-append-drop (at + 1) spans))
    ∙ flat_map-append span_events (take (at + 1) spans) (drop (at + 1) spans) ∙ ap (λ (es : List Event). es ++ zs) (one-span-more spans at d lt))
    ∙ append_assoc (xs ++ s) zs rest ∙ append_assoc xs s (zs ++ rest)

-- how many events lie before the last span
pub before-last : (over : List Span) (last : Span) (count : ℕ) → count ≡ length (kept over last).events → length (all_events (take (length over) over)) ≡ count - last.count
before-last over last count counted =
    let whole : length (all_events (take (length over) over)) ≡ length (all_events over) = ap (λ (ss : List Span). length (all_events ss)) (take_all (length over) over (omega arith)) in
    let long : length (all_events over ++ span_events last) ≡ length (all_events over) + last.count =
    length-append (all_events over) (span_events last) ∙ ap (λ n. length (all_events over) + n) (long-span last) in
    omega (arith, whole, long, counted)

-- and before the span before
pub before-next : (over : List Span) (at start : ℕ) (d : Span) → at < length over → length (all_events (take (at + 1) over)) ≡ start
    → length (all_events (take at over)) + (get_or over at d).count ≡ start
before-next over at start d lt is =
    let xs = all_events (take at over) in
    let s = get_or over at d in
    let more : length (all_events (take (at + 1) over)) ≡ length xs + s.count =
    ap length (one-span-more over at d lt) ∙ length-append xs (span_events s) ∙ ap (λ n. length xs + n) (long-span s) in
    sym more ∙ is

-- those behind the spans that are over
pub from-last : (over : List Span) (last : Span) (at before place count : ℕ) → length over ≤ at → before + length (all_events (take at over)) ≡ place
    → count ≡ length (kept over last).events → place < count
    → (before < last.count) × (take (last.count - before) (drop place (kept over last).events) ≡ replicate (last.count - before) (event_of last.event))
from-last over last at before place count all is counted inside =
    let xs = all_events over in
    let there : before + length xs ≡ place = ap (λ (ss : List Span). before + length (all_events ss)) (sym (take_all at over all)) ∙ is in
    let long : length (xs ++ span_events last) ≡ length xs + last.count = length-append xs (span_events last) ∙ ap (λ n. length xs + n) (long-span last) in
    let few : before < last.count = omega (arith, there, long, counted, inside) in (
      few,
      subst (λ (p : ℕ). take (last.count - before) (drop p (xs ++ span_events last)) ≡ replicate (last.count - before) (event_of last.event)) there
          (ap (λ (es : List Event). take (last.count - before) (drop (before + length xs) (xs ++ es))) (sym (append-nil (span_events last)))
          ∙ from-middle xs [] last.count before (event_of last.event) (omega (arith, few))),
    )

-- ---- the event at a place

pub none-there : (list : List Event) (place : ℕ) → length list ≤ place → None ≡ slice_get list place
none-there [] zero past = refl
none-there [] (suc place) past = refl
none-there (x ∷ list) zero past = absurd (omega (arith, past))
none-there (x ∷ list) (suc place) past = none-there list place (omega (arith, past))

pub first-equal : (list : List Event) (place : ℕ) (e : Event) (count : ℕ) → 0 < count → take count (drop place list) ≡ replicate count e → Some e ≡ slice_get list place
first-equal list place e zero some same = absurd (omega (arith, some))
first-equal [] zero e (suc k) some same =
    let no : [] ≡ e ∷ replicate k e = same in
    let bad : ⊥ = cc in
    absurd bad
first-equal [] (suc place) e (suc k) some same =
    let no : [] ≡ e ∷ replicate k e = same in
    let bad : ⊥ = cc in
    absurd bad
first-equal (x ∷ list) zero e (suc k) some same =
    let here : x ∷ take k list ≡ e ∷ replicate k e = same in
    let is : x ≡ e = cc in
    ap Some (sym is)
first-equal (x ∷ list) (suc place) e (suc k) some same = first-equal list place e (suc k) some same

-- ---- the event behind equal ones

past-both : (xs ys : List Event) (k : ℕ) → slice_get (xs ++ ys) (k + length xs) ≡ slice_get ys k
past-both [] ys k = let same : k + 0 ≡ k = omega arith in ap (slice_get ys) same
past-both (x ∷ xs) ys k = let more : k + suc (length xs) ≡ suc (k + length xs) = omega arith in ap (slice_get (x ∷ (xs ++ ys))) more ∙ past-both xs ys k

-- the first of so many equal ones, or of what is behind them
first-of : (n : ℕ) (e f : Event) (rest : List Event) → f ≢ e → slice_get rest 0 ≢ Some e → slice_get (replicate n f ++ rest) 0 ≢ Some e
first-of zero e f rest other none = none
first-of (suc n) e f rest other none = λ is. (let same : f ≡ e = cc in other same)

none-is-some : (e : Event) → ◌≢◌ {A = Option Event} None (Some e)
none-is-some e is = cc

next-other : (over : List Span) (last : Span) (e : Event) → AreApart over last → event_of (next_span over last).event ≢ e → slice_get (all_events over ++ span_events last) 0 ≢ Some e
next-other [] last e apart other = subst (λ es. slice_get es 0 ≢ Some e) (append-nil (span_events last)) (first-of last.count e (event_of last.event) [] other (none-is-some e))
next-other (s ∷ over) last e (some, behind, apart) other = by s.count some
  where
    by : (n : ℕ) → 0 < n → slice_get ((replicate n (event_of s.event) ++ all_events over) ++ span_events last) 0 ≢ Some e
    by zero none = absurd (omega (arith, none))
    by (suc n) some = λ is. (let same : event_of s.event ≡ e = cc in other same)

-- behind the events of a span there is another one, or none
rest-other : (over : List Span) (last : Span) (at : ℕ) (d : Span) → AreApart over last → at < length over
    → slice_get (all_events (drop (at + 1) over) ++ span_events last) 0 ≢ Some (event_of (get_or over at d).event)
rest-other [] last at d apart lt = absurd (omega (arith, lt))
rest-other (s ∷ over) last zero d (some, behind, apart) lt =
    subst (λ (ss : List Span). slice_get (all_events ss ++ span_events last) 0 ≢ Some (event_of s.event)) (sym (drop-none over)) (next-other over last (event_of s.event) apart behind)
rest-other (s ∷ over) last (suc at) d (some, behind, apart) lt =
    let next : suc (at + 1) ≡ suc at + 1 = omega arith in
    subst (λ (n : ℕ). slice_get (all_events (drop n (s ∷ over)) ++ span_events last) 0 ≢ Some (event_of (get_or over at d).event)) next
    (rest-other over last at d apart (omega (arith, lt)))

pub other-there : (over : List Span) (last : Span) (at before place : ℕ) (d : Span) → AreApart over last → at < length over → before + length (all_events (take at over)) ≡ place
    → before < (get_or over at d).count → slice_get (kept over last).events (place + ((get_or over at d).count - before)) ≢ Some (event_of (get_or over at d).event)
other-there over last at before place d apart lt is inside =
    let xs = all_events (take at over) in
    let s = get_or over at d in
    let rest = all_events (drop (at + 1) over) ++ span_events last in
    let end : place + (s.count - before) ≡ s.count + length xs = omega (arith, is, inside) in
    let two : s.count ≡ 0 + length (span_events s) = omega (arith, long-span s) in
    let there : slice_get (kept over last).events (place + (s.count - before)) ≡ slice_get rest 0 =
    ap (slice_get (all_events over ++ span_events last)) end ∙ ap (λ es. slice_get es (s.count + length xs)) (around over (span_events last) at d lt)
    ∙ past-both xs (span_events s ++ rest) s.count ∙ ap (slice_get (span_events s ++ rest)) two ∙ past-both (span_events s) rest 0 in
    λ same. rest-other over last at d apart lt (sym there ∙ same)

-- behind the last span there is none
pub none-behind : (over : List Span) (last : Span) (at before place count : ℕ) → length over ≤ at → before + length (all_events (take at over)) ≡ place
    → count ≡ length (kept over last).events → place < count → slice_get (kept over last).events (place + (last.count - before)) ≢ Some (event_of last.event)
none-behind over last at before place count all is counted inside =
    let xs = all_events over in
    let there : before + length xs ≡ place = ap (λ (ss : List Span). before + length (all_events ss)) (sym (take_all at over all)) ∙ is in
    let long : length (xs ++ span_events last) ≡ length xs + last.count = length-append xs (span_events last) ∙ ap (λ n. length xs + n) (long-span last) in
    λ same. none-is-some (event_of last.event) (none-there (xs ++ span_events last) (place + (last.count - before)) (omega (arith, there, long, counted, inside)) ∙ same)
