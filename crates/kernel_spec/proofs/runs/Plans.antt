-- Rounds, plans, and plans that are cut off.
use Rattle.kernel_spec.proofs.Prelude.{[], ℕ, ◌++◌, ◌+◌, ◌-◌, ◌<◌, ◌||◌, ◌∙◌, ◌∷◌, ◌≡◌, ◌≤◌, ◌⊎◌, ap, append_assoc, AreRounds, arith, Bool, drop, EndsInRound, Event, events, false, halted_by, halts}
use Rattle.kernel_spec.proofs.Prelude.{Idle, inl, inr, is_some, List, list_any-append, map, map-append, Outcome, Planned, refl, round, subst, suc, suc-add, sym, true, zero, zero-add}
use Rattle.kernel_spec.specs.laws.RoundLaws.{RoundsThenPlan, StopsThenPlan, RoundsFollowRounds, PlanGoesByRounds, CutEndsInRound}
use Rattle.kernel_spec.proofs.Common.{or_false, or_assoc}

abbrev Played : Type 0
Played = List (Event × Outcome)

-- ---- words

either_halts : (xs ys : Played) → halts (xs ++ ys) ≡ (halts xs || halts ys)
either_halts xs ys = list_any-append (λ (e : Event × Outcome). is_some (halted_by e.1)) xs ys

abbrev no_keys : List ℕ
no_keys = []

drop_nothing : (n : ℕ) → drop n no_keys ≡ no_keys
drop_nothing zero = refl
drop_nothing (suc n) = refl

-- one key more
drop_next : (n : ℕ) (keys : List ℕ) → drop n (drop 1 keys) ≡ drop (suc n) keys
drop_next n [] = drop_nothing n
drop_next n (k ∷ keys) = refl

-- ---- rounds, and what comes behind them

pub rounds_follow_rounds : RoundsFollowRounds
rounds_follow_rounds zero further quantum keys halted list more are plan =
    subst (λ (n : ℕ). AreRounds n quantum keys halted (list ++ more)) (sym (zero-add further))
    (subst (λ (xs : Played). AreRounds further quantum keys halted (xs ++ more)) (sym are)
    (subst (λ (b : Bool). AreRounds further quantum keys b more) (ap (λ (xs : Played). halted || halts xs) are ∙ sym (or_false halted)) plan))
rounds_follow_rounds (suc count) further quantum keys true list more are plan = absurd are
rounds_follow_rounds (suc count) further quantum keys false list more are plan =
    let behind : AreRounds further quantum (drop count (drop 1 keys)) (halts are.0 || halts are.1) more =
    subst (λ (b : Bool). AreRounds further quantum (drop count (drop 1 keys)) b more) (ap halts are.2 ∙ either_halts are.0 are.1)
    (subst (λ (ks : List ℕ). AreRounds further quantum ks (halts list) more) (sym (drop_next count keys)) plan) in
    subst (λ (n : ℕ). AreRounds n quantum keys false (list ++ more)) (sym (suc-add count further)) (
      are.0,
      are.1 ++ more,
      ap (λ (xs : Played). xs ++ more) are.2
          ∙ append_assoc are.0 are.1 more,
      are.3,
      rounds_follow_rounds count further quantum (drop 1 keys) (halts are.0) are.1 more are.4 behind,
    )

pub rounds_then_plan : RoundsThenPlan
rounds_then_plan count rounds quantum keys halted list more are (further, within, behind, end) = (
  count + further,
  omega (arith, within),
  rounds_follow_rounds count further quantum keys halted list more are behind,
  elim end [
    | inl all ↦ inl (ap (λ (n : ℕ). count + n) all)
    | inr over ↦ inr (ap (λ (b : Bool). halted || b) (either_halts list more) ∙ sym (or_assoc halted (halts list) (halts more)) ∙ over)
  ],
)

pub stops_then_plan : StopsThenPlan
stops_then_plan rounds quantum keys halted list more (count, fewer, are, on) plan =
    let all : count + (rounds - count) ≡ rounds = omega (arith, fewer) in
    subst (λ (n : ℕ). Planned n quantum keys halted (list ++ more)) all
    (rounds_then_plan count (rounds - count) quantum keys halted list more are (subst (λ (b : Bool). Planned (rounds - count) quantum (drop count keys) b more) (sym on) plan))

-- ---- a plan, round by round

abbrev OneThenPlan : (rounds quantum : ℕ) (keys : List ℕ) → Played → Type 0
OneThenPlan rounds quantum keys list = (now : Played) × (later : Played) × (list ≡ now ++ later) × (events now ≡ round quantum keys) × Planned rounds quantum (drop 1 keys) (halts now) later

halted_plan : (count quantum : ℕ) (keys : List ℕ) (list : Played) → AreRounds count quantum keys true list → list ≡ []
halted_plan zero quantum keys list are = are
halted_plan (suc count) quantum keys list are = absurd are

no_round : (count quantum : ℕ) (keys : List ℕ) (list : Played) → count ≤ 0 → AreRounds count quantum keys false list → list ≡ []
no_round zero quantum keys list within are = are
no_round (suc count) quantum keys list within are = absurd (omega (arith, within))

none_halts : (list : Played) → list ≡ [] → halts list ≡ true → ⊥
none_halts list none over = let bad : halts [] ≡ true = ap halts (sym none) ∙ over in cc

not_none : (rounds : ℕ) → 0 ≡ suc rounds → ⊥
not_none rounds h = omega (arith, h)

first_round : (count rounds quantum : ℕ) (keys : List ℕ) (list : Played) → count ≤ suc rounds → AreRounds count quantum keys false list
    → (count ≡ suc rounds) ⊎ (halts list ≡ true) → OneThenPlan rounds quantum keys list
first_round zero rounds quantum keys list within are (inl all) = absurd (not_none rounds all)
first_round zero rounds quantum keys list within are (inr over) = absurd (none_halts list are over)
first_round (suc count) rounds quantum keys list within (now, later, is, played, are) (inl all) = (now, later, is, played, (count, omega (arith, within), are, inl (omega (arith, all))))
first_round (suc count) rounds quantum keys list within (now, later, is, played, are) (inr over) =
    (now, later, is, played, (count, omega (arith, within), are, inr (sym (either_halts now later) ∙ ap halts (sym is) ∙ over)))

round_before : (rounds quantum : ℕ) (keys : List ℕ) (list : Played) → OneThenPlan rounds quantum keys list → Planned (suc rounds) quantum keys false list
round_before rounds quantum keys list (now, later, is, played, (count, within, are, end)) = (
  suc count,
  omega (arith, within),
  (now, later, is, played, are),
  elim end [
    | inl all ↦ inl (ap suc all)
    | inr over ↦ inr (ap halts is ∙ either_halts now later ∙ over)
  ],
)

none_planned : (rounds quantum : ℕ) (keys : List ℕ) (list : Played) → list ≡ [] → Planned rounds quantum keys true list
none_planned rounds quantum keys list none = (0, omega arith, none, inr refl)

pub plan_goes_by_rounds : PlanGoesByRounds
plan_goes_by_rounds rounds quantum keys list = (
  (λ (count, within, are, end). halted_plan count quantum keys list are, none_planned rounds quantum keys list),
  (λ (count, within, are, end). no_round count quantum keys list within are, λ none. (0, omega arith, none, inl refl)),
  (λ (count, within, are, end). first_round count rounds quantum keys list within are end, round_before rounds quantum keys list),
)

-- ---- a plan that is cut off

-- each event gives nothing
idle : List Event → Played
idle es = map (λ e. (e, Idle)) es

events_idle : (es : List Event) → events (idle es) ≡ es
unfolding idle
events_idle [] = refl
events_idle (e ∷ es) = ap (λ (xs : List Event). e ∷ xs) (events_idle es)

-- whatever came before, something is planned
some_plan : (rounds quantum : ℕ) (keys : List ℕ) (halted : Bool) → (list : Played) × Planned rounds quantum keys halted list
some_plan rounds quantum keys true = ([], none_planned rounds quantum keys [] refl)
some_plan zero quantum keys false = ([], (0, omega arith, refl, inl refl))
some_plan (suc rounds) quantum keys false =
    let now : Played = idle (round quantum keys) in
    let rest = some_plan rounds quantum (drop 1 keys) (halts now) in
    (now ++ rest.0, round_before rounds quantum keys (now ++ rest.0) (now, rest.0, refl, events_idle (round quantum keys), rest.1))

rest_after : (count rounds : ℕ) → count < rounds → (further : ℕ) × (count + suc further ≡ rounds)
rest_after count rounds less = (rounds - count - 1, omega arith)

part_is_cut : (rounds quantum : ℕ) (keys : List ℕ) (halted : Bool) (list : Played) (last : Event × Outcome) → EndsInRound rounds quantum keys halted list last
    → (begun : Played) × (more : Played) × (list ≡ begun ++ last ∷ []) × Planned rounds quantum keys halted (list ++ more)
part_is_cut rounds quantum keys halted list last (count, before, part, rest, is, less, are, on, played) =
    let further = rest_after count rounds less in
    let now : Played = (part ++ last ∷ []) ++ idle rest in
    let whole : events now ≡ round quantum (drop count keys) = map-append (λ (e : Event × Outcome). e.0) (part ++ last ∷ []) (idle rest)
    ∙ ap (λ (es : List Event). events (part ++ last ∷ []) ++ es) (events_idle rest) ∙ played in
    let behind = some_plan further.0 quantum (drop 1 (drop count keys)) (halts now) in
    let plan : Planned (suc further.0) quantum (drop count keys) (halted || halts before) (now ++ behind.0) =
    subst (λ (b : Bool). Planned (suc further.0) quantum (drop count keys) b (now ++ behind.0)) (sym on)
    (round_before further.0 quantum (drop count keys) (now ++ behind.0) (now, behind.0, refl, whole, behind.1)) in
    let all : Planned (count + suc further.0) quantum keys halted (before ++ (now ++ behind.0)) = rounds_then_plan count (suc further.0) quantum keys halted before (now ++ behind.0) are plan in
    let same : before ++ (now ++ behind.0) ≡ list ++ (idle rest ++ behind.0) =
    ap (λ (xs : Played). before ++ xs) (append_assoc (part ++ last ∷ []) (idle rest) behind.0)
    ∙ sym (append_assoc before (part ++ last ∷ []) (idle rest ++ behind.0)) ∙ ap (λ (xs : Played). xs ++ (idle rest ++ behind.0)) (sym is) in (
      before ++ part,
      idle rest ++ behind.0,
      is ∙ sym (append_assoc before part (last ∷ [])),
      subst (λ (xs : Played). Planned rounds quantum keys halted xs) same (subst (λ (n : ℕ). Planned n quantum keys halted (before ++ (now ++ behind.0))) further.1 all),
    )

-- two ways to cut a list: a whole first part, or a first part that ends behind the place
split : (before now later more : Played) (last : Event × Outcome) → before ++ last ∷ more ≡ now ++ later
    → ((d : Played) × (before ≡ now ++ d) × (later ≡ d ++ last ∷ more)) ⊎ ((d : Played) × (now ≡ before ++ last ∷ d))
split before [] later more last e = inl (before, refl, sym e)
split [] (x ∷ now) later more last e = inr (now, λ i. heads i ∷ now)
  where
    heads : x ≡ last
    heads = cc
split (b ∷ before) (x ∷ now) later more last e = elim (split before now later more last tails) [
  | inl h ↦ inl (h.0, ap (λ (xs : Played). b ∷ xs) h.1 ∙ (λ i. heads i ∷ now ++ h.0), h.2)
  | inr h ↦ inr (h.0, (λ i. sym heads i ∷ now) ∙ ap (λ (xs : Played). b ∷ xs) h.1)
]
  where
    heads : b ≡ x
    heads = cc

    tails : before ++ last ∷ more ≡ now ++ later
    tails = cc

not_empty : (xs more : Played) (last : Event × Outcome) → xs ++ last ∷ more ≡ [] → ⊥
not_empty [] more last e = cc
not_empty (x ∷ xs) more last e = cc

ends_in_round : (rounds quantum : ℕ) (keys : List ℕ) (halted : Bool) (before more : Played) (last : Event × Outcome) → AreRounds rounds quantum keys halted (before ++ last ∷ more)
    → EndsInRound rounds quantum keys halted (before ++ last ∷ []) last
ends_in_round zero quantum keys halted before more last are = absurd (not_empty before more last are)
ends_in_round (suc rounds) quantum keys true before more last are = absurd are
ends_in_round (suc rounds) quantum keys false before more last (now, later, is, played, rest) = elim (split before now later more last is) [
  | inl h ↦ behind h (ends_in_round rounds quantum (drop 1 keys) (halts now) h.0 more last (subst (λ (xs : Played). AreRounds rounds quantum (drop 1 keys) (halts now) xs) h.2 rest))
  | inr h ↦ (
    0,
    [],
    before,
    events h.0,
    refl,
    omega arith,
    refl,
    refl,
    sym (map-append (λ (e : Event × Outcome). e.0) (before ++ last ∷ []) h.0) ∙ ap events (append_assoc before (last ∷ []) h.0) ∙ ap events (sym h.1) ∙ played,
  )
]
  where
    behind : (h : (d : Played) × (before ≡ now ++ d) × (later ≡ d ++ last ∷ more))
        → EndsInRound rounds quantum (drop 1 keys) (halts now) (h.0 ++ last ∷ []) last → EndsInRound (suc rounds) quantum keys false (before ++ last ∷ []) last
    behind h (count, first, part, left, same, less, are, on, begun) = (
      suc count,
      now ++ first,
      part,
      left,
      ap (λ (xs : Played). xs ++ last ∷ []) h.1 ∙ append_assoc now h.0 (last ∷ []) ∙ ap (λ (xs : Played). now ++ xs) same ∙ sym (append_assoc now first (part ++ last ∷ [])),
      omega arith,
      (now, first, refl, played, are),
      either_halts now first ∙ on,
      begun ∙ ap (round quantum) (drop_next count keys),
    )

-- more rounds may be allowed
more_allowed : (count rounds quantum : ℕ) (keys : List ℕ) (halted : Bool) (list : Played) (last : Event × Outcome) → count ≤ rounds
    → EndsInRound count quantum keys halted list last → EndsInRound rounds quantum keys halted list last
more_allowed count rounds quantum keys halted list last within (some, before, part, rest, is, less, are, on, played) = (some, before, part, rest, is, omega (arith, within, less), are, on, played)

pub cut_ends_in_round : CutEndsInRound
cut_ends_in_round rounds quantum keys halted list last = (
  λ (before, more, is, (count, within, are, end)). more_allowed count rounds quantum keys halted list last within (subst (λ (xs : Played). EndsInRound count quantum keys halted xs last) (sym is)
      (ends_in_round count quantum keys halted before more last
      (subst (λ (xs : Played). AreRounds count quantum keys halted xs) (ap (λ (xs : Played). xs ++ more) is ∙ append_assoc before (last ∷ []) more) are))),
  part_is_cut rounds quantum keys halted list last,
)
