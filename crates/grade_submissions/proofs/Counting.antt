-- How many events of rounds are Runs.
use Rattle.std.proofs.Common.{◌≡◌, ◌∙◌, ℕ, ◌+◌, ◌*◌, ◌<◌, ◌≤◌, arith, List, [], ◌∷◌, ◌++◌, length, take, drop, get_or, replicate, sym, ap}
use Rattle.std.proofs.lemmas.Grind.{flat_map-append}
use Rattle.std.proofs.lemmas.List.{take-append-drop}
use Rattle.std.proofs.lemmas.List.Folds.{sum_by-replicate}
use Rattle.std.proofs.lemmas.List.Sums.{sum_by-append}
use Rattle.xk_base.specs.declared.limits.TheConstants.{SEND_BYTES}
use Rattle.kernel_spec.specs.runs.Run.{Event, Run, Tick, Send}
use Rattle.kernel_spec.specs.runs.Rounds.{key_events, round}
use Rattle.xv_machine.specs.Events.{event_of}
use Rattle.xv_machine.specs.RoundParts.{events_of_part, events_of_parts}
use Rattle.xv_machine.specs.declared.parts.RoundPart.{RoundPart}
use Rattle.xv_machine.proofs.PlayedParts.{parts-more, parts-all, parts-around}
use Rattle.grade_submissions.specs.Plays.{runs_in, runs_among}

joined : (xs ys : List Event) → runs_among (xs ++ ys) ≡ runs_among xs + runs_among ys
joined xs ys = sum_by-append runs_in xs ys

often : (n : ℕ) (e : Event) → runs_among (replicate n e) ≡ n * runs_in e
often n e = sum_by-replicate runs_in n e

no-keys : (keys : List ℕ) → runs_among (key_events keys) ≡ 0
no-keys [] = omega arith
no-keys (b ∷ bs) = omega arith

-- a round of so many Sends has so many
runs-of : (quantum sends : ℕ) (keys : List ℕ) → runs_among ((key_events keys ++ replicate quantum Run) ++ (Tick ∷ replicate sends Send)) ≡ quantum
runs-of quantum sends keys =
    let later : List Event = Tick ∷ replicate sends Send in
    let first : runs_among ((key_events keys ++ replicate quantum Run) ++ later) ≡ runs_among (key_events keys ++ replicate quantum Run) + runs_among later =
    joined (key_events keys ++ replicate quantum Run) later in
    let rest : runs_among (key_events keys ++ replicate quantum Run) ≡ runs_among (key_events keys) + runs_among (replicate quantum Run) = joined (key_events keys) (replicate quantum Run) in
    let tick : runs_among later ≡ runs_among (Tick ∷ []) + runs_among (replicate sends Send) = joined (Tick ∷ []) (replicate sends Send) in
    let no_tick : runs_among (Tick ∷ []) ≡ 0 = omega arith in
    let runs : runs_among (replicate quantum Run) ≡ quantum * 1 = often quantum Run in
    let none : runs_among (replicate sends Send) ≡ sends * 0 = often sends Send in
    let no_key : runs_among (key_events keys) ≡ 0 = no-keys keys in
    omega (arith, first, rest, tick, no_tick, runs, none, no_key)

pub runs-round : (quantum : ℕ) (keys : List ℕ) → runs_among (round quantum keys) ≡ quantum
runs-round quantum keys = runs-of quantum SEND_BYTES keys

module _ (parts : List RoundPart) (i : ℕ) (d : RoundPart) (below : i < length parts) where
  -- the first parts, one more
  pub runs-more : runs_among (events_of_parts (take (i + 1) parts)) ≡ runs_among (events_of_parts (take i parts)) + (get_or parts i d).count * runs_in (event_of (get_or parts i d).event)
  runs-more =
      ap runs_among (parts-more parts i d below) ∙ (joined (events_of_parts (take i parts)) (events_of_part (get_or parts i d))
      ∙ ap (λ (n : ℕ). runs_among (events_of_parts (take i parts)) + n) (often (get_or parts i d).count (event_of (get_or parts i d).event)))

  -- they have no more than all parts
  pub runs-within : runs_among (events_of_parts (take i parts)) + (get_or parts i d).count * runs_in (event_of (get_or parts i d).event) ≤ runs_among (events_of_parts parts)
  runs-within =
      let all : runs_among (events_of_parts parts)
      ≡ runs_among (events_of_parts (take i parts) ++ events_of_part (get_or parts i d)) + runs_among (events_of_parts (drop (i + 1) parts)) =
      ap runs_among (sym (parts-around parts i d below)) ∙ joined (events_of_parts (take i parts) ++ events_of_part (get_or parts i d)) (events_of_parts (drop (i + 1) parts)) in
      let front : runs_among (events_of_parts (take i parts) ++ events_of_part (get_or parts i d)) ≡ runs_among (events_of_parts (take (i + 1) parts)) =
      ap runs_among (sym (parts-more parts i d below)) in
      let more = runs-more in
      omega (arith, all, front, more)

-- so many of the first parts that they are all
pub runs-all : (parts : List RoundPart) (i : ℕ) → length parts ≤ i → runs_among (events_of_parts (take i parts)) ≡ runs_among (events_of_parts parts)
runs-all parts i all = ap runs_among (parts-all parts i all)

-- the first parts and the rest
pub parts-split : (parts : List RoundPart) (i : ℕ) → events_of_parts (take i parts) ++ events_of_parts (drop i parts) ≡ events_of_parts parts
parts-split parts i = sym (flat_map-append events_of_part (take i parts) (drop i parts)) ∙ ap events_of_parts (take-append-drop i parts)

-- the first parts have no more than all
pub runs-first : (parts : List RoundPart) (i : ℕ) → runs_among (events_of_parts (take i parts)) ≤ runs_among (events_of_parts parts)
runs-first parts i =
    let all : runs_among (events_of_parts parts) ≡ runs_among (events_of_parts (take i parts)) + runs_among (events_of_parts (drop i parts)) =
    ap runs_among (sym (parts-split parts i)) ∙ joined (events_of_parts (take i parts)) (events_of_parts (drop i parts)) in
    omega (arith, all)
