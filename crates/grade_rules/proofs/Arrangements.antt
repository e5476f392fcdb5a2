-- Arrangements that are made step by step, and why no other has lower places.
use Rattle.std.proofs.Common.{◌≡◌, ℕ, ◌<◌, ◌≤◌, ◌⊎◌, inl, inr, List, [], ◌∷◌, ◌++◌, length, take, get_or, sym, ◌∙◌, arith}
use Rattle.std.proofs.lemmas.List.{get_or_append_left, get_or_push, take-append-le, length-take-le, get_or-take, length_push}
use Rattle.std.proofs.lemmas.Bool.{cases_lt}
use Rattle.std.proofs.Math.Seq.{take-append_seam}
use Rattle.grade_rules.specs.declared.note.Note.{Note}
use Rattle.grade_rules.specs.declared.order.Edge.{Edge}
use Rattle.grade_rules.specs.declared.pattern.Pattern.{Pattern}
use Rattle.grade_rules.specs.Rules.{StandsAt, IsBehind, IsArrangement, step_at, edge_at}

-- a place behind one that is behind the others is behind them too
pub behind_more : (edges : List Edge) (places : List ℕ) (start place : ℕ) → IsBehind edges places start → start ≤ place → IsBehind edges places place
behind_more edges places start place behind more k within same before =
    let under = behind k within same before in omega (arith, under, more)

-- with one place more, the places before stay
same_before : (places : List ℕ) (place k : ℕ) → k < length places → get_or (places ++ place ∷ []) k 0 ≡ get_or places k 0
same_before places place k within = get_or_append_left places (place ∷ []) 0 k within

-- with one place more at its end
at_end : (places : List ℕ) (place k : ℕ) → k ≡ length places → get_or (places ++ place ∷ []) k 0 ≡ place
at_end places place k is = get_or_push places place 0 k (sym is)

-- which place is meant, of one place more
place_cases : (places : List ℕ) (place k : ℕ) → k < length (places ++ place ∷ []) → (k < length places) ⊎ (k ≡ length places)
place_cases places place k within =
    let count = length_push places place in
    elim (cases_lt k (length places)) [
      | inl less ↦ inl less
      | inr not_less ↦ inr (omega (arith, count, within, not_less))
    ]

-- a note behind the places before it makes an arrangement longer
pub step_more : (steps : List Pattern) (edges : List Edge) (notes : List Note) (places : List ℕ) (start place : ℕ)
    → IsArrangement steps edges notes places → length places < length steps
    → StandsAt (step_at steps (length places)) notes place → IsBehind edges places start → start ≤ place
    → IsArrangement steps edges notes (places ++ place ∷ [])
step_more steps edges notes places start place here room stands behind more = record {
  few = let count = length_push places place in omega (arith, count, room);
  stand = λ k within. elim (place_cases places place k within) [
    | inl less ↦ rw (same_before places place k less) (here.stand k less)
    | inr is ↦ rw (at_end places place k is) (rw is stands)
  ];
  ordered = λ k within. elim (place_cases places place k within) [
    | inl less ↦
        let under : k ≤ length places = omega (arith, less) in
        rw (same_before places place k less, take-append-le k places (place ∷ []) under) (here.ordered k less)
    | inr is ↦ rw (at_end places place k is, is, take-append_seam places (place ∷ [])) (behind_more edges places start place behind more)
  ];
}

-- what is behind the places of every arrangement that has a further place
pub start_below : (steps : List Pattern) (edges : List Edge) (notes : List Note) (places : List ℕ) (start : ℕ)
    → ((other : List ℕ) → IsArrangement steps edges notes other → length places ≤ length other → (k : ℕ) → k < length places → get_or places k 0 ≤ get_or other k 0)
    → ((place : ℕ) → IsBehind edges places place → start ≤ place)
    → (other : List ℕ) → IsArrangement steps edges notes other → length places < length other
    → start ≤ get_or other (length places) 0
start_below steps edges notes places start least lowest other arranged more =
    let n = length places in
    let under : n ≤ length other = omega (arith, more) in
    let count : length (take n other) ≡ n = length-take-le n other under in
    lowest (get_or other n 0) (λ k within same before.
    let early : (edge_at edges k).before < length (take n other) = rw count before in
    let here : get_or (take n other) (edge_at edges k).before 0 < get_or other n 0 = arranged.ordered n more k within (same ∙ sym count) early in
    let read : get_or (take n other) (edge_at edges k).before 0 ≡ get_or other (edge_at edges k).before 0 = get_or-take n other (edge_at edges k).before 0 before in
    let low = least other arranged under (edge_at edges k).before before in
    omega (arith, here, read, low))

-- of all arrangements the places stay the lowest, where no note before the new place fits
pub least_more : (steps : List Pattern) (edges : List Edge) (notes : List Note) (places : List ℕ) (start place : ℕ)
    → ((other : List ℕ) → IsArrangement steps edges notes other → length places ≤ length other → (k : ℕ) → k < length places → get_or places k 0 ≤ get_or other k 0)
    → ((behind : ℕ) → IsBehind edges places behind → start ≤ behind)
    → ((k : ℕ) → start ≤ k → k < place → ¬ (StandsAt (step_at steps (length places)) notes k))
    → (other : List ℕ) → IsArrangement steps edges notes other → length (places ++ place ∷ []) ≤ length other
    → (k : ℕ) → k < length (places ++ place ∷ []) → get_or (places ++ place ∷ []) k 0 ≤ get_or other k 0
least_more steps edges notes places start place least lowest none other arranged long_other k within =
    let count = length_push places place in
    let more : length places < length other = omega (arith, count, long_other) in
    let under : length places ≤ length other = omega (arith, more) in
    elim (place_cases places place k within) [
      | inl less ↦ rw (same_before places place k less) (least other arranged under k less)
      | inr is ↦ rw (at_end places place k is, is)
          (let low = start_below steps edges notes places start least lowest other arranged more in
          elim (cases_lt (get_or other (length places) 0) place) [
            | inl before ↦ absurd (none (get_or other (length places) 0) low before (arranged.stand (length places) more))
            | inr not_before ↦ not_before
          ])
    ]

-- where no note fits behind the places before it, no arrangement is longer
pub no_more : (steps : List Pattern) (edges : List Edge) (notes : List Note) (places : List ℕ) (start : ℕ)
    → ((other : List ℕ) → IsArrangement steps edges notes other → length places ≤ length other → (k : ℕ) → k < length places → get_or places k 0 ≤ get_or other k 0)
    → ((behind : ℕ) → IsBehind edges places behind → start ≤ behind)
    → ((k : ℕ) → start ≤ k → ¬ (StandsAt (step_at steps (length places)) notes k))
    → (other : List ℕ) → IsArrangement steps edges notes other → length other ≤ length places
no_more steps edges notes places start least lowest none other arranged =
    elim (cases_lt (length places) (length other)) [
      | inl more ↦
          let low = start_below steps edges notes places start least lowest other arranged more in
          absurd (none (get_or other (length places) 0) low (arranged.stand (length places) more))
      | inr not_more ↦ not_more
    ]
