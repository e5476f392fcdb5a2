-- Rounds and plans, taken apart and put together.
use Rattle.std.specs.Prelude.{◌≡◌, ℕ, suc, ◌+◌, ◌-◌, ◌↔◌, Bool, true, false, ◌||◌, List, [], ◌∷◌, ◌++◌, drop}
use Rattle.kernel_spec.specs.runs.Run.{Event, Outcome}
use Rattle.kernel_spec.specs.runs.Rounds.{round, events, halts, AreRounds, Planned, StopsBeforeRound, EndsInRound}

-- so many rounds, and a plan for the rest, are a plan
abbrev pub RoundsThenPlan : Type 0
RoundsThenPlan =
    (count rounds quantum : ℕ) (keys : List ℕ) (halted : Bool) (list more : List (Event × Outcome)) → AreRounds count quantum keys halted list → Planned rounds quantum (drop count keys) (halted || halts list) more
    → Planned (count + rounds) quantum keys halted (list ++ more)

-- rounds behind rounds are rounds
abbrev pub RoundsFollowRounds : Type 0
RoundsFollowRounds =
    (count further quantum : ℕ) (keys : List ℕ) (halted : Bool) (list more : List (Event × Outcome)) → AreRounds count quantum keys halted list → AreRounds further quantum (drop count keys) (halted || halts list) more
    → AreRounds (count + further) quantum keys halted (list ++ more)

-- what a driver has played that gives up before a round, and a plan for the rounds that are left, are a plan
abbrev pub StopsThenPlan : Type 0
StopsThenPlan =
    (rounds quantum : ℕ) (keys : List ℕ) (halted : Bool) (list more : List (Event × Outcome)) → (stops : StopsBeforeRound rounds quantum keys halted list) → Planned (rounds - stops.0) quantum (drop stops.0 keys) false more
    → Planned rounds quantum keys halted (list ++ more)

-- a plan, round by round: nothing, where no round may begin; and else a round, behind which a plan has one round fewer
abbrev pub PlanGoesByRounds : Type 0
PlanGoesByRounds =
    (rounds quantum : ℕ) (keys : List ℕ) (list : List (Event × Outcome))
    → (Planned rounds quantum keys true list ↔ (list ≡ []))
    × (Planned 0 quantum keys false list ↔ (list ≡ []))
    × (Planned (suc rounds) quantum keys false list ↔ ((now : List (Event × Outcome)) × (later : List (Event × Outcome)) × (list ≡ now ++ later) × (events now ≡ round quantum keys) × Planned rounds quantum (drop 1 keys) (halts now) later))

-- a plan that is cut off behind one of its events ends in a round
abbrev pub CutEndsInRound : Type 0
CutEndsInRound =
    (rounds quantum : ℕ) (keys : List ℕ) (halted : Bool) (list : List (Event × Outcome)) (last : Event × Outcome)
    → ((before : List (Event × Outcome)) × (more : List (Event × Outcome)) × (list ≡ before ++ last ∷ []) × Planned rounds quantum keys halted (list ++ more)) ↔ EndsInRound rounds quantum keys halted list last
