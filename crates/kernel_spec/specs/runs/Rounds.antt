-- The rounds that a driver of the machine plays: which events, whatever they give. That a list is a run is said beside it, by `IsPromised`.
use Rattle.std.specs.Prelude.{◌≡◌, ℕ, zero, suc, ◌<◌, ◌≤◌, ◌⊎◌, Bool, true, false, ◌||◌, List, [], ◌∷◌, ◌++◌, map, replicate, drop, is_some}
use Rattle.std.specs.List.{list_any}
use Rattle.xk_base.specs.declared.limits.TheConstants.{SEND_BYTES}
use Rattle.kernel_spec.specs.runs.Run.{Event, Run, Tick, Key, Send, Outcome, halted_by}

abbrev pub key_events : List ℕ → List Event
key_events [] = []
key_events (b ∷ bs) = Key b ∷ []

-- a key, if one is left; then `quantum` times Run; one Tick; and as many Sends as bytes may wait to be sent
abbrev pub round : (quantum : ℕ) → (keys : List ℕ) → List Event
round quantum keys = key_events keys ++ replicate quantum Run ++ Tick ∷ replicate SEND_BYTES Send

abbrev pub events : List (Event × Outcome) → List Event
events list = map (λ e. e.0) list

-- process 1 goes in it
abbrev pub halts : List (Event × Outcome) → Bool
halts list = list_any (λ e. is_some (halted_by e.1)) list

-- exactly so many whole rounds, none of which begins on a halted machine; the last one may halt it
abbrev pub AreRounds : (count quantum : ℕ) (keys : List ℕ) (halted : Bool) → List (Event × Outcome) → Type 0
AreRounds zero quantum keys halted list = list ≡ []
AreRounds (suc count) quantum keys true list = ⊥
AreRounds (suc count) quantum keys false list =
    (now : List (Event × Outcome)) × (later : List (Event × Outcome)) × (list ≡ now ++ later)
    × (events now ≡ round quantum keys)
    × AreRounds count quantum (drop 1 keys) (halts now) later

-- a whole plan: as many rounds as are allowed; or fewer, behind which the machine is halted
abbrev pub Planned : (rounds quantum : ℕ) (keys : List ℕ) (halted : Bool) → List (Event × Outcome) → Type 0
Planned rounds quantum keys halted list =
    (count : ℕ) × (count ≤ rounds) × AreRounds count quantum keys halted list × ((count ≡ rounds) ⊎ ((halted || halts list) ≡ true))

-- rounds behind which one more may begin: what a driver has played that gives up before a round
abbrev pub StopsBeforeRound : (rounds quantum : ℕ) (keys : List ℕ) (halted : Bool) → List (Event × Outcome) → Type 0
StopsBeforeRound rounds quantum keys halted list =
    (count : ℕ) × (count < rounds) × AreRounds count quantum keys halted list × ((halted || halts list) ≡ false)

-- such rounds, and of one more the events up to the last one: what a driver has played that gives up behind an event
abbrev pub EndsInRound : (rounds quantum : ℕ) (keys : List ℕ) (halted : Bool) → List (Event × Outcome) → (last : Event × Outcome) → Type 0
EndsInRound rounds quantum keys halted list last =
    (count : ℕ) × (before : List (Event × Outcome)) × (part : List (Event × Outcome)) × (rest : List Event)
    × (list ≡ before ++ (part ++ last ∷ []))
    × (count < rounds) × AreRounds count quantum keys halted before × ((halted || halts before) ≡ false)
    × (events (part ++ last ∷ []) ++ rest ≡ round quantum (drop count keys))
