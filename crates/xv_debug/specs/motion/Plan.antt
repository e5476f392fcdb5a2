-- What a run goes on by: the events of a record, if one is followed, and then rounds, and the keys that are typed, one a round, as in xv_run.
use Rattle.std.specs.Prelude.{ℕ, ◌+◌, ◌&&◌, List, [], Option, None, Some, drop, if◌then◌else◌, is_none, not, refl}
use Rattle.std.specs.Coded.{Coded, code_by, coded×, coded_ℕ, coded_list}
use Rattle.kernel_spec.specs.runs.Run.{Event, World}
use Rattle.kernel_spec.specs.runs.Rounds.{key_events}
use Rattle.xv_session.specs.Codes.{event_code}
use Rattle.xv_debug.specs.declared.motion.clock.Round.{Round}

-- the events of the record, none if none is followed; the Runs in each round; and the keys: the first is typed in the first round
pub record Planned : Type 0 where
  pub recorded : List Event
  pub quantum : ℕ
  pub keys : List ℕ

-- rounds of so many Runs, in which no key is typed
abbrev pub keyless : (quantum : ℕ) → Planned
keyless quantum = record { recorded = []; quantum = quantum; keys = [] }

-- the events of a record, or none if there is none
abbrev pub events_if : Option (List Event) → List Event
events_if None = []
events_if (Some events) = events

-- the key with which the round begins in which the machine is, if there is one. As in xv_run, a round has the key at its number, which the clock tells
abbrev pub round_key : Planned → World → List Event
round_key plan w = key_events (drop w.state.clock plan.keys)

-- the keys of later rounds
abbrev pub later_keys : Planned → World → List ℕ
later_keys plan w = drop (w.state.clock + 1) plan.keys

-- the key that is to be typed now: the round's, if none was typed in it, and the machine hasn't halted
abbrev pub key_due : Planned → Round → World → List Event
key_due plan round w = if not round.keyed && is_none w.turns.halted then round_key plan w else []

-- what a plan stands for, as data
abbrev pub planned_code : Coded Planned
planned_code = code_by (List Event × (ℕ × List ℕ)) (coded× (coded_list event_code) (coded× coded_ℕ (coded_list coded_ℕ)))
    (λ p. (p.recorded, (p.quantum, p.keys))) (λ t. record { recorded = t.0; quantum = t.1.0; keys = t.1.1 }) (λ _. refl)
