-- What a plan stands for, as data.
use Rattle.std.specs.Prelude.{ℕ, List, refl}
use Rattle.std.specs.Coded.{Coded, code_by, coded×, coded_ℕ, coded_list}
use Rattle.kernel_spec.specs.runs.Run.{Event}
use Rattle.xv_session.specs.Codes.{event_code}
use Rattle.gdb_target.specs.Plan.{Planned}

abbrev pub planned_code : Coded Planned
planned_code = code_by (List Event × (List ℕ × ℕ)) (coded× (coded_list event_code) (coded× (coded_list coded_ℕ) coded_ℕ))
    (λ p. (p.recorded, (p.keys, p.quantum))) (λ t. record { recorded = t.0; keys = t.1.0; quantum = t.1.1 }) (λ _. refl)
