-- Steps one after another: each begins with what the one before it left.
use Rattle.std.specs.Prelude.{◌≡◌, List, [], ◌∷◌}

-- the steps that these are lead from one to another
abbrev pub Leads : {A E : Type 0} → (A → E → A → Type 0) → A → List E → A → Type 0
Leads {A} {E} step from [] to = to ≡ from
Leads {A} {E} step from (e ∷ es) to = (mid : A) × step from e mid × Leads step mid es to
