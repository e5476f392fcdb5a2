-- What is found last before here, looked for from ever further back on.
use Rattle.std.specs.Prelude.{◌≡◌, ℕ, Option, None}

-- It is what was found last from one place on; nothing was found only if that is the run's first place. `looked` says that all places from one on were looked at, and what was found last among them
pub record IsLast {S F : Type 0} (looked : (begin : ℕ) → S → S → Option F → Type 0) (old new : S) (found : Option F) : Type 0 where
  pub begin : ℕ
  pub looks : looked begin old new found
  pub whole : found ≡ None → begin ≡ 0
