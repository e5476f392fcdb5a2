-- The texts that pointers lead to, taken apart: a word for each part of `texts_at`, for lemmas to speak of.
use Rattle.kernel_spec.proofs.Prelude.{[], ℕ, ◌∷◌, if◌then◌else◌, List, nat_eq, Option, option_map, Some}
use Rattle.kernel_spec.specs.views.Words.{◌>>=◌}

abbrev pub with_text : Option (List ℕ) → Option (List (List ℕ)) → Option (List (List ℕ))
with_text o rest = do text ← o; option_map (λ texts. text ∷ texts) rest

-- a pointer 0 ends the list of pointers
abbrev pub texts_from : Option ℕ → (ℕ → Option (List (List ℕ))) → Option (List (List ℕ))
texts_from o rest = do p ← o; if nat_eq p 0 then Some [] else rest p
