-- Items that stand one after the other: each says where the next one begins.
use Rattle.std.specs.Prelude.{ℕ, zero, suc, Bool, if◌then◌else◌, List, [], ◌∷◌, ◌++◌, Result, Ok, Err}
use Rattle.dwarf.specs.declared.fault.Fault.{Fault}
use Rattle.dwarf.specs.Numbers.{◌>>=◌}

-- what is read first, before what is read after it, with what is known at the end
abbrev pub in_front : {A B : Type 0} → List A → Result (List A × B) Fault → Result (List A × B) Fault
in_front front (Ok r) = Ok (front ++ r.0, r.1)
in_front front (Err f) = Err f

-- at most n items, from a place on, up to the place where they stop, or to the first fault; and the place after them
unfoldable pub items : {A : Type 0} → (ℕ → Bool) → (ℕ → Result A Fault) → (A → ℕ) → ℕ → ℕ → Result (List A × ℕ) Fault
items stops item next zero at = Ok ([], at)
items stops item next (suc n) at =
    if stops at then Ok ([], at) else (item at >>= λ x. in_front (x ∷ []) (items stops item next n (next x)))

-- a list that is read from left to right changes what is known, up to the first fault
abbrev pub through : {A B : Type 0} → (A → B → Result B Fault) → List A → B → Result B Fault
through change [] known = Ok known
through change (x ∷ xs) known = change x known >>= λ after. through change xs after
