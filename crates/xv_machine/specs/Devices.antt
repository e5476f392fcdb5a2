-- What devices tell of themselves: the bytes that are left or held, and the calls, where they are known; and how many calls have failed.
use Rattle.std.specs.Prelude.{◌≡◌, ℕ, ◌+◌, ◌-◌, ◌^◌, min, Bool, true, false, List, ◌++◌, drop, Option, None, Some, slice_get, ⊤}

-- a count of failed calls after one more of them: it stays at 2^64 - 1
abbrev pub one_more : ℕ → ℕ
one_more count = min (count + 1) (2 ^ 64 - 1)

-- one call of a device failed, and none of the other device
abbrev pub OneFailed : (failures failures_after others others_after : ℕ) → Type 0
OneFailed failures failures_after others others_after = (failures_after ≡ one_more failures) × (others_after ≡ others)

-- what a source tells of itself, each where it is known: the bytes that are left; and how many calls were made of it, those that failed too
pub record Source : Type 0 where
  pub left : Option (List ℕ)
  pub asked : Option ℕ

-- where the calls are counted, so many more were made
abbrev pub Asked : (before after : Option ℕ) → (calls : ℕ) → Type 0
Asked None after calls = ⊤
Asked (Some before) after calls = after ≡ Some (before + calls)

-- one call of a sink: the bytes that it was given, and whether it took them
pub record Given : Type 0 where
  pub bytes : List ℕ
  pub taken : Bool

abbrev pub took : List ℕ → Given
took given = record { bytes = given; taken = true }

abbrev pub failed : List ℕ → Given
failed given = record { bytes = given; taken = false }

-- what a sink tells of itself, each where it is known: the bytes that it holds; and its calls, one after another
pub record Sink : Type 0 where
  pub held : Option (List ℕ)
  pub calls : Option (List Given)

-- where the calls are known, these came behind those before, and no other
abbrev pub Calls : (before after : Option (List Given)) → (made : List Given) → Type 0
Calls None after made = ⊤
Calls (Some before) after made = after ≡ Some (before ++ made)

-- where the bytes that are left are known, the key is the first of them, and there is none only where none is left
abbrev pub GivesKey : (left : Option (List ℕ)) → (key : Option ℕ) → (left_after : Option (List ℕ)) → Type 0
GivesKey None key after = ⊤
GivesKey (Some bytes) key after = (key ≡ slice_get bytes 0) × (after ≡ Some (drop 1 bytes))
