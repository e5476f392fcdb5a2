-- A map from addresses, seen as its entries in the order of addresses.
use Rattle.std.specs.Prelude.{ℕ, List, [], Option, None, Some}
use Rattle.std.specs.BTreeMap.{insert_entry}
use Rattle.std.specs.List.{fold}
use Rattle.std.specs.Ordering.{nat_cmp}

abbrev pub put_if : {V : Type 0} → (address : ℕ) → Option V → List (ℕ × V) → List (ℕ × V)
put_if address None entries = entries
put_if address (Some value) entries = insert_entry nat_cmp entries address value

-- of these addresses each with what stands there, once, in the order of addresses; one at which nothing stands isn't there
abbrev pub entries_of : {V : Type 0} → (at : ℕ → Option V) → (addresses : List ℕ) → List (ℕ × V)
entries_of at addresses = fold (λ entries address. put_if address (at address) entries) [] addresses
