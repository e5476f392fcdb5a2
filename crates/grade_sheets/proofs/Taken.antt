-- The first of what is made of each of a list.
use Rattle.grade_sheets.proofs.Prelude.{ℕ, ◌≡◌, List, map, sym, take, take-map}

pub map_take : {X Y : Type 0} (f : X → Y) (n : ℕ) (xs : List X) → map f (take n xs) ≡ take n (map f xs)
map_take f n xs = sym (take-map f n xs)
