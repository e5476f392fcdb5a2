-- The price of an image told from the list of its page numbers.
use Rattle.std.specs.Prelude.{ℕ, ◌+◌, ◌/◌, ◌^◌, cond, eqb, List, [], ◌∷◌, map}
use Rattle.std.specs.List.{list_any}
use Rattle.std.specs.FinMap.{len, keys}
use Rattle.xk_base.specs.Image.{Image}

-- how many different numbers stand in a list
unfoldable pub distinct : List ℕ → ℕ
distinct [] = 0
distinct (x ∷ xs) = cond (list_any (eqb x) xs) 0 1 + distinct xs

-- the root, a table for each different page div 2^18 and for each different page div 2^9, and the pages
abbrev pub plain_price : Image → ℕ
plain_price image = 1 + distinct (map (λ v. v / 2 ^ 18) (keys image.pages)) + distinct (map (λ v. v / 2 ^ 9) (keys image.pages)) + len image.pages
