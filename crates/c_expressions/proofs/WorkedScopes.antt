-- Worked names: `n` and `here` of a function, and another `n` of a block in it.
use Rattle.std.specs.Prelude.{◌≡◌, ℕ, true, false, codes, List, [], ◌∷◌, slice_get, refl}
use Rattle.std.specs.Borrow.{Bor}
use Rattle.c_expressions.specs.Scopes.{is_named}

text : List ℕ → Bor (List ℕ)
text name = record { ref_ptr = (0, 0); now = name }

names : List (Bor (List ℕ))
names = text (codes "n") ∷ text (codes "here") ∷ text (codes "n") ∷ []

-- the inner one has the name, and so has the outer one that it hides; the one between hasn't, and after the last there is none
inner : is_named (codes "n") (slice_get names 2) ≡ true
unfolding names text
inner = refl

outer : is_named (codes "n") (slice_get names 0) ≡ true
unfolding names text
outer = refl

between : is_named (codes "n") (slice_get names 1) ≡ false
unfolding names text
between = refl

longer : is_named (codes "nn") (slice_get names 2) ≡ false
unfolding names text
longer = refl

after_the_last : is_named (codes "n") (slice_get names 3) ≡ false
unfolding names text
after_the_last = refl
