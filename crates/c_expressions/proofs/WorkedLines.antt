-- Worked lines: what they ask, and what is told of an address.
use Rattle.std.specs.Prelude.{◌≡◌, ℕ, codes, List, [], ◌∷◌, Some, None, refl}
use Rattle.debug_info.specs.declared.spots.Spot.TheVariants.{Number}
use Rattle.c_expressions.specs.Asked.{info, rest_of, word_of}
use Rattle.c_expressions.specs.Telling.{address_text}
use Rattle.c_expressions.specs.declared.asked.Asked.TheVariants.{Locals, Arguments}

-- `p x y` has the word `p`, and behind it `x y`
word : word_of (codes "p x y") ≡ codes "p"
word = refl

behind_it : rest_of (codes "p x y") ≡ codes "x y"
behind_it = refl

-- `info` alone has nothing behind it
alone : rest_of (codes "info") ≡ []
alone = refl

locals : info (codes "locals") ≡ Some Locals
locals = refl

arguments : info (codes "args") ≡ Some Arguments
arguments = refl

registers : info (codes "registers") ≡ None
registers = refl

-- of what is in no memory the type alone is told
in_no_memory : address_text (codes "int *") (Number 7 0) ≡ codes "(int *)"
in_no_memory = refl
