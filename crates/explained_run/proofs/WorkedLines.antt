-- Worked cases of the numbers of events before lines.
use Rattle.std.proofs.Common.{◌≡◌, ◌+◌, ◌-◌, ◌^◌, ◌++◌, true, false, codes, refl}
use Rattle.std.specs.Fmt.{digits}
use Rattle.explained_run.specs.Seen.{number_text, place_of}

numbered : number_text true 27 ++ number_text false 27 ≡ codes "27 "
unfolding digits
numbered = refl

last_number : place_of (2 ^ 64 + 1) ≡ 2 ^ 64 - 1
last_number = refl
