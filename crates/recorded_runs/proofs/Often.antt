-- So many equal events, of which some were to be played at once.
use Rattle.std.proofs.Common.{◌≡◌, ◌∙◌, ℕ, ◌+◌, ◌-◌, ◌≤◌, List, ◌++◌, ap, replicate, arith}
use Rattle.std.proofs.lemmas.List.{replicate-append-replicate}
use Rattle.kernel_spec.specs.runs.Run.{Event}
use Rattle.xv_machine.specs.Devices.{Sink}
use Rattle.xv_machine.specs.Meaning.{Meaning}
use Rattle.xv_machine.specs.Stretches.{Played, PlayedFirst}
use Rattle.xv_machine.proofs.Refused.{first-those, first-early, first-later}

-- of those that are left a player refused one
pub first-more : (e : Event) (count left now : ℕ) (s t u : Meaning) (h k m : Sink) → left ≤ count → now ≤ left → Played (replicate (count - left) e) s t h k
    → PlayedFirst (replicate now e) t u k m → PlayedFirst (replicate count e) s u h m
first-more e count left now s t u h k m within few p q =
    let full : count - left + now + (left - now) ≡ count = omega (arith, within, few) in
    let all : (replicate (count - left) e ++ replicate now e) ++ replicate (left - now) e ≡ replicate count e =
    ap (λ (z : List Event). z ++ replicate (left - now) e) (replicate-append-replicate (count - left) now e)
    ∙ replicate-append-replicate (count - left + now) (left - now) e ∙ ap (λ (z : ℕ). replicate z e) full in
    first-those ((replicate (count - left) e ++ replicate now e) ++ replicate (left - now) e) (replicate count e) s u h m all
    (first-early (replicate (count - left) e ++ replicate now e) (replicate (left - now) e) s u h m (first-later (replicate (count - left) e) (replicate now e) s t u h k m p q))
