-- A process that stands at a breakpoint.
use Rattle.std.proofs.Common.{◌≡◌, ℕ, List, Option, None, Some, true, ap, subst}
use Rattle.std.specs.Prelude.{IfSome}
use Rattle.std.proofs.lemmas.Bool.{false≢true, eqb-true, and_parts}
use Rattle.kcall_core.specs.Observers.{registers_of}
use Rattle.xv_session.specs.Names.{place_in}
use Rattle.gdb_target.specs.Standing.{StandsAt, Starts, is_among, is_place, stands_at}
use Rattle.gdb_target.specs.declared.played.Played.{Played}

is-place : (program : ℕ) (place : Option ℕ) → is_place program place ≡ true → place ≡ Some program
is-place program None is = absurd (false≢true is)
is-place program (Some place) is = ap (λ (n : ℕ). Some n) (eqb-true place program is)

pub stands_there : (run : Played) (program : ℕ) (addresses : List ℕ) (p : ℕ) → Starts run p → stands_at run program addresses p ≡ true → StandsAt run program addresses p
stands_there run program addresses p starts stands =
    let at = is_among addresses (registers_of run.session.machine.world.state p) in
    let runs = is_place program (place_in p run.session.names) in
    let both = and_parts at runs stands in
    record { starts = starts; runs = is-place program (place_in p run.session.names) both.1; at = both.0 }

-- what holds of the one that is given on, and of what it was before
pub if-both : (o r : Option ℕ) (P Q : ℕ → Type 0) → IfSome r (λ (p : ℕ). o ≡ Some p) → IfSome r Q → IfSome o P → IfSome r (λ (p : ℕ). P p × Q p)
if-both o None P Q same other holds = tt
if-both o (Some p) P Q same other holds = (subst (λ (x : Option ℕ). IfSome x P) same holds, other)
