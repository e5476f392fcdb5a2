-- What goes on up to a stop.
use Rattle.std.proofs.Common.{ℕ, zero, suc, List, sym, subst}
use Rattle.kernel_spec.specs.runs.Run.{Run}
use Rattle.xv_session.specs.Steps.{IsSound}
use Rattle.xv_session.specs.Stops.{Unstopped}
use Rattle.xv_session.specs.declared.running.Running.{Running}
use Rattle.xv_session.proofs.NamesLive.{advances-sound}

-- it is sound at each of its moments
pub unstopped-sound : (addresses bytes : List ℕ) (n : ℕ) (old new : Running) → IsSound old → Unstopped addresses bytes n old new → IsSound new
unstopped-sound addresses bytes zero old new sound same = subst IsSound (sym same) sound
unstopped-sound addresses bytes (suc n) old new sound (mid, o, before, one, is, free) =
    advances-sound Run o mid new (unstopped-sound addresses bytes n old mid sound before) one
