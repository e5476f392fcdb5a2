-- What a search among Runs leaves.
use Rattle.std.proofs.Common.{ℕ, zero, suc, sym, subst}
use Rattle.kernel_spec.specs.runs.Run.{Run}
use Rattle.xv_session.specs.Steps.{IsSound}
use Rattle.xv_session.specs.Until.{Unmet}
use Rattle.xv_session.specs.declared.running.Running.{Running}
use Rattle.xv_session.specs.declared.until.Condition.{Condition}
use Rattle.xv_session.proofs.NamesLive.{advances-sound}

-- it is sound at each of its moments
pub unmet-sound : (c : Condition) (n : ℕ) (old new : Running) → IsSound old → Unmet c n old new → IsSound new
unmet-sound c zero old new sound same = subst IsSound (sym same) sound
unmet-sound c (suc n) old new sound (mid, o, before, one, unmet) = advances-sound Run o mid new (unmet-sound c n old mid sound before) one
