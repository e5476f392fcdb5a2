-- The process that runs: its place in the table, and what it is by the state.
use Rattle.kcall_core.proofs.Prelude.{◌∙◌, ◌≡◌, Alive, ap, Hart, IsLive, IsRunning, IsSound, Kernel, Live, live_now, None, or_nobody, pid_now, place_at, place_now, slot_now, Some, state_of, status_of}
use Rattle.kcall_core.proofs.Prelude.{sym}
use Rattle.kcall_core.proofs.table.States.{running}
use Rattle.kcall_core.proofs.turns.Turned.{live-is}

-- its place
pub place-is : (k : Kernel) (h : Hart) → IsSound k h → IsRunning k → place_at k.table (slot_now k) ≡ Some (place_now k)
place-is k h sound runs = let r = running k h sound runs in r.is.is ∙ ap Some (ap or_nobody (sym r.is.is))

pub place-lives : (k : Kernel) (h : Hart) → IsSound k h → IsRunning k → status_of (place_now k) ≡ None
place-lives k h sound runs = let r = running k h sound runs in ap status_of (sym (ap or_nobody (sym r.is.is))) ∙ r.is.live

-- what it is, by the state
pub now-is : (k : Kernel) (h : Hart) (l : Live) → IsSound k h → IsRunning k → IsLive (state_of k h) (pid_now k) l → live_now k h ≡ l
now-is k h l sound runs is = let e : Some (Alive (live_now k h)) ≡ Some (Alive l) = sym (live-is k h sound runs) ∙ is in cc
