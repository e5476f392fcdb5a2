-- What the answer of a step tells of what the step leaves, whichever call it is on.
use Rattle.std.specs.Prelude.{◌≡◌, ◌↔◌, ℕ, ℤ, None, Some, IsSome, Contains}
use Rattle.kernel_spec.specs.views.Words.{word, minus_one}
use Rattle.kernel_spec.specs.views.View.{View}
use Rattle.kernel_spec.specs.steps.Own.{Called, Blocked, goes_on}
use Rattle.kernel_spec.specs.rows.Calls.{with_a0}
use Rattle.kernel_spec.specs.steps.Step.{own, call_in}
use Rattle.kernel_spec.specs.runs.Run.{IsBlocked}
use Rattle.kernel_spec.specs.steps.Waiting.{regs_in_call, waiting_calls}

-- A call that answers -1 changes a0 and the pc alone, and ends: all else of the view is as it was, what is left to all is what the view had, no process is made,
-- and none is marked. (A write to a pipe may have moved bytes at steps before, at which it answered `Blocked`.)
abbrev pub RefusalsChangeNothing : Type 0
RefusalsChangeNothing =
    (v : View) (number : ℤ) → (own v).answer ≡ Called number minus_one
    → own v ≡ goes_on (Called number minus_one) (record v { regs = with_a0 (regs_in_call v v.call) (word minus_one); call = None })

-- A call is in progress in the next view exactly where the step's answer is that it waits
abbrev pub InCallWhereBlocked : Type 0
InCallWhereBlocked = (v n : View) → (own v).next ≡ Some n → IsBlocked (own v).answer ↔ IsSome n.call

-- It is the call that the step was on, but for the bytes that it has moved, and it is one of those that may wait
abbrev pub BlockedIsInCall : Type 0
BlockedIsInCall =
    (v n : View) (number : ℤ) → (own v).answer ≡ Blocked number → (own v).next ≡ Some n
    → (moved : ℕ) × (n.call ≡ Some (record (call_in v) { moved = moved })) × ((call_in v).number ≡ number) × Contains waiting_calls number
