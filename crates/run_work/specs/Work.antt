-- What Runs cost, told of what the machine shows: one for each, and so much for each page that is cleared or copied.
use Rattle.std.specs.Prelude.{◌≤◌, ℕ, ℤ, pos, negsuc, ◌+◌, ◌*◌, ◌-◌, ◌^◌, ◌||◌, min, unsigned_abs, if◌then◌else◌, nat_eq, Option, None, Some}
use Rattle.std.specs.Int.{abs_diff, div_ceil}
use Rattle.std.specs.Ordering.{int_eq}
use Rattle.kernel_spec.specs.runs.Run.{Outcome, Step_of, Turn, Idle, Ticked, Typed, Sent, Halted}
use Rattle.kernel_spec.specs.steps.Own.{Stepped, Called, Blocked, Exited, Faulted}
use Rattle.kernel_spec.specs.views.Words.{or_zero}
use Rattle.xk_base.specs.declared.limits.TheConstants.{PAGE_BYTES}
use Rattle.kernel_calls.specs.declared.numbers.TheConstants.{READ, WRITE, EXEC, SBRK, SBRKLAZY}
use Rattle.run_work.specs.declared.cost.TheConstants.{PAGE_COST}
use Rattle.run_work.specs.declared.cost.Before.{Before}

-- the pages that so many bytes take
abbrev pub pages_of : (bytes : ℕ) → ℕ
pages_of bytes = div_ceil bytes PAGE_BYTES

-- the pages of a process of this size; none if there is no process
abbrev pub pages_in : (size : Option ℕ) → ℕ
pages_in size = pages_of (or_zero size)

-- the size of the process that runs, if one does
abbrev pub size_now : (size : ℕ → Option ℕ) → (current : Option ℕ) → Option ℕ
size_now size None = None
size_now size (Some p) = size p

-- ---- pages that a call copied or made

-- those of the bytes that read and write answer, and a program's that exec loads, whose process has this size after it
abbrev pub call_pages : (number value : ℤ) → (size : Option ℕ) → ℕ
call_pages number value size =
    if int_eq number READ || int_eq number WRITE then pages_of (unsigned_abs value) else (if int_eq number EXEC then pages_in size else 0)

-- of what came of the last Run, after which processes have these sizes
abbrev pub last_pages : (size : ℕ → Option ℕ) → Option Outcome → ℕ
last_pages size None = 0
last_pages size (Some (Step_of p (Called number value))) = call_pages number value (size p)
last_pages size (Some (Step_of p Stepped)) = 0
last_pages size (Some (Step_of p (Blocked number))) = 0
last_pages size (Some (Step_of p (Exited status))) = 0
last_pages size (Some (Step_of p (Faulted cause))) = 0
last_pages size (Some (Turn p)) = 0
last_pages size (Some Idle) = 0
last_pages size (Some Ticked) = 0
last_pages size (Some (Typed echo)) = 0
last_pages size (Some (Sent byte)) = 0
last_pages size (Some Halted) = 0

-- ---- pages that came and went

-- pages that a process of the size `before` gives back by a call: all that it had, at an exec that is done; those that sbrk takes away, which answers the size before it
abbrev pub given_by_call : (number value : ℤ) → (before size : Option ℕ) → ℕ
given_by_call number (negsuc k) before size = 0
given_by_call number (pos answer) before size =
    if int_eq number EXEC then pages_in before else (if int_eq number SBRK || int_eq number SBRKLAZY then pages_of answer - pages_in size else 0)

-- pages that the last Run may have given back
abbrev pub given_back : (before : Option ℕ) → (size : ℕ → Option ℕ) → Option Outcome → ℕ
given_back before size None = 0
given_back before size (Some (Step_of p (Called number value))) = given_by_call number value before (size p)
given_back before size (Some (Step_of p Stepped)) = 0
given_back before size (Some (Step_of p (Blocked number))) = 0
given_back before size (Some (Step_of p (Exited status))) = pages_in before
given_back before size (Some (Step_of p (Faulted cause))) = pages_in before
given_back before size (Some (Turn p)) = 0
given_back before size (Some Idle) = 0
given_back before size (Some Ticked) = 0
given_back before size (Some (Typed echo)) = 0
given_back before size (Some (Sent byte)) = 0
given_back before size (Some Halted) = 0

-- An instruction that touches an absent page brings it, and the last Run may give it back. No count of free frames before and after shows such a page: there is at most one for each Run before the last, and at most as many as were given back
abbrev pub unseen : (sent given : ℕ) → ℕ
unseen sent given = min (sent - 1) given

-- ---- the cost

-- pages that came or went by so many Runs, after which so many frames are free
abbrev pub moved : Before → (sent free : ℕ) → (size : ℕ → Option ℕ) → Option Outcome → ℕ
moved b sent free size last = abs_diff b.free free + 2 * unseen sent (given_back b.size size last)

-- what so many Runs cost: 2^64 - 1 at most
abbrev pub cost : Before → (sent free : ℕ) → (size : ℕ → Option ℕ) → Option Outcome → ℕ
cost b sent free size last = min ((moved b sent free size last + last_pages size last) * PAGE_COST + sent) (2 ^ 64 - 1)

-- work that is done, with so much more
abbrev pub with_more : (done more : ℕ) → ℕ
with_more done more = min (done + more) (2 ^ 64 - 1)

-- how much a run may do, with this number of `--budget`: so many millions, or, with 0, all that a count holds
abbrev pub budget_of : (millions : ℕ) → ℕ
budget_of millions = if nat_eq millions 0 then 2 ^ 64 - 1 else millions * 1000000

-- the numbers that `--budget` may have
abbrev pub IsBudgetNumber : ℕ → Type 0
IsBudgetNumber millions = millions ≤ 1000000
