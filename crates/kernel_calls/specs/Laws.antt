-- What holds of the table: number and name determine the call, and its calls are the rows of the kernel's own table.
use Rattle.std.specs.Prelude.{◌≡◌, ◌≤◌, ℕ, List, length, None, Some, ℤ, pos, option_map}
use Rattle.proc_table.specs.declared.process.Call.{Call}
use Rattle.kernel_spec.specs.views.View.{View}
use Rattle.kernel_spec.specs.rows.Calls.{Row, row_of, row, perform, refused}
use Rattle.kernel_calls.specs.declared.call.KernelCall.{KernelCall}
use Rattle.kernel_calls.specs.Table.{entry_of, call_at, call_named}
use Rattle.kernel_calls.specs.Rows.{row_for, call_by}

-- ---- number and name

-- a call is found by its number
abbrev pub FoundByNumber : Type 0
FoundByNumber = (call : KernelCall) → call_at (pos (entry_of call).number) ≡ Some call

-- and by no other
abbrev pub HasNumber : Type 0
HasNumber = (number : ℤ) (call : KernelCall) → call_at number ≡ Some call → number ≡ pos (entry_of call).number

-- it is found by its name
abbrev pub FoundByName : Type 0
FoundByName = (call : KernelCall) → call_named (entry_of call).name ≡ Some call

-- and by no other
abbrev pub HasName : Type 0
HasName = (name : List ℕ) (call : KernelCall) → call_named name ≡ Some call → name ≡ (entry_of call).name

-- ---- arguments

-- a call has three at most: they stand in a0, a1 and a2
abbrev pub AtMostThree : Type 0
AtMostThree = (call : KernelCall) → length (entry_of call).arguments ≤ 3

-- ---- the kernel's table

-- at each number the kernel's table has the row of the call that has this number, and no row where no call has it
abbrev pub SameNumbers : Type 0
SameNumbers = (number : ℤ) → row_of number ≡ option_map row_for (call_at number)

-- each call has a row of its own
abbrev pub RowsOfCalls : Type 0
RowsOfCalls = (call : KernelCall) → call_by (row_for call) ≡ call

-- and each row is a call's
abbrev pub CallsOfRows : Type 0
CallsOfRows = (r : Row) → row_for (call_by r) ≡ r

-- a call of a number in the table is done by its row
abbrev pub DoneByRow : Type 0
DoneByRow = (c : Call) (v : View) (call : KernelCall) → call_at c.number ≡ Some call → perform c v ≡ row (row_for call) c v

-- a call of any other number answers -1, and changes nothing else
abbrev pub OthersRefused : Type 0
OthersRefused = (c : Call) (v : View) → call_at c.number ≡ None → perform c v ≡ refused c v
