-- Which lines are asked for.
use Rattle.std.specs.Prelude.{ℕ, ℤ, pos, negsuc, Bool, true, false, not, ◌&&◌, if◌then◌else◌, nat_eq, List, Option, None, Some, String, Vec, bytes_eq, string_bytes}
use Rattle.std.specs.List.{list_any}
use Rattle.std.specs.Ordering.{int_eq}
use Rattle.std.specs.declared.alloc.Global.{Global}
use Rattle.kernel_calls.specs.Table.{entry_of}
use Rattle.kernel_calls.specs.declared.call.KernelCall.{KernelCall}
use Rattle.kernel_spec.specs.runs.Run.{Outcome, Step_of}
use Rattle.kernel_spec.specs.steps.Own.{Answer, Stepped, Called, Blocked, Exited, Faulted}
use Rattle.explained_run.specs.declared.choice.Choice.{Choice}
use Rattle.explained_run.specs.Seen.{Before}

-- no line
abbrev pub no_line : Choice
no_line = record { lines = false; pid = None; program = None; calls = None; failed = false; numbers = false; shown = 0 }

-- this process, or any if none is asked for
abbrev pub is_process : Option ℕ → (p : ℕ) → Bool
is_process None p = true
is_process (Some chosen) p = nat_eq chosen p

-- a program has this name; one that isn't known has none
abbrev pub has_name : (asked : List ℕ) → (name : Option (List ℕ)) → Bool
has_name asked None = false
has_name asked (Some name) = bytes_eq name asked

-- the program of the name that is asked for, or any if none is
abbrev pub is_program : (asked : Option (String Global)) → (name : Option (List ℕ)) → Bool
is_program None name = true
is_program (Some asked) name = has_name (string_bytes asked) name

-- lines of process p are asked for while it runs the program of this name
abbrev pub shows_process : Choice → (p : ℕ) → (program : Option (List ℕ)) → Bool
shows_process choice p program = (choice.lines && is_process choice.pid p) && is_program choice.program program

-- one of these calls has this number
abbrev pub is_of : List KernelCall → (number : ℤ) → Bool
is_of calls number = list_any (λ call. int_eq (pos (entry_of call).number) number) calls

-- one of these calls, or any if none is asked for
abbrev pub is_call : Option (Vec KernelCall Global) → (number : ℤ) → Bool
is_call None number = true
is_call (Some calls) number = is_of calls.items number

abbrev pub shows_call : Choice → (number : ℤ) → Bool
shows_call choice number = is_call choice.calls number

-- calls of this number are asked for that haven't failed
abbrev pub shows_unfailed : Choice → (number : ℤ) → Bool
shows_unfailed choice number = not choice.failed && shows_call choice number

-- a call with this answer is asked for: one that has answered less than 0 has failed
abbrev pub shows_answer : Choice → (number value : ℤ) → Bool
shows_answer choice number (pos n) = shows_unfailed choice number
shows_answer choice number (negsuc k) = shows_call choice number

-- that a process is gone without the call exit: unless calls are asked for
abbrev pub is_any_call : Option (Vec KernelCall Global) → Bool
is_any_call None = true
is_any_call (Some calls) = false

abbrev pub shows_ends : Choice → Bool
shows_ends choice = is_any_call choice.calls

-- what comes of a step of a process that is seen so before it; call 2 is exit
abbrev pub shows_step : Choice → Before → Answer → Bool
shows_step choice seen Stepped = false
shows_step choice seen (Called number value) = shows_answer choice number value
shows_step choice seen (Blocked number) = not seen.resumed && shows_unfailed choice number
shows_step choice seen (Exited status) = if seen.marked then shows_ends choice else shows_unfailed choice (pos 2)
shows_step choice seen (Faulted cause) = shows_ends choice

abbrev pub shows : Choice → Before → Outcome → Bool
shows choice seen (Step_of p answer) = shows_step choice seen answer
shows choice seen _ = false
