-- What came of an event, in words.
use Rattle.std.specs.Prelude.{ℕ, ℤ, List, [], ◌∷◌, ◌++◌, codes, decimal, Option, None, Some, option_map}
use Rattle.std.specs.Fmt.{signed_decimal}
use Rattle.std.specs.List.{concat}
use Rattle.kernel_spec.specs.rows.Calls.{row_of}
use Rattle.kernel_spec.specs.steps.Own.{Answer, Stepped, Called, Blocked, Exited, Faulted}
use Rattle.kernel_spec.specs.runs.Run.{Outcome, Step_of, Turn, Idle, Ticked, Typed, Sent, Halted}
use Rattle.xv_report.specs.Causes.{cause_text}
use Rattle.xv_report.specs.Names.{call_word}
use Rattle.debug_words.specs.Texts.{quoted}

-- a kernel call, by its name, or by its number if it has none
abbrev pub name_or_number : ℤ → Option (List ℕ) → List ℕ
name_or_number number None = codes "call " ++ signed_decimal number
name_or_number number (Some name) = name

abbrev pub call_text : ℤ → List ℕ
call_text number = name_or_number number (option_map call_word (row_of number))

-- what a step of a process came to, after the process
abbrev pub answer_text : Answer → List ℕ
answer_text Stepped = codes " did an instruction"
answer_text (Called number value) = codes ": " ++ (call_text number ++ (codes " answers " ++ signed_decimal value))
answer_text (Blocked number) = codes " sleeps in " ++ call_text number
answer_text (Exited status) = codes " is gone, with status " ++ signed_decimal status
answer_text (Faulted cause) = codes " is gone by a fault: " ++ cause_text cause

-- the byte that left, if there was one
abbrev pub sent_text : Option ℕ → List ℕ
sent_text None = codes "no byte waits to be sent"
sent_text (Some byte) = concat (codes "the byte " ∷ quoted (byte ∷ []) ∷ codes " is sent" ∷ [])

-- a process, and what it does
abbrev pub pid_text : (p : ℕ) → (does : List ℕ) → List ℕ
pid_text p does = codes "process " ++ (decimal p ++ does)

-- what the console showed for a key
abbrev pub echo_text : List ℕ → List ℕ
echo_text echo = codes "the console shows " ++ quoted echo

abbrev pub happened_text : Outcome → List ℕ
happened_text (Step_of p answer) = pid_text p (answer_text answer)
happened_text (Turn p) = pid_text p (codes " has its turn")
happened_text Idle = codes "all processes sleep"
happened_text Ticked = codes "the clock counts a tick"
happened_text (Typed echo) = echo_text echo
happened_text (Sent byte) = sent_text byte
happened_text Halted = codes "the machine has halted"
