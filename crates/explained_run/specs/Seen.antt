-- What is seen of a process right before a step of its that is no done instruction.
use Rattle.std.specs.Prelude.{ℕ, ℤ, ◌^◌, ◌-◌, min, Bool, true, false, List, [], ◌++◌, codes, decimal, string_bytes, Option, None, Some, option_map}
use Rattle.debug_views.specs.Focus.{nth_of}
use Rattle.debug_words.specs.Texts.{named}
use Rattle.proc_table.specs.declared.process.Call.{Call}
use Rattle.kernel_spec.specs.runs.Run.{World}
use Rattle.kernel_spec.specs.views.State.{State, ProgramFile}
use Rattle.kcall_core.specs.Observers.{process_at}
use Rattle.kcall_core.specs.declared.kernel.observers.ProcessState.{ProcessState}
use Rattle.kcall_core.specs.declared.kernel.observers.ProcessState.TheVariants as state
use Rattle.xv_session.specs.Names.{place_in}
use Rattle.xv_session.specs.declared.names.Named.{Named}
use Rattle.call_reasons.specs.Asked.{asked_of}
use Rattle.call_lines.specs.Line.{call_shown}
use Rattle.call_reasons.specs.declared.asked.Asked.{Asked}
use Rattle.explained_run.specs.declared.seen.Seen.{Seen}

pub record Before : Type 0 where
  -- its pid, and its program: `3 (wc): `; the number of events before stands before it, if that is asked for
  pub who : List ℕ
  -- what it asks for, if its step is one of a call
  pub asked : Option Asked
  -- that call as text, with the memory before the step
  pub call : List ℕ
  -- it is in a call: the step isn't the call's first
  pub resumed : Bool
  -- its kill mark is set, so that it ends by this step
  pub marked : Bool
  -- how many bytes of a text or a buffer are shown at most
  pub shown : ℕ

-- ---- of a machine

-- the name of the program that process p runs
abbrev pub name_in : World → List Named → (p : ℕ) → Option (List ℕ)
name_in w names p = option_map (λ (f : ProgramFile). f.name) (nth_of w.state.programs (place_in p names))

-- how many events there were, 2 ^ 64 - 1 at most
abbrev pub place_of : (events : ℕ) → ℕ
place_of events = min events (2 ^ 64 - 1)

-- how many there were before, if lines begin with that
abbrev pub number_text : (numbers : Bool) → (place : ℕ) → List ℕ
number_text false place = []
number_text true place = decimal place ++ codes " "

abbrev pub who_text : (numbers : Bool) → (place : ℕ) → World → List Named → (p : ℕ) → List ℕ
who_text numbers place w names p = number_text numbers place ++ (decimal p ++ named (name_in w names p) ++ codes ": ")

-- a call as text, if there is one; of each text and buffer so many bytes are shown at most
abbrev pub asked_text : (shown : ℕ) → State → (p : ℕ) → Option Asked → (answered : Option ℤ) → List ℕ
asked_text shown s p None answered = []
asked_text shown s p (Some asked) answered = call_shown shown s p asked answered

abbrev pub is_some_call : Option Call → Bool
is_some_call None = false
is_some_call (Some call) = true

abbrev pub is_in_call : Option ProcessState → Bool
is_in_call (Some (state.Live parent marked call asleep)) = is_some_call call
is_in_call _ = false

abbrev pub is_marked : Option ProcessState → Bool
is_marked (Some (state.Live parent marked call asleep)) = marked
is_marked _ = false

-- process p of a world to which so many events led, in which processes run these programs
abbrev pub before : (numbers : Bool) → (shown place : ℕ) → World → List Named → (p : ℕ) → Before
before numbers shown place w names p = record {
  who = who_text numbers place w names p;
  asked = asked_of w p;
  call = asked_text shown w.state p (asked_of w p) None;
  resumed = is_in_call (process_at w p);
  marked = is_marked (process_at w p);
  shown = shown;
}

-- ---- of what was kept

abbrev pub seen_of : Seen → Before
seen_of s = record { who = string_bytes s.who; asked = s.asked; call = string_bytes s.call; resumed = s.resumed; marked = s.marked; shown = s.shown }
