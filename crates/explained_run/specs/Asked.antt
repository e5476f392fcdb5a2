-- What the words of a command line ask for, and what the exit status says of it.
use Rattle.std.specs.Prelude.{◌≡◌, ◌⊎◌, ◌==◌, ℕ, Bool, true, List, map, ⊤, Option, None, Some, String, Vec, bytes_eq, not, option_map, string_bytes}
use Rattle.std.specs.List.{Contains, list_any, slice_split}
use Rattle.std.specs.declared.alloc.Global.{Global}
use Rattle.kernel_calls.specs.Table.{call_named}
use Rattle.kernel_calls.specs.declared.call.KernelCall.{KernelCall}
use Rattle.program_files.specs.Statuses.{IsPlainStatus}
use Rattle.recorded_runs.specs.Statuses.{IsAskedStatus, IsStatusOfReplay}
use Rattle.run_work.specs.Runs.{IsStatusOfRun}
use Rattle.xk_base.specs.declared.program.Program.{Program}
use Rattle.xv_machine.specs.declared.driving.RunPlan.{RunPlan}
use Rattle.xv_machine.specs.declared.machine.Config.{Config}
use Rattle.explained_run.specs.Ranges.{AreInRange}
use Rattle.explained_run.specs.declared.asking.Refusal.{Refusal}
use Rattle.explained_run.specs.declared.asking.Refusal.TheVariants.{NoCall, OutOfMemory}
use Rattle.explained_run.specs.declared.choice.Choice.{Choice}
use Rattle.explained_run.specs.declared.line.Settings.{Settings}

-- ---- which lines

-- the names of a list, with a comma (44) between each two
abbrev pub names_in : (list : List ℕ) → List (List ℕ)
names_in list = slice_split (λ b. b == 44) list

-- the calls of these names, one for each, in their order
abbrev pub AreCallsOf : (names : List (List ℕ)) → List KernelCall → Type 0
AreCallsOf names calls = map call_named names ≡ map Some calls

-- the calls of the list that is given; any if none is given
abbrev pub AreCallsAsked : (list : Option (String Global)) → Option (Vec KernelCall Global) → Type 0
AreCallsAsked None None = ⊤
AreCallsAsked None (Some calls) = ⊥
AreCallsAsked (Some list) None = ⊥
AreCallsAsked (Some list) (Some calls) = AreCallsOf (names_in (string_bytes list)) calls.items

-- lines, unless a table is asked for; those that the settings leave
pub record IsChoiceOf (s : Settings) (choice : Choice) : Type 0 where
  pub lines : choice.lines ≡ not s.count
  pub pid : choice.pid ≡ s.pid
  pub program : option_map (λ (t : String Global). string_bytes t) choice.program ≡ option_map (λ (t : String Global). string_bytes t) s.program
  pub calls : AreCallsAsked s.calls choice.calls
  pub failed : choice.failed ≡ s.failed
  pub numbers : choice.numbers ≡ s.numbers
  pub shown : choice.shown ≡ s.shown

-- this is one of the names, and no call has it
abbrev pub IsNoCallIn : (names : List (List ℕ)) → (name : List ℕ) → Type 0
IsNoCallIn names name = Contains names name × (call_named name ≡ None)

-- why no calls are had of these names: no call has one of them, or the host has too little memory
abbrev pub AreRefused : (names : List (List ℕ)) → Refusal → Type 0
AreRefused names (NoCall name) = IsNoCallIn names name.now
AreRefused names OutOfMemory = ⊤

-- and why the settings ask for no lines: for one of the names of their list, or for memory
abbrev pub IsRefused : (list : Option (String Global)) → Refusal → Type 0
IsRefused list OutOfMemory = ⊤
IsRefused None (NoCall name) = ⊥
IsRefused (Some list) (NoCall name) = IsNoCallIn (names_in (string_bytes list)) name.now

-- the exit status if the settings are refused: the words are, or memory is short
abbrev pub refusal_status : Refusal → ℕ
refusal_status (NoCall name) = 1
refusal_status OutOfMemory = 2

-- ---- which programs

-- one of these programs has this name
abbrev pub has_program : List Program → (name : List ℕ) → Bool
has_program programs name = list_any (λ (p : Program). bytes_eq p.name.items name) programs

-- one of these programs has the name that is asked for, if one is
abbrev pub IsAmong : (asked : Option (String Global)) → List Program → Type 0
IsAmong None programs = ⊤
IsAmong (Some name) programs = has_program programs (string_bytes name) ≡ true

-- ---- which run

abbrev pub config_of : Settings → Config
config_of s = record { frames = s.frames; trace = s.trace }

abbrev pub plan_of : Settings → RunPlan
plan_of s = record { rounds = s.rounds; quantum = s.quantum }

-- What the exit status says of the settings: what it says of the record that they name, or of a run of their FILEs if they name none
abbrev pub IsStatusOf : Settings → (status : ℕ) → Type 0
IsStatusOf s status =
    IsAskedStatus s.replay status (IsStatusOfRun status (config_of s) (plan_of s) s.files.items) (λ asked. IsStatusOfReplay status s.trace asked s.files.items)

-- What it says of any words: that they give no settings, or name no call; or what it says of their settings
abbrev pub IsStatusOfWords : (status : ℕ) → Type 0
IsStatusOfWords status = IsPlainStatus status ⊎ ((s : Settings) × AreInRange s × IsStatusOf s status)
