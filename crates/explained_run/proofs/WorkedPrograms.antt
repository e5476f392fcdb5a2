-- Worked cases of lines of one program alone.
use Rattle.std.proofs.Common.{◌≡◌, ◌∙◌, [], ℕ, Bool, List, false, true, None, Option, Some, String, ap, refl, rules}
use Rattle.std.specs.Prelude.{codes, if◌then◌else◌, string_bytes}
use Rattle.std.specs.declared.alloc.Global.{Global}
use Rattle.kernel_spec.specs.runs.Run.{Outcome, World}
use Rattle.kernel_spec.specs.views.State.{State}
use Rattle.xv_session.specs.declared.names.Named.{Named}
use Rattle.explained_run.specs.Asked.{IsAmong}
use Rattle.explained_run.specs.Chosen.{shows_process}
use Rattle.explained_run.specs.Lines.{told_by, told_of}
use Rattle.explained_run.specs.Seen.{before, name_in}
use Rattle.explained_run.specs.declared.choice.Choice.{Choice}

-- lines of a program
abbrev lines_of : (pid : Option ℕ) → (program : String Global) → Choice
lines_of pid program = record { lines = true; pid = pid; program = Some program; calls = None; failed = false; numbers = false; shown = 32 }

-- of wc that which a process does while it runs wc, and not what it does while it runs another program, or one that isn't known
wc_is_told : (program : String Global) → string_bytes program ≡ codes "wc" → shows_process (lines_of None program) 3 (Some (codes "wc")) ≡ true
wc_is_told program is = rw is refl

sh_is_not_told : (program : String Global) → string_bytes program ≡ codes "wc" → shows_process (lines_of None program) 3 (Some (codes "sh")) ≡ false
sh_is_not_told program is = rw is refl

a_longer_name_is_not_told : (program : String Global) → string_bytes program ≡ codes "wc" → shows_process (lines_of None program) 3 (Some (codes "wcx")) ≡ false
a_longer_name_is_not_told program is = rw is refl

an_unknown_program_is_not_told : (program : String Global) → shows_process (lines_of None program) 3 None ≡ false
an_unknown_program_is_not_told program = refl

-- with a process both have to hold
the_process_of_the_program : (program : String Global) → string_bytes program ≡ codes "wc" → shows_process (lines_of (Some 3) program) 3 (Some (codes "wc")) ≡ true
the_process_of_the_program program is = rw is refl

another_process_of_the_program : (program : String Global) → shows_process (lines_of (Some 3) program) 4 (Some (codes "wc")) ≡ false
another_process_of_the_program program = refl

another_program_of_the_process : (program : String Global) → string_bytes program ≡ codes "wc" → shows_process (lines_of (Some 3) program) 3 (Some (codes "sh")) ≡ false
another_program_of_the_process program is = rw is refl

-- nothing is told of an event of a process that runs another program before it
nothing_of_another_program : (program : String Global) (place : ℕ) (w : World) (names : List Named) (o : Outcome) (s : State)
    → string_bytes program ≡ codes "wc" → name_in w names 3 ≡ Some (codes "sh") → told_by (lines_of None program) place w names (Some 3) o s ≡ []
nothing_of_another_program program place w names o s is runs =
    let choice = lines_of None program in
    ap (λ (b : Bool). if b then told_of choice (before choice.numbers choice.shown place w names 3) s 3 o else [])
    (ap (λ (name : Option (List ℕ)). shows_process choice 3 name) runs ∙ sh_is_not_told program is)

-- any programs are good if none is asked for
any_programs_are_good : IsAmong None []
any_programs_are_good = tt

none_has_the_name : (program : String Global) → IsAmong (Some program) [] → ⊥
none_has_the_name program among = search (rules, among)
