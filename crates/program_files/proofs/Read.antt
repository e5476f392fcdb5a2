-- What is read of a file.
use Rattle.std.proofs.Common.{◌≡◌, ◌∙◌, ℕ, ◌+◌, ◌<◌, ◌≤◌, List, [], ◌∷◌, ◌++◌, length, take, get_or, String, string_bytes, Option, None, Some, IfSome, Result, Ok, Err, ap, arith, inl, inr, subst, sym}
use Rattle.std.specs.Prelude.{option_map, MatchResult}
use Rattle.std.specs.declared.alloc.Global.{Global}
use Rattle.std.proofs.lemmas.Bool.{cases_lt}
use Rattle.std.proofs.lemmas.List.{length-take-le, take_all, take_more}
use Rattle.xk_base.specs.declared.program.Program.{Program}
use Rattle.program_files.specs.Programs.{AreProgramsIn, IsProgramIn}

-- what is shorter than what may be read is all that there is
all-of : (n : ℕ) (rest bytes : List ℕ) → bytes ≡ take (n + 1) rest → length bytes ≤ n → bytes ≡ rest
all-of n rest bytes is short = elim (cases_lt (n + 1) (length rest)) [
  | inl many ↦ absurd (omega (arith, short, ap length is ∙ length-take-le (n + 1) rest (omega (arith, many))))
  | inr few ↦ is ∙ take_all (n + 1) rest few
]

pub all_known : (n : ℕ) (known : Option (List ℕ)) (bytes : List ℕ) → IfSome (option_map (take (n + 1)) known) (λ rest. bytes ≡ rest) → length bytes ≤ n → IfSome known (λ rest. bytes ≡ rest)
all_known n None bytes is short = tt
all_known n (Some rest) bytes is short = all-of n rest bytes is short

-- a file that was opened
pub opened : {F E : Type 0} (known : F → Option (List ℕ)) (file : Result F E) (path : List ℕ) (program : Program)
    → MatchResult file (λ f. IsProgramIn path (known f) program) (λ _. ⊥) → IsProgramIn path None program
opened known (Ok f) path program made = record { bytes = made.bytes; read = record { short = made.read.short; all = tt }; made = made.made }
opened known (Err e) path program made = absurd made

programs-one : (paths : List (String Global)) (programs : List Program) (path : String Global) (program : Program) → AreProgramsIn paths programs
    → IsProgramIn (string_bytes path) None program → AreProgramsIn (paths ++ path ∷ []) (programs ++ program ∷ [])
programs-one [] [] path program all here = (here, tt)
programs-one [] (other ∷ programs) path program all here = absurd all
programs-one (other ∷ paths) [] path program all here = absurd all
programs-one (other ∷ paths) (its ∷ programs) path program all here = (all.0, programs-one paths programs path program all.1 here)

-- the program of the file at a place, behind those of all before it
pub programs_more : (paths : List (String Global)) (programs : List Program) (n : ℕ) (path : String Global) (program : Program) → n < length paths
    → path ≡ get_or paths n path → AreProgramsIn (take n paths) programs → IsProgramIn (string_bytes path) None program
    → AreProgramsIn (take (n + 1) paths) (programs ++ program ∷ [])
programs_more paths programs n path program within is all here =
    let is_that : take (n + 1) paths ≡ take n paths ++ path ∷ [] = take_more paths n path within ∙ ap (λ (p : String Global). take n paths ++ p ∷ []) (sym is) in
    subst (λ (ps : List (String Global)). AreProgramsIn ps (programs ++ program ∷ [])) (sym is_that) (programs-one (take n paths) programs path program all here)
