-- Results, and programs, that are collected one by one.
use Rattle.std.proofs.Common.{◌≡◌, ℕ, ◌+◌, ◌<◌, List, [], ◌∷◌, ◌++◌, length, take, get_or, sym, ap, subst, ◌∙◌}
use Rattle.std.proofs.lemmas.List.{take_more}
use Rattle.std.specs.Prelude.{String, string_bytes}
use Rattle.std.specs.declared.alloc.Global.{Global}
use Rattle.grade_sheets.specs.declared.exercise.Run.{Run}
use Rattle.grade_sheets.specs.declared.grade.RunGrade.{RunGrade}
use Rattle.xk_base.specs.declared.program.Program.{Program}
use Rattle.grade_submissions.specs.Disks.{Reads}
use Rattle.grade_submissions.specs.Files.{IsFoundIn, AreFoundIn}
use Rattle.grade_submissions.specs.Results.{Places, IsResultOf, AreResultsOf}

module _ (reads : Reads) (places : Places) where
  one_more : (runs : List Run) (grades : List RunGrade) (run : Run) (grade : RunGrade) → AreResultsOf reads places runs grades → IsResultOf reads places run grade
      → AreResultsOf reads places (runs ++ run ∷ []) (grades ++ grade ∷ [])
  one_more [] [] run grade all here = (here, tt)
  one_more [] (other ∷ grades) run grade all here = absurd all
  one_more (other ∷ runs) [] run grade all here = absurd all
  one_more (other ∷ runs) (its ∷ grades) run grade all here = (all.0, one_more runs grades run grade all.1 here)

  -- the result of the run at a place, behind those of all before it
  pub result_more : (runs : List Run) (grades : List RunGrade) (place : ℕ) (run : Run) (grade : RunGrade) → place < length runs
      → run ≡ get_or runs place run → AreResultsOf reads places (take place runs) grades → IsResultOf reads places run grade
      → AreResultsOf reads places (take (place + 1) runs) (grades ++ grade ∷ [])
  result_more runs grades place run grade within is all here =
      let is_that : take (place + 1) runs ≡ take place runs ++ run ∷ [] = take_more runs place run within ∙ ap (λ (r : Run). take place runs ++ r ∷ []) (sym is) in
      subst (λ (rs : List Run). AreResultsOf reads places rs (grades ++ grade ∷ [])) (sym is_that) (one_more (take place runs) grades run grade all here)

module _ (reads : Reads) (folder : List ℕ) where
  found-one : (files : List (String Global)) (programs : List Program) (file : String Global) (program : Program) → AreFoundIn reads folder files programs
      → IsFoundIn reads folder (string_bytes file) program → AreFoundIn reads folder (files ++ file ∷ []) (programs ++ program ∷ [])
  found-one [] [] file program all here = (here, tt)
  found-one [] (other ∷ programs) file program all here = absurd all
  found-one (other ∷ files) [] file program all here = absurd all
  found-one (other ∷ files) (its ∷ programs) file program all here = (all.0, found-one files programs file program all.1 here)

  -- the program of the file at a place, behind those of all before it
  pub found_more : (files : List (String Global)) (programs : List Program) (place : ℕ) (file : String Global) (program : Program) → place < length files
      → file ≡ get_or files place file → AreFoundIn reads folder (take place files) programs → IsFoundIn reads folder (string_bytes file) program
      → AreFoundIn reads folder (take (place + 1) files) (programs ++ program ∷ [])
  found_more files programs place file program within is all here =
      let is_that : take (place + 1) files ≡ take place files ++ file ∷ [] = take_more files place file within ∙ ap (λ (f : String Global). take place files ++ f ∷ []) (sym is) in
      subst (λ (fs : List (String Global)). AreFoundIn reads folder fs (programs ++ program ∷ [])) (sym is_that) (found-one (take place files) programs file program all here)
