use Rattle.std.proofs.Common.{◌∙◌, ◌++◌, ◌∷◌, ℕ, List, take, drop, inl, inr, refl, sym, ap, subst, lit<}
use Rattle.std.proofs.lemmas.List.{take-append-drop}
use Rattle.std.proofs.lemmas.Str.Pattern.{NoCharPasses-char, drop_at_char}
use Rattle.grade_submissions.specs.Files.{HasNoSlash}
use Rattle.grade_submissions.proofs.host_files.behind_slash.Goals as goal

-- what stands behind the last slash
pub returns-in-Some : goal.returns-in-Some
returns-in-Some c =
    let path = c.args.path.now in
    let split = c.in-Some.ensures.cases in
    let free : HasNoSlash (drop split.1 path) = λ place within. NoCharPasses-char 47 (drop split.1 path) place split.2.0 (lit< tt) within in (
      subst HasNoSlash (sym split.4) free,
      inr (
        take split.0 path,
        sym (take-append-drop split.0 path) ∙ ap (λ (l : List ℕ). take split.0 path ++ l) (drop_at_char 47 path split.0 split.1 split.2.1 (lit< tt))
            ∙ ap (λ (l : List ℕ). take split.0 path ++ (47 ∷ l)) (sym split.4),
      ),
    )

-- there is no slash
pub returns-in-None : goal.returns-in-None
returns-in-None c = (λ place within. NoCharPasses-char 47 c.args.path.now place c.in-None.ensures.cases (lit< tt) within, inl refl)
