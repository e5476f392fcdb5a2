use Rattle.std.proofs.Common.{◌≡◌, ◌∙◌, ℕ, List, sym, subst, rules}
use Rattle.std.specs.Prelude.{string_bytes}
use Rattle.std.specs.Str.{IsUtf8}
use Rattle.grade_submissions.specs.Files.{IsFolderOf, IsShownAs}
use Rattle.grade_submissions.specs.Results.{IsExerciseOf, IsWholeGrade, places_in}
use Rattle.grade_submissions.proofs.Making.{shown}
use Rattle.grade_submissions.proofs.grading.grade_submission.Goals as goal

pub returns : goal.returns
returns g c =
    let reads = g.D.Disk.reads c.args.disk.now in
    let own : List ℕ = c.in_ok-own_name.own_name.items in
    let path : List ℕ = string_bytes c.args.settings.now.exercise in
    let read = c.in_ok-read.read in
    let folder : List ℕ = c.folder_of.result.now in
    let name : c.as_bytes-name.result.now ≡ string_bytes c.in_ok-shown.shown = search rules in
    let shown_as : IsShownAs own c.as_bytes-name.result.now =
    λ utf8. name ∙ c.in_ok-shown.ensures (subst IsUtf8 (sym c.as_slice-2.ensures.value) utf8) ∙ c.as_slice-2.ensures.value in
    let is_folder : IsFolderOf path folder = subst (λ (p : List ℕ). IsFolderOf p folder) c.as_str-exercise.ensures.value c.folder_of.ensures in
    let is_read : IsExerciseOf reads path own read =
    subst (λ (p : List ℕ). IsExerciseOf reads p own read) c.as_str-exercise.ensures.value
    (subst (λ (n : List ℕ). IsExerciseOf reads c.as_str-exercise.result.now n read) c.as_slice.ensures.value c.in_ok-read.ensures) in
    let graded : IsWholeGrade reads (places_in folder c.args.folder.now (string_bytes c.in_ok-refused.refused)) read.exercise c.in_ok-grade.grade =
    subst (λ (text : List ℕ). IsWholeGrade reads (places_in folder c.args.folder.now text) read.exercise c.in_ok-grade.grade) c.as_str.ensures.value c.in_ok-grade.ensures in
    shown reads c.args.settings.now c.args.folder.now _ _ own read folder (string_bytes c.in_ok-refused.refused) c.in_ok-grade.grade c.as_bytes-name.result.now _
    c.in_ok-own_name.ensures is_read is_folder c.in_ok-refused.ensures graded shown_as (c.as_slice-4.ensures.value ∙ c.in-Ok.ensures) c.in_ok-put.ensures.written
