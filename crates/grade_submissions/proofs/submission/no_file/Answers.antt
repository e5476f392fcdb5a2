use Rattle.std.proofs.Common.{◌≡◌, ◌∙◌, ◌++◌, ℕ, List, take, sym, ap, append_assoc}
use Rattle.std.specs.Prelude.{string_bytes}
use Rattle.grade_submissions.specs.Files.{no_file_text}
use Rattle.grade_submissions.proofs.Handed.{joint, no_file_more}
use Rattle.grade_submissions.proofs.submission.no_file.Goals as goal

-- a file more
pub loop-place-preserved : goal.loop-place-preserved
loop-place-preserved c =
    let files = c.args.files.now in
    let place = c.loop-place.place in
    let before : List ℕ = no_file_text (take place files) in
    let file : List ℕ = string_bytes c.index-files-place.result in
    let joined : string_bytes c.push_str.new.self ≡ before ++ joint place =
    c.in_ok-push_str.ensures.bytes ∙ ap (λ (text : List ℕ). text ++ c.joint.result.now) c.loop-place.invariant ∙ ap (λ (between : List ℕ). before ++ between) c.joint.ensures in
    c.in_ok-push_str-2.ensures.bytes ∙ ap (λ (name : List ℕ). string_bytes c.push_str.new.self ++ name) c.as_str.ensures.value ∙ ap (λ (text : List ℕ). text ++ file) joined
    ∙ append_assoc before (joint place) file ∙ sym (no_file_more files place c.index-files-place.result c.loop-place-test.true c.index-files-place.is)
