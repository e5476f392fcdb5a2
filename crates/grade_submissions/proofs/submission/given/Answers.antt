use Rattle.std.proofs.Common.{refl, sym, subst, None}
use Rattle.std.proofs.lemmas.Result.{IfOk-weaker}
use Rattle.std.specs.Prelude.{codes}
use Rattle.grade_submissions.specs.declared.disk.Found.{Found}
use Rattle.grade_submissions.specs.Files.{unfit_text, IsRefusedAs, IsFoundAs}
use Rattle.grade_submissions.proofs.submission.given.Goals as goal

pub returns-in-Nothing : goal.returns-in-Nothing
returns-in-Nothing c = subst (λ (found : Found). IsFoundAs c.args.file.now found None) (sym c.in-Nothing.is) refl

pub returns-in-NoFile : goal.returns-in-NoFile
returns-in-NoFile c =
    IfOk-weaker c.refused_for.result (IsRefusedAs (unfit_text c.args.file.now (codes "not a plain file"))) (IsFoundAs c.args.file.now c.args.found)
    (λ o is. subst (λ (found : Found). IsFoundAs c.args.file.now found o) (sym c.in-NoFile.is) is) c.refused_for.ensures

pub returns-in-TooLong : goal.returns-in-TooLong
returns-in-TooLong c =
    IfOk-weaker c.refused_for-in-TooLong.result (IsRefusedAs (unfit_text c.args.file.now (codes "too long"))) (IsFoundAs c.args.file.now c.args.found)
    (λ o is. subst (λ (found : Found). IsFoundAs c.args.file.now found o) (sym c.in-TooLong.is) is) c.refused_for-in-TooLong.ensures
