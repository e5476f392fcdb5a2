use Rattle.std.proofs.lemmas.Result.{IfOk-weaker}
use Rattle.xv_record.specs.Told.{told}
use Rattle.xv_record.proofs.Taking.{taken-same}
use Rattle.xv_record.proofs.reading.take_record.Goals as goal

pub returns-clause-same : goal.returns-clause-same
returns-clause-same c = λ wanted ending are has.
    IfOk-weaker c.kept_if_begun.result _ _ (λ t h. taken-same c.args.text.now (told t.record) wanted t.ending ending c.starts_with-returns.result h.0 are h.1 has) c.kept_if_begun.ensures
