use Rattle.std.proofs.lemmas.Result.{IfOk-weaker}
use Rattle.recorded_runs.proofs.reading.record_of.Goals as goal

pub returns-clause-cut : goal.returns-clause-cut
returns-clause-cut c = IfOk-weaker c.cut_record.result _ _ (λ part is. (c.in_ok-record.record, c.in_ok-record.ensures.taken, is)) c.cut_record.ensures.cut
