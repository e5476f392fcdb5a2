use Rattle.std.proofs.Common.{List, subst}
use Rattle.xv_record.specs.Chosen.{AreThere}
use Rattle.xv_record.specs.declared.sums.ProgramSum.{ProgramSum}
use Rattle.recorded_runs.proofs.reading.recorded_programs.Goals as goal

pub returns-in-Ok-clause-there : goal.returns-in-Ok-clause-there
returns-in-Ok-clause-there c = subst (λ (wanted : List ProgramSum). AreThere c.args.programs.now wanted) c.as_slice.ensures.value c.in-Ok.ensures.there
