use Rattle.xv_report.proofs.Numbers.{is-listed}
use Rattle.xv_report.proofs.laws.calls_by_numbers.Goals as goal

pub returns : goal.returns
returns c = record { is_listed = is-listed }
