use Rattle.xv_report.proofs.Guesses.{is-guess}
use Rattle.xv_report.proofs.laws.calls_without_a_table.Goals as goal

pub returns : goal.returns
returns c = record { is_guess = is-guess }
