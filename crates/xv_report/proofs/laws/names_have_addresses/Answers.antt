use Rattle.xv_report.proofs.Named.{has_address, is_counted}
use Rattle.xv_report.proofs.laws.names_have_addresses.Goals as goal

pub returns-clause-has_address : goal.returns-clause-has_address
returns-clause-has_address c = has_address

pub returns-clause-is_counted : goal.returns-clause-is_counted
returns-clause-is_counted c = is_counted
