use Rattle.c_expressions.proofs.telling.value_line.Goals as goal

pub returns : goal.returns
returns g c = record { rows = c.in_ok-rows.rows; are = c.in_ok-rows.ensures; found = c.in_ok-found.found; is = c.in_ok-found.ensures; told = c.in_ok-line.ensures }
