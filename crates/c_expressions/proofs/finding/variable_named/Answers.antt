use Rattle.c_expressions.proofs.Named.{local-named, other-named}
use Rattle.c_expressions.proofs.finding.variable_named.Goals as goal

pub returns-in-Some : goal.returns-in-Some
returns-in-Some c =
    local-named c.args.rows.now.locals.items c.args.rows.now.globals.items c.as_slice.result.now c.args.name.now c.in-Some.row c.as_slice.ensures.value (rw c.in-Some.is at c.in_ok-local.ensures)

pub returns : goal.returns
returns c =
    other-named c.args.rows.now.locals.items c.args.rows.now.globals.items c.as_slice.result.now c.as_slice-2.result.now c.args.name.now c.in_ok-other.other
    c.as_slice.ensures.value c.as_slice-2.ensures.value (rw c.in_default.is at c.in_ok-local.ensures) c.in_ok-other.ensures
