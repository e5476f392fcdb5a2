use Rattle.kcall_core.proofs.Prelude.{◌∙◌, ap, arith, frame_of, page_entry, sym}
use Rattle.kcall_core.proofs.memory.Roles.{page-there}
use Rattle.kcall_core.proofs.memories.frame_roles.role_below.Goals as goal

pub returns-in-Some-page_among-clause-some : goal.returns-in-Some-page_among-clause-some
returns-in-Some-page_among-clause-some c =
    let found = c.in-Some-page_among.ensures.some in
    ap (λ v. frame_of (page_entry c.args.ram.now c.args.root v)) c.new.ensures
    ∙ page-there c.args.ram.now c.args.root c.args.frame c.tables.page c.in-Some-lower_table.lower c.in-Some-page_among.entry c.tables.invariant.whole
    (omega (arith, found.0, c.min.ensures)) (sym c.in-Some-lower_table.ensures.table) found.1
