use Rattle.dwarf.proofs.Prelude.{◌≡◌, arith, err_from_is_err_and, refl, sym}
use Rattle.dwarf.proofs.Items.{items-go_on, items-fail, items-out}
use Rattle.dwarf.specs.Files.{entry, entry_next, never}
use Rattle.dwarf.proofs.entry_list.entries_at.Goals as goal

pub returns-in_err-entry : goal.returns-in_err-entry
returns-in_err-entry c =
    let p = err_from_is_err_and c.from_residual.result c.from_residual.ensures.1 in
    rw (p.1, p.2) (items-fail never (entry c.args.bytes.now c.args.is_wide c.args.fields.now) entry_next c.loop.entries.items c.args.count c.loop.counter c.loop.next c.in_err-entry.field-0.0 _
    c.loop-test.true refl (sym c.in_err-entry.ensures) c.loop.invariant)

pub loop-preserved : goal.loop-preserved
loop-preserved c =
    let item = entry c.args.bytes.now c.args.is_wide c.args.fields.now in
    rw c.in_ok-push.ensures.items (items-go_on never item entry_next c.loop.entries.items c.args.count c.loop.counter c.loop.next c.in_ok-entry.entry _
    c.loop-test.true refl (sym c.in_ok-entry.ensures) c.loop.invariant)

pub returns : goal.returns
returns c = items-out never (entry c.args.bytes.now c.args.is_wide c.args.fields.now) entry_next c.loop.entries.items c.args.count c.loop.counter c.loop.next _ c.loop-test.false c.loop.invariant
