use Rattle.dwarf.proofs.Prelude.{◌≡◌, arith, err_from_is_err_and, refl, sym}
use Rattle.dwarf.proofs.Items.{items-go_on, items-fail, items-out}
use Rattle.dwarf.specs.Files.{field, field_next, never}
use Rattle.dwarf.proofs.field.fields_at.Goals as goal

pub returns-in_err-field : goal.returns-in_err-field
returns-in_err-field c =
    let p = err_from_is_err_and c.from_residual.result c.from_residual.ensures.1 in
    rw (p.1, p.2) (items-fail never (field c.args.bytes.now) field_next c.loop.fields.items c.args.count c.loop.counter c.loop.next c.in_err-field.field-0.0 _
    c.loop-test.true refl (sym c.in_err-field.ensures) c.loop.invariant)

pub loop-preserved : goal.loop-preserved
loop-preserved c =
    rw c.in_ok-push.ensures.items (items-go_on never (field c.args.bytes.now) field_next c.loop.fields.items c.args.count c.loop.counter c.loop.next c.in_ok-field.field _
    c.loop-test.true refl (sym c.in_ok-field.ensures) c.loop.invariant)

pub returns : goal.returns
returns c = items-out never (field c.args.bytes.now) field_next c.loop.fields.items c.args.count c.loop.counter c.loop.next _ c.loop-test.false c.loop.invariant
