use Rattle.dwarf.proofs.Prelude.{◌∙◌, ◌≡◌, arith, err_from_is_err_and, length, sym}
use Rattle.dwarf.proofs.Items.{items-go_on, items-fail, items-end, items-out}
use Rattle.dwarf.specs.Files.{entry_next, is_end, old_file}
use Rattle.dwarf.proofs.entry_list.old_files.Goals as goal

pub returns-then-is_end : goal.returns-then-is_end
returns-then-is_end c =
    let bytes = c.args.bytes.now in
    items-end (is_end bytes) (old_file bytes) entry_next c.loop.entries.items (length bytes) c.loop.counter c.loop.next _
    c.loop-test.true (sym c.is_end.ensures ∙ c.if-is_end.true) c.loop.invariant

pub returns-in_err-entry : goal.returns-in_err-entry
returns-in_err-entry c =
    let bytes = c.args.bytes.now in
    let p = err_from_is_err_and c.from_residual.result c.from_residual.ensures.1 in
    rw (p.1, p.2) (items-fail (is_end bytes) (old_file bytes) entry_next c.loop.entries.items (length bytes) c.loop.counter c.loop.next c.in_err-entry.field-0.0 _
    c.loop-test.true (sym c.is_end.ensures ∙ c.if-is_end.false) (sym c.in_err-entry.ensures) c.loop.invariant)

pub loop-preserved : goal.loop-preserved
loop-preserved c =
    let bytes = c.args.bytes.now in
    rw c.in_ok-push.ensures.items (items-go_on (is_end bytes) (old_file bytes) entry_next c.loop.entries.items (length bytes) c.loop.counter c.loop.next c.in_ok-entry.entry _
    c.loop-test.true (sym c.is_end.ensures ∙ c.if-is_end.false) (sym c.in_ok-entry.ensures) c.loop.invariant)

pub returns : goal.returns
returns c =
    let bytes = c.args.bytes.now in
    items-out (is_end bytes) (old_file bytes) entry_next c.loop.entries.items (length bytes) c.loop.counter c.loop.next _ c.loop-test.false c.loop.invariant
