use Rattle.dwarf.proofs.Prelude.{◌≡◌, arith, err_from_is_err_and, le-leb, length, lt-leb, sym}
use Rattle.dwarf.proofs.Frames.{frames-go_on, frames-fails, frames-end, frames-out}
use Rattle.dwarf.proofs.frame_program.run.Goals as goal

pub returns-then-at-bytes : goal.returns-then-at-bytes
returns-then-at-bytes c =
    let bytes = c.args.bytes.now in
    frames-end c.args.common.now bytes c.args.rules c.loop.rows.items (length bytes) c.loop.counter c.loop.at c.loop.state c.loop.kept.items _
    c.loop-test.true (le-leb _ _ (omega arith)) c.loop.invariant

pub returns-in_err-step : goal.returns-in_err-step
returns-in_err-step c =
    let bytes = c.args.bytes.now in
    let p = err_from_is_err_and c.from_residual.result c.from_residual.ensures.1 in
    rw (p.1, p.2) (frames-fails c.args.common.now bytes c.args.rules c.loop.rows.items (length bytes) c.loop.counter c.loop.at c.loop.state c.loop.kept.items c.in_err-step.field-0.0 _
    c.loop-test.true (lt-leb _ _ (omega arith)) c.in_err-step.ensures c.loop.invariant)

pub loop-preserved : goal.loop-preserved
loop-preserved c =
    let bytes = c.args.bytes.now in
    rw c.in_ok-add.ensures (frames-go_on c.args.common.now bytes c.args.rules c.loop.rows.items (length bytes) c.loop.counter c.loop.at c.loop.state c.loop.kept.items _ c.in_ok-step.step _
    c.loop-test.true (lt-leb _ _ (omega arith)) c.in_ok-step.ensures c.loop.invariant)

pub returns : goal.returns
returns c =
    let bytes = c.args.bytes.now in
    frames-out c.args.common.now bytes c.args.rules c.loop.rows.items (length bytes) c.loop.counter c.loop.at c.loop.state c.loop.kept.items _ c.loop-test.false c.loop.invariant
