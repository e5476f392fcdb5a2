use Rattle.kcall_core.proofs.Prelude.{◌+◌, ◌≡◌, arith, false, true}
use Rattle.kcall_core.proofs.making.Unwatched.{all-made, after-one, after-row, in-slot, none-made, stopped}
use Rattle.kcall_core.proofs.kernel.Kernel.steps_unwatched.Goals as goal

pub rows-init : goal.rows-init
rows-init c = none-made c.args.watch.now.addresses.now c.args.watch.now.bytes.now c.args.most c.args.self.now c.args.hart.now c.requires.whole c.requires.running c.requires.between_calls

pub steps_unwatched-made-requires-clause-running : goal.steps_unwatched-made-requires-clause-running
steps_unwatched-made-requires-clause-running c =
    in-slot c.args.watch.now.addresses.now c.args.watch.now.bytes.now c.args.most c.args.self.now c.args.hart.now c.rows.made c.rows.self c.rows.hart c.rows.invariant

pub returns-then-made-most : goal.returns-then-made-most
returns-then-made-most c =
    let e = c.steps_unwatched-made in
    let x = after-row c.args.watch.now.addresses.now c.args.watch.now.bytes.now c.args.most c.args.self.now c.args.hart.now c.rows.made c.rows.self c.rows.hart c.rows.invariant
    e.result e.new.self e.new.hart e.ensures.few e.ensures.row in
    let all : c.rows.made + e.result ≡ c.args.most = c.if-made-most.true in
    all-made c.args.watch.now.addresses.now c.args.watch.now.bytes.now c.args.most c.args.self.now c.args.hart.now (c.rows.made + e.result) _ e.new.hart x (omega (arith, all))

pub step_unwatched-requires-clause-sound : goal.step_unwatched-requires-clause-sound
step_unwatched-requires-clause-sound c =
    let e = c.steps_unwatched-made in
    (after-row c.args.watch.now.addresses.now c.args.watch.now.bytes.now c.args.most c.args.self.now c.args.hart.now c.rows.made c.rows.self c.rows.hart c.rows.invariant
    e.result e.new.self e.new.hart e.ensures.few e.ensures.row).whole.sound.memories

pub step_unwatched-requires-clause-running : goal.step_unwatched-requires-clause-running
step_unwatched-requires-clause-running c =
    let e = c.steps_unwatched-made in
    in-slot c.args.watch.now.addresses.now c.args.watch.now.bytes.now c.args.most c.args.self.now c.args.hart.now (c.rows.made + e.result) _ e.new.hart
    (after-row c.args.watch.now.addresses.now c.args.watch.now.bytes.now c.args.most c.args.self.now c.args.hart.now c.rows.made c.rows.self c.rows.hart c.rows.invariant
    e.result e.new.self e.new.hart e.ensures.few e.ensures.row)

pub returns-then-not-step_unwatched : goal.returns-then-not-step_unwatched
returns-then-not-step_unwatched c =
    let e = c.steps_unwatched-made in
    let x = after-row c.args.watch.now.addresses.now c.args.watch.now.bytes.now c.args.most c.args.self.now c.args.hart.now c.rows.made c.rows.self c.rows.hart c.rows.invariant
    e.result e.new.self e.new.hart e.ensures.few e.ensures.row in
    let one = c.step_unwatched in
    let none : one.result ≡ false = c.if-not-step_unwatched.true in
    stopped c.args.watch.now.addresses.now c.args.watch.now.bytes.now c.args.most c.args.self.now c.args.hart.now (c.rows.made + e.result) _ e.new.hart x
    one.result one.new.self one.new.hart none one.ensures

pub rows-preserved : goal.rows-preserved
rows-preserved c =
    let e = c.steps_unwatched-made in
    let x = after-row c.args.watch.now.addresses.now c.args.watch.now.bytes.now c.args.most c.args.self.now c.args.hart.now c.rows.made c.rows.self c.rows.hart c.rows.invariant
    e.result e.new.self e.new.hart e.ensures.few e.ensures.row in
    let one = c.step_unwatched in
    let done : one.result ≡ true = c.if-not-step_unwatched.false in
    after-one c.args.watch.now.addresses.now c.args.watch.now.bytes.now c.args.most c.args.self.now c.args.hart.now (c.rows.made + e.result) _ e.new.hart x
    one.result one.new.self one.new.hart done (omega (arith, x.fits, c.if-made-most.false)) one.ensures

pub returns : goal.returns
returns c = all-made c.args.watch.now.addresses.now c.args.watch.now.bytes.now c.args.most c.args.self.now c.args.hart.now c.rows.made c.rows.self c.rows.hart c.rows.invariant c.rows-test.false
