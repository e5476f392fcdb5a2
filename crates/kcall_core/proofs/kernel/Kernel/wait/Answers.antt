use Rattle.kcall_core.proofs.Prelude.{◌∙◌, answer_of, ap, HasChild, HasNoChild, IsReady, IsUnready, Kernel, Live, Makes, Own, refused, subst, sym, view_now, wait}
use Rattle.kcall_core.proofs.table.Stops.{now-slot}
use Rattle.kcall_core.proofs.turns.Chosen.{pid-told}
use Rattle.kcall_core.proofs.processes.WaitRows.{no-child, wait-unready, wait-ready, told-room}
use Rattle.kcall_core.proofs.kernel.Kernel.wait.Goals as goal

pub returns-then-not-has_child-clause-made : goal.returns-then-not-has_child-clause-made
returns-then-not-has_child-clause-made c =
    let k = c.args.self.now in
    let h = c.args.hart.now in
    let call = c.args.call.now in
    let pid = pid-told k c.running_slot-slot.result c.pid-pid.result (sym (now-slot c.running_slot-slot.result c.requires.whole.sound c.running_slot-slot.ensures.is)) c.pid-pid.ensures in
    let row = no-child k h c.requires.whole.sound c.requires.running call (subst (HasNoChild k.table) (sym pid) (c.has_child.ensures.none c.if-not-has_child.true)) in
    subst (λ (o : Own). Makes k h o c.refuse.new.self c.refuse.new.hart) (sym row) (c.refuse.ensures.made call)

pub returns-then-not-has_child-clause-answer : goal.returns-then-not-has_child-clause-answer
returns-then-not-has_child-clause-answer c =
    let k = c.args.self.now in
    let h = c.args.hart.now in
    let call = c.args.call.now in
    let pid = pid-told k c.running_slot-slot.result c.pid-pid.result (sym (now-slot c.running_slot-slot.result c.requires.whole.sound c.running_slot-slot.ensures.is)) c.pid-pid.ensures in
    let row = no-child k h c.requires.whole.sound c.requires.running call (subst (HasNoChild k.table) (sym pid) (c.has_child.ensures.none c.if-not-has_child.true)) in
    ap (λ (o : Own). o.answer) row ∙ ap (answer_of call.number) (sym c.refuse.ensures.end)

pub returns-then-not-ready_buffer-clause-made : goal.returns-then-not-ready_buffer-clause-made
returns-then-not-ready_buffer-clause-made c =
    let k = c.args.self.now in
    let h = c.args.hart.now in
    let call = c.args.call.now in
    let pid = pid-told k c.running_slot-slot.result c.pid-pid.result (sym (now-slot c.running_slot-slot.result c.requires.whole.sound c.running_slot-slot.ensures.is)) c.pid-pid.ensures in
    let unready = subst (λ n. IsUnready call.a0 n 0 k h) c.told_bytes.ensures (c.ready_buffer.ensures.unready c.if-not-ready_buffer.true h c.requires.whole) in
    let row = wait-unready k h c.requires.whole.sound c.requires.running call unready in
    let self = c.refuse-then-not-ready_buffer.new.self in
    let hart = c.refuse-then-not-ready_buffer.new.hart in
    subst (λ (o : Own). Makes k h o self hart) (sym row)
    (subst (λ (x : Kernel). Makes x h (refused call (view_now x h)) self hart) (c.ready_buffer.ensures.stays c.if-not-ready_buffer.true) (c.refuse-then-not-ready_buffer.ensures.made call))

pub returns-then-not-ready_buffer-clause-answer : goal.returns-then-not-ready_buffer-clause-answer
returns-then-not-ready_buffer-clause-answer c =
    let k = c.args.self.now in
    let h = c.args.hart.now in
    let call = c.args.call.now in
    let pid = pid-told k c.running_slot-slot.result c.pid-pid.result (sym (now-slot c.running_slot-slot.result c.requires.whole.sound c.running_slot-slot.ensures.is)) c.pid-pid.ensures in
    let unready = subst (λ n. IsUnready call.a0 n 0 k h) c.told_bytes.ensures (c.ready_buffer.ensures.unready c.if-not-ready_buffer.true h c.requires.whole) in
    let row = wait-unready k h c.requires.whole.sound c.requires.running call unready in
    ap (λ (o : Own). o.answer) row ∙ ap (answer_of call.number) (sym c.refuse-then-not-ready_buffer.ensures.end)

pub wait_ready-requires-clause-whole : goal.wait_ready-requires-clause-whole
wait_ready-requires-clause-whole c =
    let k = c.args.self.now in
    let h = c.args.hart.now in
    let call = c.args.call.now in
    let pid = pid-told k c.running_slot-slot.result c.pid-pid.result (sym (now-slot c.running_slot-slot.result c.requires.whole.sound c.running_slot-slot.ensures.is)) c.pid-pid.ensures in
    let ready = subst (λ n. IsReady call.a0 n 0 k h c.ready_buffer.new.self h) c.told_bytes.ensures (c.ready_buffer.ensures.ready c.if-not-ready_buffer.false h c.requires.whole) in
    ready.touched.whole

pub wait_ready-requires-clause-running : goal.wait_ready-requires-clause-running
wait_ready-requires-clause-running c =
    let k = c.args.self.now in
    let h = c.args.hart.now in
    let call = c.args.call.now in
    let pid = pid-told k c.running_slot-slot.result c.pid-pid.result (sym (now-slot c.running_slot-slot.result c.requires.whole.sound c.running_slot-slot.ensures.is)) c.pid-pid.ensures in
    let ready = subst (λ n. IsReady call.a0 n 0 k h c.ready_buffer.new.self h) c.told_bytes.ensures (c.ready_buffer.ensures.ready c.if-not-ready_buffer.false h c.requires.whole) in
    ready.touched.running

pub wait_ready-requires-clause-slot : goal.wait_ready-requires-clause-slot
wait_ready-requires-clause-slot c =
    let k = c.args.self.now in
    let h = c.args.hart.now in
    let call = c.args.call.now in
    let pid = pid-told k c.running_slot-slot.result c.pid-pid.result (sym (now-slot c.running_slot-slot.result c.requires.whole.sound c.running_slot-slot.ensures.is)) c.pid-pid.ensures in
    let ready = subst (λ n. IsReady call.a0 n 0 k h c.ready_buffer.new.self h) c.told_bytes.ensures (c.ready_buffer.ensures.ready c.if-not-ready_buffer.false h c.requires.whole) in
    ap (λ (x : Kernel). x.current) ready.touched.kernel ∙ c.running_slot-slot.ensures.is

pub wait_ready-requires-clause-unmarked : goal.wait_ready-requires-clause-unmarked
wait_ready-requires-clause-unmarked c =
    let k = c.args.self.now in
    let h = c.args.hart.now in
    let call = c.args.call.now in
    let pid = pid-told k c.running_slot-slot.result c.pid-pid.result (sym (now-slot c.running_slot-slot.result c.requires.whole.sound c.running_slot-slot.ensures.is)) c.pid-pid.ensures in
    let ready = subst (λ n. IsReady call.a0 n 0 k h c.ready_buffer.new.self h) c.told_bytes.ensures (c.ready_buffer.ensures.ready c.if-not-ready_buffer.false h c.requires.whole) in
    ap (λ (l : Live). l.killed) ready.touched.live ∙ c.requires.unmarked

pub wait_ready-requires-clause-in_call : goal.wait_ready-requires-clause-in_call
wait_ready-requires-clause-in_call c =
    let k = c.args.self.now in
    let h = c.args.hart.now in
    let call = c.args.call.now in
    let pid = pid-told k c.running_slot-slot.result c.pid-pid.result (sym (now-slot c.running_slot-slot.result c.requires.whole.sound c.running_slot-slot.ensures.is)) c.pid-pid.ensures in
    let ready = subst (λ n. IsReady call.a0 n 0 k h c.ready_buffer.new.self h) c.told_bytes.ensures (c.ready_buffer.ensures.ready c.if-not-ready_buffer.false h c.requires.whole) in
    ap (λ (l : Live). l.call) ready.touched.live ∙ c.requires.in_call

pub wait_ready-requires-clause-fits : goal.wait_ready-requires-clause-fits
wait_ready-requires-clause-fits c =
    let k = c.args.self.now in
    let h = c.args.hart.now in
    let call = c.args.call.now in
    let pid = pid-told k c.running_slot-slot.result c.pid-pid.result (sym (now-slot c.running_slot-slot.result c.requires.whole.sound c.running_slot-slot.ensures.is)) c.pid-pid.ensures in
    let ready = subst (λ n. IsReady call.a0 n 0 k h c.ready_buffer.new.self h) c.told_bytes.ensures (c.ready_buffer.ensures.ready c.if-not-ready_buffer.false h c.requires.whole) in
    told-room call c.running_slot-slot.result c.running_slot-slot.ensures.is ready

pub returns-clause-made : goal.returns-clause-made
returns-clause-made c =
    let k = c.args.self.now in
    let h = c.args.hart.now in
    let call = c.args.call.now in
    let pid = pid-told k c.running_slot-slot.result c.pid-pid.result (sym (now-slot c.running_slot-slot.result c.requires.whole.sound c.running_slot-slot.ensures.is)) c.pid-pid.ensures in
    let ready = subst (λ n. IsReady call.a0 n 0 k h c.ready_buffer.new.self h) c.told_bytes.ensures (c.ready_buffer.ensures.ready c.if-not-ready_buffer.false h c.requires.whole) in
    let row = wait-ready k h c.requires.whole.sound c.requires.running call (subst (HasChild k.table) (sym pid) (c.has_child.ensures.some c.if-not-has_child.false)) ready in
    ready.touched.makes (wait call (view_now k h)) c.wait_ready.new.self c.wait_ready.new.hart
    (subst (λ (o : Own). Makes c.ready_buffer.new.self h o c.wait_ready.new.self c.wait_ready.new.hart) (sym row) c.wait_ready.ensures.made)

pub returns-clause-answer : goal.returns-clause-answer
returns-clause-answer c =
    let k = c.args.self.now in
    let h = c.args.hart.now in
    let call = c.args.call.now in
    let pid = pid-told k c.running_slot-slot.result c.pid-pid.result (sym (now-slot c.running_slot-slot.result c.requires.whole.sound c.running_slot-slot.ensures.is)) c.pid-pid.ensures in
    let ready = subst (λ n. IsReady call.a0 n 0 k h c.ready_buffer.new.self h) c.told_bytes.ensures (c.ready_buffer.ensures.ready c.if-not-ready_buffer.false h c.requires.whole) in
    let row = wait-ready k h c.requires.whole.sound c.requires.running call (subst (HasChild k.table) (sym pid) (c.has_child.ensures.some c.if-not-has_child.false)) ready in
    ap (λ (o : Own). o.answer) row ∙ c.wait_ready.ensures.answer
