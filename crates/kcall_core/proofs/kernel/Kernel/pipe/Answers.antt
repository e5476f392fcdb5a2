use Rattle.kcall_core.proofs.Prelude.{◌&&◌, ◌∙◌, answer_of, ap, descriptors_at, is_none, Kernel, least_below, make_pipe, Makes, named_by, nat_lt, NOFILE, Own, pipe_no_read, pipe_no_write, position}
use Rattle.kcall_core.proofs.Prelude.{refused, state_of, subst, sym, view_now}
use Rattle.kcall_core.proofs.files.Lowest.{lowest-shown, above-shown}
use Rattle.kcall_core.proofs.files.PipeMakes.{pipe-unready, pipe-ready}
use Rattle.kcall_core.proofs.kernel.Kernel.pipe.Goals as goal

pub descriptors-requires : goal.descriptors-requires
descriptors-requires c =
    let k = c.args.self.now in
    let h = c.args.hart.now in
    let slot = c.running_slot-slot.result in
    let inside = c.running_slot-slot.ensures.within in
    inside

pub returns-in_default-clause-made : goal.returns-in_default-clause-made
returns-in_default-clause-made c =
    let k = c.args.self.now in
    let h = c.args.hart.now in
    let slot = c.running_slot-slot.result in
    let inside = c.running_slot-slot.ensures.within in
    let told = ap (position is_none) (sym c.descriptors.ensures) ∙ sym c.lowest.ensures ∙ c.in_default.is in
    let row = pipe_no_read c.args.call.now (view_now k h) (lowest-shown c.requires.whole c.requires.running c.running_slot-slot.ensures.is inside ∙ told) in
    subst (λ (o : Own). Makes k h o c.refuse.new.self c.refuse.new.hart) (sym row) (c.refuse.ensures.made c.args.call.now)

pub returns-in_default-clause-answer : goal.returns-in_default-clause-answer
returns-in_default-clause-answer c =
    let k = c.args.self.now in
    let h = c.args.hart.now in
    let slot = c.running_slot-slot.result in
    let inside = c.running_slot-slot.ensures.within in
    let told = ap (position is_none) (sym c.descriptors.ensures) ∙ sym c.lowest.ensures ∙ c.in_default.is in
    let row = pipe_no_read c.args.call.now (view_now k h) (lowest-shown c.requires.whole c.requires.running c.running_slot-slot.ensures.is inside ∙ told) in
    ap (λ (o : Own). o.answer) row ∙ ap (answer_of c.args.call.now.number) (sym c.refuse.ensures.end)

pub lowest_above-requires : goal.lowest_above-requires
lowest_above-requires c =
    let k = c.args.self.now in
    let h = c.args.hart.now in
    let slot = c.running_slot-slot.result in
    let inside = c.running_slot-slot.ensures.within in
    inside

pub returns-in_default-lowest_above-clause-made : goal.returns-in_default-lowest_above-clause-made
returns-in_default-lowest_above-clause-made c =
    let k = c.args.self.now in
    let h = c.args.hart.now in
    let slot = c.running_slot-slot.result in
    let inside = c.running_slot-slot.ensures.within in
    let told = ap (position is_none) (sym c.descriptors.ensures) ∙ sym c.lowest.ensures ∙ c.in-Some.is in
    let least = lowest-shown c.requires.whole c.requires.running c.running_slot-slot.ensures.is inside ∙ told in
    let row = pipe_no_write c.args.call.now (view_now k h) c.in-Some.read least
    (above-shown c.requires.whole c.requires.running c.running_slot-slot.ensures.is c.in-Some.read ∙ sym c.lowest_above.ensures
    ∙ c.in_default-lowest_above.is) in
    subst (λ (o : Own). Makes k h o c.refuse-in_default-lowest_above.new.self c.refuse-in_default-lowest_above.new.hart) (sym row) (c.refuse-in_default-lowest_above.ensures.made c.args.call.now)

pub returns-in_default-lowest_above-clause-answer : goal.returns-in_default-lowest_above-clause-answer
returns-in_default-lowest_above-clause-answer c =
    let k = c.args.self.now in
    let h = c.args.hart.now in
    let slot = c.running_slot-slot.result in
    let inside = c.running_slot-slot.ensures.within in
    let told = ap (position is_none) (sym c.descriptors.ensures) ∙ sym c.lowest.ensures ∙ c.in-Some.is in
    let least = lowest-shown c.requires.whole c.requires.running c.running_slot-slot.ensures.is inside ∙ told in
    let row = pipe_no_write c.args.call.now (view_now k h) c.in-Some.read least
    (above-shown c.requires.whole c.requires.running c.running_slot-slot.ensures.is c.in-Some.read ∙ sym c.lowest_above.ensures
    ∙ c.in_default-lowest_above.is) in
    ap (λ (o : Own). o.answer) row ∙ ap (answer_of c.args.call.now.number) (sym c.refuse-in_default-lowest_above.ensures.end)

pub returns-then-not-ready_buffer-clause-made : goal.returns-then-not-ready_buffer-clause-made
returns-then-not-ready_buffer-clause-made c =
    let k = c.args.self.now in
    let h = c.args.hart.now in
    let call = c.args.call.now in
    let row = pipe-unready k h call (c.ready_buffer.ensures.unready c.if-not-ready_buffer.true h c.requires.whole) in
    let self = c.refuse-then-not-ready_buffer.new.self in
    let hart = c.refuse-then-not-ready_buffer.new.hart in
    subst (λ (o : Own). Makes k h o self hart) (sym row)
    (subst (λ (x : Kernel). Makes x h (refused call (view_now x h)) self hart) (c.ready_buffer.ensures.stays c.if-not-ready_buffer.true) (c.refuse-then-not-ready_buffer.ensures.made call))

pub returns-then-not-ready_buffer-clause-answer : goal.returns-then-not-ready_buffer-clause-answer
returns-then-not-ready_buffer-clause-answer c =
    let row = pipe-unready c.args.self.now c.args.hart.now c.args.call.now (c.ready_buffer.ensures.unready c.if-not-ready_buffer.true c.args.hart.now c.requires.whole) in
    ap (λ (o : Own). o.answer) row ∙ ap (answer_of c.args.call.now.number) (sym c.refuse-then-not-ready_buffer.ensures.end)

pub pipe_ready-requires-clause-whole : goal.pipe_ready-requires-clause-whole
pipe_ready-requires-clause-whole c = (c.ready_buffer.ensures.ready c.if-not-ready_buffer.false c.args.hart.now c.requires.whole).touched.whole

pub pipe_ready-requires-clause-running : goal.pipe_ready-requires-clause-running
pipe_ready-requires-clause-running c = (c.ready_buffer.ensures.ready c.if-not-ready_buffer.false c.args.hart.now c.requires.whole).touched.running

pub pipe_ready-requires-clause-slot : goal.pipe_ready-requires-clause-slot
pipe_ready-requires-clause-slot c =
    ap (λ (x : Kernel). x.current) (c.ready_buffer.ensures.ready c.if-not-ready_buffer.false c.args.hart.now c.requires.whole).touched.kernel
    ∙ c.running_slot-slot.ensures.is

pub pipe_ready-requires-clause-read : goal.pipe_ready-requires-clause-read
pipe_ready-requires-clause-read c =
    let ready = c.ready_buffer.ensures.ready c.if-not-ready_buffer.false c.args.hart.now c.requires.whole in
    ap (λ (x : Kernel). position is_none (descriptors_at x.table c.running_slot-slot.result)) ready.touched.kernel
    ∙ ap (position is_none) (sym c.descriptors.ensures) ∙ sym c.lowest.ensures ∙ c.in-Some.is

pub pipe_ready-requires-clause-write : goal.pipe_ready-requires-clause-write
pipe_ready-requires-clause-write c =
    let ready = c.ready_buffer.ensures.ready c.if-not-ready_buffer.false c.args.hart.now c.requires.whole in
    ap (λ (x : Kernel). least_below (λ d. nat_lt c.in-Some.read d && is_none (named_by (descriptors_at x.table c.running_slot-slot.result) d)) NOFILE)
    ready.touched.kernel ∙ sym c.lowest_above.ensures ∙ c.in-Some-lowest_above.is

pub pipe_ready-requires-clause-there : goal.pipe_ready-requires-clause-there
pipe_ready-requires-clause-there c = (c.ready_buffer.ensures.ready c.if-not-ready_buffer.false c.args.hart.now c.requires.whole).there

pub pipe_ready-requires-clause-frame : goal.pipe_ready-requires-clause-frame
unfolding state_of
pipe_ready-requires-clause-frame c = (c.ready_buffer.ensures.ready c.if-not-ready_buffer.false c.args.hart.now c.requires.whole).free

pub returns-clause-made : goal.returns-clause-made
returns-clause-made c =
    let k = c.args.self.now in
    let h = c.args.hart.now in
    let slot = c.running_slot-slot.result in
    let inside = c.running_slot-slot.ensures.within in
    let told = ap (position is_none) (sym c.descriptors.ensures) ∙ sym c.lowest.ensures ∙ c.in-Some.is in
    let least = lowest-shown c.requires.whole c.requires.running c.running_slot-slot.ensures.is inside ∙ told in
    let above = above-shown c.requires.whole c.requires.running c.running_slot-slot.ensures.is c.in-Some.read ∙ sym c.lowest_above.ensures ∙ c.in-Some-lowest_above.is in
    let ready = c.ready_buffer.ensures.ready c.if-not-ready_buffer.false h c.requires.whole in
    let row = pipe-ready k h c.args.call.now c.in-Some.read c.in-Some-lowest_above.write least above ready in
    ready.touched.makes (make_pipe c.args.call.now (view_now k h)) c.pipe_ready.new.self c.pipe_ready.new.hart
    (subst (λ (o : Own). Makes c.ready_buffer.new.self h o c.pipe_ready.new.self c.pipe_ready.new.hart) (sym row) c.pipe_ready.ensures.made)

pub returns-clause-answer : goal.returns-clause-answer
returns-clause-answer c =
    let k = c.args.self.now in
    let h = c.args.hart.now in
    let slot = c.running_slot-slot.result in
    let inside = c.running_slot-slot.ensures.within in
    let told = ap (position is_none) (sym c.descriptors.ensures) ∙ sym c.lowest.ensures ∙ c.in-Some.is in
    let least = lowest-shown c.requires.whole c.requires.running c.running_slot-slot.ensures.is inside ∙ told in
    let above = above-shown c.requires.whole c.requires.running c.running_slot-slot.ensures.is c.in-Some.read ∙ sym c.lowest_above.ensures ∙ c.in-Some-lowest_above.is in
    let ready = c.ready_buffer.ensures.ready c.if-not-ready_buffer.false h c.requires.whole in
    ap (λ (o : Own). o.answer) (pipe-ready k h c.args.call.now c.in-Some.read c.in-Some-lowest_above.write least above ready) ∙ c.pipe_ready.ensures.answer
