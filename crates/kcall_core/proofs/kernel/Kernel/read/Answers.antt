use Rattle.kcall_core.proofs.Prelude.{◌∙◌, answer_of, ap, get, Kernel, Live, Makes, ne_eqb, Own, pos, read, refl, refused, subst, sym, view_now}
use Rattle.kcall_core.proofs.making.Touching.{files-stay}
use Rattle.kcall_core.proofs.making.CallAnswers.{done-at-once}
use Rattle.kcall_core.proofs.files.MovingRows.{read-nothing, read-unready, read-ready}
use Rattle.kcall_core.proofs.kernel.Kernel.read.Goals as goal

pub returns-in_default-clause-made : goal.returns-in_default-clause-made
returns-in_default-clause-made c =
    subst (λ (o : Own). Makes c.args.self.now c.args.hart.now o c.refuse.new.self c.refuse.new.hart)
    (sym (c.in_default.ensures.refused c.args.hart.now c.requires.whole)) (c.refuse.ensures.made c.args.call.now)

pub returns-in_default-clause-answer : goal.returns-in_default-clause-answer
returns-in_default-clause-answer c =
    ap (λ (o : Own). o.answer) (c.in_default.ensures.refused c.args.hart.now c.requires.whole) ∙ ap (answer_of c.args.call.now.number) (sym c.refuse.ensures.end)

pub returns-then-asked-eq0-clause-made : goal.returns-then-asked-eq0-clause-made
returns-then-asked-eq0-clause-made c =
    let k = c.args.self.now in
    let h = c.args.hart.now in
    let a = c.in-Some.ensures.asked h c.requires.whole in
    let row = read-nothing c.args.call.now c.requires.whole c.requires.running a.below a.number a.source c.in-Some.ensures.allowed (a.count ∙ ap pos c.if-asked-eq0.true) in
    subst (λ (o : Own). Makes k h o c.done.new.self c.done.new.hart) (sym row)
    (done-at-once c.args.call.now (pos 0) refl c.requires.whole c.requires.running
    (record { sound = c.done.ensures.sound; kernel = c.done.ensures.kernel; state = c.done.ensures.state }))

pub returns-then-asked-eq0-clause-answer : goal.returns-then-asked-eq0-clause-answer
returns-then-asked-eq0-clause-answer c =
    let k = c.args.self.now in
    let h = c.args.hart.now in
    let a = c.in-Some.ensures.asked h c.requires.whole in
    let row = read-nothing c.args.call.now c.requires.whole c.requires.running a.below a.number a.source c.in-Some.ensures.allowed (a.count ∙ ap pos c.if-asked-eq0.true) in
    ap (λ (o : Own). o.answer) row ∙ ap (answer_of c.args.call.now.number) (sym c.done.ensures.end)

pub returns-then-not-room_is_there-clause-made : goal.returns-then-not-room_is_there-clause-made
returns-then-not-room_is_there-clause-made c =
    let k = c.args.self.now in
    let h = c.args.hart.now in
    let a = c.in-Some.ensures.asked h c.requires.whole in
    let some = ne_eqb c.in-Some.asked.count 0 c.if-asked-eq0.false in
    let row = read-unready c.args.call.now c.requires.whole c.requires.running a.below a.number a.source c.in-Some.ensures.allowed
    c.in-Some.asked.count a.count some (c.room_is_there.ensures.unready c.if-not-room_is_there.true h c.requires.whole) in
    let self = c.refuse-then-not-room_is_there.new.self in
    let hart = c.refuse-then-not-room_is_there.new.hart in
    subst (λ (o : Own). Makes k h o self hart) (sym row)
    (subst (λ (x : Kernel). Makes x h (refused c.args.call.now (view_now x h)) self hart) (c.room_is_there.ensures.stays c.if-not-room_is_there.true)
    (c.refuse-then-not-room_is_there.ensures.made c.args.call.now))

pub returns-then-not-room_is_there-clause-answer : goal.returns-then-not-room_is_there-clause-answer
returns-then-not-room_is_there-clause-answer c =
    let k = c.args.self.now in
    let h = c.args.hart.now in
    let a = c.in-Some.ensures.asked h c.requires.whole in
    let some = ne_eqb c.in-Some.asked.count 0 c.if-asked-eq0.false in
    let row = read-unready c.args.call.now c.requires.whole c.requires.running a.below a.number a.source c.in-Some.ensures.allowed
    c.in-Some.asked.count a.count some (c.room_is_there.ensures.unready c.if-not-room_is_there.true h c.requires.whole) in
    ap (λ (o : Own). o.answer) row ∙ ap (answer_of c.args.call.now.number) (sym c.refuse-then-not-room_is_there.ensures.end)

pub read_from-requires-clause-whole : goal.read_from-requires-clause-whole
read_from-requires-clause-whole c =
    let ready = c.room_is_there.ensures.ready c.if-not-room_is_there.false c.args.hart.now c.requires.whole in
    ready.touched.whole

pub read_from-requires-clause-running : goal.read_from-requires-clause-running
read_from-requires-clause-running c =
    let ready = c.room_is_there.ensures.ready c.if-not-room_is_there.false c.args.hart.now c.requires.whole in
    ready.touched.running

pub read_from-requires-clause-slot : goal.read_from-requires-clause-slot
read_from-requires-clause-slot c =
    let ready = c.room_is_there.ensures.ready c.if-not-room_is_there.false c.args.hart.now c.requires.whole in
    ap (λ (x : Kernel). x.current) ready.touched.kernel ∙ c.running_slot-slot.ensures.is

pub read_from-requires-clause-unmarked : goal.read_from-requires-clause-unmarked
read_from-requires-clause-unmarked c =
    let ready = c.room_is_there.ensures.ready c.if-not-room_is_there.false c.args.hart.now c.requires.whole in
    ap (λ (l : Live). l.killed) ready.touched.live ∙ c.requires.unmarked

pub read_from-requires-clause-in_call : goal.read_from-requires-clause-in_call
read_from-requires-clause-in_call c =
    let ready = c.room_is_there.ensures.ready c.if-not-room_is_there.false c.args.hart.now c.requires.whole in
    ap (λ (l : Live). l.call) ready.touched.live ∙ c.requires.in_call

pub read_from-requires-clause-file : goal.read_from-requires-clause-file
read_from-requires-clause-file c =
    let k = c.args.self.now in
    let h = c.args.hart.now in
    let a = c.in-Some.ensures.asked h c.requires.whole in
    let some = ne_eqb c.in-Some.asked.count 0 c.if-asked-eq0.false in
    let ready = c.room_is_there.ensures.ready c.if-not-room_is_there.false c.args.hart.now c.requires.whole in
    record {
      fd = a.fd;
      below = a.below;
      number = a.number;
      named_file = ap (λ (l : Live). get l.descriptors a.fd) ready.touched.live ∙ a.source.used;
      opened = files-stay ready.touched c.in-Some.asked.file ∙ a.source.opened;
      buffer = (a.count, some, ready.there);
    }

pub returns-clause-made : goal.returns-clause-made
returns-clause-made c =
    let k = c.args.self.now in
    let h = c.args.hart.now in
    let a = c.in-Some.ensures.asked h c.requires.whole in
    let some = ne_eqb c.in-Some.asked.count 0 c.if-asked-eq0.false in
    let ready = c.room_is_there.ensures.ready c.if-not-room_is_there.false c.args.hart.now c.requires.whole in
    let row = read-ready c.args.call.now c.requires.whole c.requires.running a.below a.number a.source c.in-Some.ensures.allowed c.in-Some.asked.count a.count some ready in
    ready.touched.makes (read c.args.call.now (view_now k h)) c.read_from.new.self c.read_from.new.hart
    (subst (λ (o : Own). Makes c.room_is_there.new.self h o c.read_from.new.self c.read_from.new.hart) (sym row) c.read_from.ensures.made)

pub returns-clause-answer : goal.returns-clause-answer
returns-clause-answer c =
    let k = c.args.self.now in
    let h = c.args.hart.now in
    let a = c.in-Some.ensures.asked h c.requires.whole in
    let some = ne_eqb c.in-Some.asked.count 0 c.if-asked-eq0.false in
    let ready = c.room_is_there.ensures.ready c.if-not-room_is_there.false c.args.hart.now c.requires.whole in
    let row = read-ready c.args.call.now c.requires.whole c.requires.running a.below a.number a.source c.in-Some.ensures.allowed c.in-Some.asked.count a.count some ready in
    ap (λ (o : Own). o.answer) row ∙ c.read_from.ensures.answer
