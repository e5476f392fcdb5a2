use Rattle.kcall_core.proofs.Prelude.{ℕ, ◌∙◌, answer_of, ap, Call, Called, HasChild, HasImage, HasNoChild, HasNoneEnded, is_some, Kernel, live_now, Makes, minus_one, Own, pos, refl, rules, Slots}
use Rattle.kcall_core.proofs.Prelude.{subst, sym, TakesLeast, to_z-of_z, told_image, w32, w64}
use Rattle.kcall_core.proofs.table.Stops.{now-slot}
use Rattle.kcall_core.proofs.turns.Chosen.{noted, pid-told}
use Rattle.kcall_core.proofs.making.CallAnswers.{IsDone, done-at-once}
use Rattle.kcall_core.proofs.making.Midway.{IsAsleep}
use Rattle.kcall_core.proofs.processes.WaitRows.{room-told, childless-row, waiting-row}
use Rattle.kcall_core.proofs.processes.WaitMakes.{reaped-sound, wait-makes, gone-answer}
use Rattle.kcall_core.proofs.processes.WaitSleeps.{wait-waits, waits-answer}
use Rattle.proc_table.specs.declared.channel.Channel.TheVariants as on
use Rattle.kcall_core.proofs.kernel.Kernel.wait_ready.Goals as goal

pub returns-in-NoChild-clause-made : goal.returns-in-NoChild-clause-made
returns-in-NoChild-clause-made c =
    let k = c.args.self.now in
    let h = c.args.hart.now in
    let pid = pid-told k c.args.slot c.pid-pid.result (sym (now-slot c.args.slot c.requires.whole.sound c.requires.slot)) c.pid-pid.ensures in
    let row = childless-row k h c.args.slot c.requires.whole.sound c.requires.slot c.args.call.now c.requires.fits (subst (HasNoChild k.table) (sym pid) c.in-NoChild.ensures.1) in
    subst (λ (o : Own). Makes k h o c.done.new.self c.done.new.hart) (sym row)
    (done-at-once c.args.call.now minus_one refl c.requires.whole c.requires.running
    (subst (λ (t : Slots). IsDone (noted k t) h minus_one c.done.new.self c.done.new.hart) c.in-NoChild.ensures.0
    (record { sound = c.done.ensures.sound; kernel = c.done.ensures.kernel; state = c.done.ensures.state })))

pub returns-in-NoChild-clause-answer : goal.returns-in-NoChild-clause-answer
returns-in-NoChild-clause-answer c =
    let k = c.args.self.now in
    let h = c.args.hart.now in
    let pid = pid-told k c.args.slot c.pid-pid.result (sym (now-slot c.args.slot c.requires.whole.sound c.requires.slot)) c.pid-pid.ensures in
    let row = childless-row k h c.args.slot c.requires.whole.sound c.requires.slot c.args.call.now c.requires.fits (subst (HasNoChild k.table) (sym pid) c.in-NoChild.ensures.1) in
    ap (λ (o : Own). o.answer) row ∙ ap (answer_of c.args.call.now.number) (sym c.done.ensures.end)

pub returns-in-NoneYet-clause-made : goal.returns-in-NoneYet-clause-made
returns-in-NoneYet-clause-made c =
    let k = c.args.self.now in
    let h = c.args.hart.now in
    let pid = pid-told k c.args.slot c.pid-pid.result (sym (now-slot c.args.slot c.requires.whole.sound c.requires.slot)) c.pid-pid.ensures in
    let row = waiting-row k h c.args.slot c.requires.whole.sound c.requires.slot c.args.call.now c.requires.fits
    (subst (HasChild k.table) (sym pid) c.in-NoneYet.ensures.1) (subst (HasNoneEnded k.table) (sym pid) c.in-NoneYet.ensures.2) in
    wait-waits c.args.call.now c.requires.whole c.requires.running row c.block.new.self c.block.new.hart c.requires.row c.requires.unmarked c.requires.in_call
    (subst (λ (n : ℕ). IsAsleep k h (record c.args.call.now { moved = 0 }) (on.Children n) c.block.new.self c.block.new.hart) (sym pid)
    (subst (λ (d : Call). IsAsleep k h d (on.Children c.pid-pid.result) c.block.new.self c.block.new.hart) c.with_moved.ensures
    (subst (λ (t : Slots). IsAsleep (noted k t) h c.with_moved.result (on.Children c.pid-pid.result) c.block.new.self c.block.new.hart) c.in-NoneYet.ensures.0
    (record {
      sound = c.block.ensures.sound;
      table = c.block.ensures.table;
      stopped = c.block.ensures.stopped;
      files = c.block.ensures.files;
      frames = c.block.ensures.frames;
      state = c.block.ensures.state;
    }))))

pub returns-in-NoneYet-clause-answer : goal.returns-in-NoneYet-clause-answer
returns-in-NoneYet-clause-answer c =
    let k = c.args.self.now in
    let h = c.args.hart.now in
    let pid = pid-told k c.args.slot c.pid-pid.result (sym (now-slot c.args.slot c.requires.whole.sound c.requires.slot)) c.pid-pid.ensures in
    let row = waiting-row k h c.args.slot c.requires.whole.sound c.requires.slot c.args.call.now c.requires.fits
    (subst (HasChild k.table) (sym pid) c.in-NoneYet.ensures.1) (subst (HasNoneEnded k.table) (sym pid) c.in-NoneYet.ensures.2) in
    waits-answer c.args.call.now c.requires.whole c.requires.running row ∙ ap (answer_of c.args.call.now.number) (sym c.block.ensures.end)

pub tell-requires-clause-sound : goal.tell-requires-clause-sound
tell-requires-clause-sound c =
    let k = c.args.self.now in
    let h = c.args.hart.now in
    let pid = pid-told k c.args.slot c.pid-pid.result (sym (now-slot c.args.slot c.requires.whole.sound c.requires.slot)) c.pid-pid.ensures in (
      h,
      reaped-sound c.in-Gone.child c.in-Gone.status c.requires.whole c.requires.running c.reap.new.self
          (subst (λ (n : ℕ). TakesLeast k.table c.reap.new.self n c.in-Gone.child c.in-Gone.status) (sym pid) c.in-Gone.ensures),
    )

pub done-requires-in-Gone-clause-sound : goal.done-requires-in-Gone-clause-sound
done-requires-in-Gone-clause-sound c =
    let k = c.args.self.now in
    let h = c.args.hart.now in
    let pid = pid-told k c.args.slot c.pid-pid.result (sym (now-slot c.args.slot c.requires.whole.sound c.requires.slot)) c.pid-pid.ensures in
    (c.tell.ensures h
    (reaped-sound c.in-Gone.child c.in-Gone.status c.requires.whole c.requires.running c.reap.new.self
    (subst (λ (n : ℕ). TakesLeast k.table c.reap.new.self n c.in-Gone.child c.in-Gone.status) (sym pid) c.in-Gone.ensures))).sound

pub done-requires-in-Gone-clause-running : goal.done-requires-in-Gone-clause-running
done-requires-in-Gone-clause-running c =
    let k = c.args.self.now in
    let h = c.args.hart.now in
    let pid = pid-told k c.args.slot c.pid-pid.result (sym (now-slot c.args.slot c.requires.whole.sound c.requires.slot)) c.pid-pid.ensures in
    let has = c.tell.ensures h
    (reaped-sound c.in-Gone.child c.in-Gone.status c.requires.whole c.requires.running c.reap.new.self
    (subst (λ (n : ℕ). TakesLeast k.table c.reap.new.self n c.in-Gone.child c.in-Gone.status) (sym pid) c.in-Gone.ensures)) in
    ap is_some (ap (λ (y : Kernel). y.current) has.kernel ∙ c.requires.slot)

pub returns-in-Gone-clause-made : goal.returns-in-Gone-clause-made
returns-in-Gone-clause-made c =
    let k = c.args.self.now in
    let h = c.args.hart.now in
    let pid = pid-told k c.args.slot c.pid-pid.result (sym (now-slot c.args.slot c.requires.whole.sound c.requires.slot)) c.pid-pid.ensures in
    let takes = subst (λ (n : ℕ). TakesLeast k.table c.reap.new.self n c.in-Gone.child c.in-Gone.status) (sym pid) c.in-Gone.ensures in
    let has = c.tell.ensures h (reaped-sound c.in-Gone.child c.in-Gone.status c.requires.whole c.requires.running c.reap.new.self takes) in
    let room = room-told k h c.args.slot c.requires.whole.sound c.requires.slot c.args.call.now c.requires.fits in
    let told = to_z-of_z w64 c.from.result (record { sfits = c.from.type_inv }) ∙ c.from.ensures ∙ ap pos c.number.ensures.value in
    wait-makes c.in-Gone.child c.in-Gone.status c.requires.whole c.requires.running c.reap.new.self takes c.args.call.now room c.tell.new.self
    (subst (λ (t : Slots). HasImage (noted k t) h (told_image c.args.call.now.a0 c.in-Gone.status (live_now (noted k t) h).image) c.tell.new.self h) takes.after
    (subst (λ z. HasImage (noted k c.reap.new.self) h (told_image c.args.call.now.a0 z (live_now (noted k c.reap.new.self) h).image) c.tell.new.self
    h) (to_z-of_z w32 c.in-Gone.status (search rules)) has))
    c.done-in-Gone.new.self c.done-in-Gone.new.hart
    (subst (λ z. IsDone c.tell.new.self h z c.done-in-Gone.new.self c.done-in-Gone.new.hart) told
    (record { sound = c.done-in-Gone.ensures.sound; kernel = c.done-in-Gone.ensures.kernel; state = c.done-in-Gone.ensures.state }))

pub returns-in-Gone-clause-answer : goal.returns-in-Gone-clause-answer
returns-in-Gone-clause-answer c =
    let k = c.args.self.now in
    let h = c.args.hart.now in
    let pid = pid-told k c.args.slot c.pid-pid.result (sym (now-slot c.args.slot c.requires.whole.sound c.requires.slot)) c.pid-pid.ensures in
    let takes = subst (λ (n : ℕ). TakesLeast k.table c.reap.new.self n c.in-Gone.child c.in-Gone.status) (sym pid) c.in-Gone.ensures in
    let room = room-told k h c.args.slot c.requires.whole.sound c.requires.slot c.args.call.now c.requires.fits in
    let told = to_z-of_z w64 c.from.result (record { sfits = c.from.type_inv }) ∙ c.from.ensures ∙ ap pos c.number.ensures.value in
    gone-answer c.in-Gone.child c.in-Gone.status c.requires.whole c.requires.running c.reap.new.self takes c.args.call.now room
    ∙ ap (Called c.args.call.now.number) (sym told) ∙ ap (answer_of c.args.call.now.number) (sym c.done-in-Gone.ensures.end)
