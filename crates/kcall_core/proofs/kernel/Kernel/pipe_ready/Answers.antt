use Rattle.kcall_core.proofs.Prelude.{◌∙◌, ◌≡◌, ◌≢◌, answer_of, ap, arith, each_of, free_of, HasMemory, held_at, length, ne_eqb, refl, state_of, subst, sym, view_of, writable_now}
use Rattle.kcall_core.proofs.table.States.{slot-inside}
use Rattle.kcall_core.proofs.table.Stops.{now-slot}
use Rattle.kcall_core.proofs.files.FileReads.{slot-memory}
use Rattle.kcall_core.proofs.files.Lowest.{lowest-shown, lowest-free, above-shown, above-free}
use Rattle.kcall_core.proofs.files.OpenRoom.{room-for-one}
use Rattle.kcall_core.proofs.files.PipeMakes.{equips, read-end-counted, read-end-table, write-end-free, ends-sound, pipe-answer, pipe-makes}
use Rattle.kcall_core.proofs.kernel.Kernel.pipe_ready.Goals as goal

pub write_tested-requires-clause-there : goal.write_tested-requires-clause-there
write_tested-requires-clause-there c =
    subst (λ e. HasMemory e c.args.slot) (sym c.in-Some.ensures.made.each) (slot-memory c.requires.whole c.requires.slot)

pub open_pipe_at-requires-clause-free : goal.open_pipe_at-requires-clause-free
open_pipe_at-requires-clause-free c =
    let k = c.args.self.now in
    let h = c.args.hart.now in
    let slot = c.args.slot in
    let now = c.requires.whole.sound.current slot c.requires.slot in
    let inside = slot-inside k h c.requires.whole.sound slot now.process now.is in
    let told = c.requires.read in
    let read = lowest-free c.requires.whole inside told in
    read.1

pub open_pipe_at-requires-clause-room : goal.open_pipe_at-requires-clause-room
open_pipe_at-requires-clause-room c =
    let k = c.args.self.now in
    let h = c.args.hart.now in
    let slot = c.args.slot in
    let now = c.requires.whole.sound.current slot c.requires.slot in
    let inside = slot-inside k h c.requires.whole.sound slot now.process now.is in
    let told = c.requires.read in
    let read = lowest-free c.requires.whole inside told in
    room-for-one k.files k.table slot c.args.read c.requires.whole.files c.requires.whole.counted inside read.0 read.1

pub open_pipe_at-requires-2-clause-free : goal.open_pipe_at-requires-2-clause-free
unfolding state_of
open_pipe_at-requires-2-clause-free c =
    let k = c.args.self.now in
    let h = c.args.hart.now in
    let slot = c.args.slot in
    let now = c.requires.whole.sound.current slot c.requires.slot in
    let inside = slot-inside k h c.requires.whole.sound slot now.process now.is in
    let told = c.requires.read in
    let read = lowest-free c.requires.whole inside told in
    let write = above-free k.table slot (c.requires.write) in
    let apart : c.args.read ≢ c.args.write = λ e. omega (arith, e, write.2) in
    let equipped = equips c.in-Some.ensures.new c.in-Some.ensures.made c.write_tested.ensures.written c.write_tested.ensures.free c.write_tested.ensures.runs in
    write-end-free c.requires.whole c.requires.running c.requires.slot read.0 read.1 write.0 write.1 apart c.in-Some.ensures.new equipped
    (record {
      place = c.open_pipe_at.ensures.place;
      table = c.open_pipe_at.ensures.table;
      files = c.open_pipe_at.ensures.files;
      rest = c.open_pipe_at.ensures.rest;
    })

pub open_pipe_at-requires-2-clause-room : goal.open_pipe_at-requires-2-clause-room
unfolding state_of
open_pipe_at-requires-2-clause-room c =
    let k = c.args.self.now in
    let h = c.args.hart.now in
    let slot = c.args.slot in
    let now = c.requires.whole.sound.current slot c.requires.slot in
    let inside = slot-inside k h c.requires.whole.sound slot now.process now.is in
    let told = c.requires.read in
    let read = lowest-free c.requires.whole inside told in
    let write = above-free k.table slot (c.requires.write) in
    let apart : c.args.read ≢ c.args.write = λ e. omega (arith, e, write.2) in
    let equipped = equips c.in-Some.ensures.new c.in-Some.ensures.made c.write_tested.ensures.written c.write_tested.ensures.free c.write_tested.ensures.runs in
    room-for-one c.open_pipe_at.new.self.files c.open_pipe_at.new.self.table slot c.args.write
    (read-end-table c.requires.whole c.requires.running c.requires.slot read.0 read.1 write.0 write.1 apart c.in-Some.ensures.new equipped
    (record {
      place = c.open_pipe_at.ensures.place;
      table = c.open_pipe_at.ensures.table;
      files = c.open_pipe_at.ensures.files;
      rest = c.open_pipe_at.ensures.rest;
    }))
    (read-end-counted c.requires.whole c.requires.running c.requires.slot read.0 read.1 write.0 write.1 apart c.in-Some.ensures.new equipped
    (record {
      place = c.open_pipe_at.ensures.place;
      table = c.open_pipe_at.ensures.table;
      files = c.open_pipe_at.ensures.files;
      rest = c.open_pipe_at.ensures.rest;
    }))
    inside write.0
    (write-end-free c.requires.whole c.requires.running c.requires.slot read.0 read.1 write.0 write.1 apart c.in-Some.ensures.new equipped
    (record {
      place = c.open_pipe_at.ensures.place;
      table = c.open_pipe_at.ensures.table;
      files = c.open_pipe_at.ensures.files;
      rest = c.open_pipe_at.ensures.rest;
    }))

pub done-requires-clause-sound : goal.done-requires-clause-sound
unfolding state_of
done-requires-clause-sound c =
    let k = c.args.self.now in
    let h = c.args.hart.now in
    let slot = c.args.slot in
    let now = c.requires.whole.sound.current slot c.requires.slot in
    let inside = slot-inside k h c.requires.whole.sound slot now.process now.is in
    let told = c.requires.read in
    let read = lowest-free c.requires.whole inside told in
    let write = above-free k.table slot (c.requires.write) in
    let apart : c.args.read ≢ c.args.write = λ e. omega (arith, e, write.2) in
    let equipped = equips c.in-Some.ensures.new c.in-Some.ensures.made c.write_tested.ensures.written c.write_tested.ensures.free c.write_tested.ensures.runs in
    ends-sound c.requires.whole c.requires.running c.requires.slot read.0 read.1 write.0 write.1 apart c.in-Some.ensures.new equipped
    (record {
      place = c.open_pipe_at.ensures.place;
      table = c.open_pipe_at.ensures.table;
      files = c.open_pipe_at.ensures.files;
      rest = c.open_pipe_at.ensures.rest;
    })
    (record { place = c.open_pipe_at-2.ensures.place; table = c.open_pipe_at-2.ensures.table; files = c.open_pipe_at-2.ensures.files; rest = c.open_pipe_at-2.ensures.rest })

pub returns-clause-made : goal.returns-clause-made
unfolding view_of state_of
returns-clause-made c =
    let k = c.args.self.now in
    let h = c.args.hart.now in
    let slot = c.args.slot in
    let at = now-slot slot c.requires.whole.sound c.requires.slot in
    let now = c.requires.whole.sound.current slot c.requires.slot in
    let inside = slot-inside k h c.requires.whole.sound slot now.process now.is in
    let told = c.requires.read in
    let read = lowest-free c.requires.whole inside told in
    let least = lowest-shown c.requires.whole c.requires.running c.requires.slot inside ∙ told in
    let write = above-free k.table slot (c.requires.write) in
    let apart : c.args.read ≢ c.args.write = λ e. omega (arith, e, write.2) in
    let frame = ne_eqb (free_of k.memories) 0 (λ e. omega (arith, e, c.requires.frame)) in
    let equipped = equips c.in-Some.ensures.new c.in-Some.ensures.made c.write_tested.ensures.written c.write_tested.ensures.free c.write_tested.ensures.runs in
    let above = above-shown c.requires.whole c.requires.running c.requires.slot c.args.read ∙ c.requires.write in
    pipe-makes c.requires.whole c.requires.running c.requires.slot read.0 read.1 write.0 write.1 apart c.in-Some.ensures.new equipped
    (record {
      place = c.open_pipe_at.ensures.place;
      table = c.open_pipe_at.ensures.table;
      files = c.open_pipe_at.ensures.files;
      rest = c.open_pipe_at.ensures.rest;
    })
    (record { place = c.open_pipe_at-2.ensures.place; table = c.open_pipe_at-2.ensures.table; files = c.open_pipe_at-2.ensures.files; rest = c.open_pipe_at-2.ensures.rest })
    c.args.call.now refl c.two_numbers-numbers.ensures c.requires.there frame least above c.done.new.self c.done.new.hart
    (record { sound = c.done.ensures.sound; kernel = c.done.ensures.kernel; state = c.done.ensures.state })

pub returns-clause-answer : goal.returns-clause-answer
unfolding view_of state_of
returns-clause-answer c =
    let k = c.args.self.now in
    let h = c.args.hart.now in
    let slot = c.args.slot in
    let at = now-slot slot c.requires.whole.sound c.requires.slot in
    let now = c.requires.whole.sound.current slot c.requires.slot in
    let inside = slot-inside k h c.requires.whole.sound slot now.process now.is in
    let told = c.requires.read in
    let read = lowest-free c.requires.whole inside told in
    let least = lowest-shown c.requires.whole c.requires.running c.requires.slot inside ∙ told in
    let write = above-free k.table slot (c.requires.write) in
    let apart : c.args.read ≢ c.args.write = λ e. omega (arith, e, write.2) in
    let frame = ne_eqb (free_of k.memories) 0 (λ e. omega (arith, e, c.requires.frame)) in
    let equipped = equips c.in-Some.ensures.new c.in-Some.ensures.made c.write_tested.ensures.written c.write_tested.ensures.free c.write_tested.ensures.runs in
    let above = above-shown c.requires.whole c.requires.running c.requires.slot c.args.read ∙ c.requires.write in
    pipe-answer c.requires.whole c.requires.running c.requires.slot read.0 read.1 write.0 write.1 apart c.in-Some.ensures.new equipped
    (record {
      place = c.open_pipe_at.ensures.place;
      table = c.open_pipe_at.ensures.table;
      files = c.open_pipe_at.ensures.files;
      rest = c.open_pipe_at.ensures.rest;
    })
    (record { place = c.open_pipe_at-2.ensures.place; table = c.open_pipe_at-2.ensures.table; files = c.open_pipe_at-2.ensures.files; rest = c.open_pipe_at-2.ensures.rest })
    c.args.call.now refl c.two_numbers-numbers.ensures c.requires.there frame least above
    ∙ ap (answer_of c.args.call.now.number) (sym c.done.ensures.end)

pub write_tested-requires-clause-writable : goal.write_tested-requires-clause-writable
write_tested-requires-clause-writable c =
    let k = c.args.self.now in
    let at = now-slot c.args.slot c.requires.whole.sound c.requires.slot in
    let bytes : length c.two_numbers-numbers.result ≡ 8 = ap length c.two_numbers-numbers.ensures in
    ap (λ n. writable_now (held_at (each_of c.make_pipe.new.self) c.args.slot).image c.args.call.now.a0 n) bytes
    ∙ ap (λ e. writable_now (held_at e c.args.slot).image c.args.call.now.a0 8) c.in-Some.ensures.made.each
    ∙ (λ i. writable_now (held_at (each_of k.memories) (at i)).image c.args.call.now.a0 8) ∙ c.requires.there
