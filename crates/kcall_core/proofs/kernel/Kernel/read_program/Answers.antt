use Rattle.kcall_core.proofs.Prelude.{◌∙◌, answer_of, ap, arith, Called, drop, each_of, held_at, length, map, named_file, program_bytes, slice_get, state_of, sym, take, to_z_pos, w64, writable_now}
use Rattle.kcall_core.proofs.Prelude.{write_image}
use Rattle.kcall_core.proofs.table.Stops.{now-slot}
use Rattle.kcall_core.proofs.memory.PipeRest.{writable-fewer}
use Rattle.kcall_core.proofs.files.FileReads.{slot-memory, few, is-open, file-sound, file-answer, file-done}
use Rattle.kcall_core.proofs.kernel.Kernel.read_program.Goals as goal

pub write_tested-requires-clause-there : goal.write_tested-requires-clause-there
write_tested-requires-clause-there c = slot-memory c.requires.whole c.requires.slot

pub write_tested-requires-clause-writable : goal.write_tested-requires-clause-writable
unfolding state_of
write_tested-requires-clause-writable c =
    let are = c.file_rest-bytes.ensures.bytes ∙ ap (λ xs. take c.args.asked.now.count (drop c.args.offset (program_bytes (slice_get (map named_file xs) c.args.program)))) c.deref.ensures.value in
    let slot = now-slot c.args.slot c.requires.whole.sound c.requires.slot in
    ap (λ i. writable_now (held_at (each_of c.args.self.now.memories) i).image c.args.call.now.a1 (length c.file_rest-bytes.result.now)) slot
    ∙ writable-fewer _ c.args.call.now.a1 c.args.asked.now.count (length c.file_rest-bytes.result.now)
    (few c.requires.whole c.requires.running c.requires.file c.requires.reads c.args.program c.args.offset c.requires.target
    c.file_rest-bytes.result.now are) c.requires.file.buffer.2

pub move_to-requires : goal.move_to-requires
unfolding state_of
move_to-requires c =
    let are = c.file_rest-bytes.ensures.bytes ∙ ap (λ xs. take c.args.asked.now.count (drop c.args.offset (program_bytes (slice_get (map named_file xs) c.args.program)))) c.deref.ensures.value in
    is-open c.requires.whole c.requires.running c.requires.file c.requires.reads c.args.program c.args.offset c.requires.target c.file_rest-bytes.result.now are

pub done-requires-clause-sound : goal.done-requires-clause-sound
unfolding state_of
done-requires-clause-sound c =
    let are = c.file_rest-bytes.ensures.bytes ∙ ap (λ xs. take c.args.asked.now.count (drop c.args.offset (program_bytes (slice_get (map named_file xs) c.args.program)))) c.deref.ensures.value in
    let slot = now-slot c.args.slot c.requires.whole.sound c.requires.slot in
    file-sound c.requires.whole c.requires.running c.requires.file c.requires.reads c.args.program c.args.offset c.requires.target c.file_rest-bytes.result.now are
    c.write_tested.new.self _
    ((λ i. write_image (held_at (each_of c.args.self.now.memories) (slot i)).image c.args.call.now.a1 c.file_rest-bytes.result.now)) c.args.slot slot
    c.write_tested.ensures.written c.write_tested.ensures.free c.write_tested.ensures.runs
    _ (λ i. record c.args.self.now { memories = c.write_tested.new.self; files = c.move_to.ensures i })

pub returns-clause-made : goal.returns-clause-made
unfolding state_of
returns-clause-made c =
    let are = c.file_rest-bytes.ensures.bytes ∙ ap (λ xs. take c.args.asked.now.count (drop c.args.offset (program_bytes (slice_get (map named_file xs) c.args.program)))) c.deref.ensures.value in
    let slot = now-slot c.args.slot c.requires.whole.sound c.requires.slot in
    file-done c.requires.whole c.requires.running c.requires.file c.requires.reads c.args.program c.args.offset c.requires.target c.file_rest-bytes.result.now are
    c.write_tested.new.self _
    ((λ i. write_image (held_at (each_of c.args.self.now.memories) (slot i)).image c.args.call.now.a1 c.file_rest-bytes.result.now)) c.args.slot slot
    c.write_tested.ensures.written c.write_tested.ensures.free c.write_tested.ensures.runs
    _ (λ i. record c.args.self.now { memories = c.write_tested.new.self; files = c.move_to.ensures i })
    c.done.new.self c.done.new.hart _
    (to_z_pos w64 (length c.file_rest-bytes.result.now)
    (omega (
      arith,
      c.requires.size,
      few c.requires.whole c.requires.running c.requires.file c.requires.reads c.args.program c.args.offset
          c.requires.target c.file_rest-bytes.result.now are,
    )))
    (record { sound = c.done.ensures.sound; kernel = c.done.ensures.kernel; state = c.done.ensures.state })

pub returns-clause-answer : goal.returns-clause-answer
unfolding state_of
returns-clause-answer c =
    let are = c.file_rest-bytes.ensures.bytes ∙ ap (λ xs. take c.args.asked.now.count (drop c.args.offset (program_bytes (slice_get (map named_file xs) c.args.program)))) c.deref.ensures.value in
    file-answer c.requires.whole c.requires.running c.requires.file c.requires.reads c.args.program c.args.offset c.requires.target c.file_rest-bytes.result.now are
    ∙ ap (Called c.args.call.now.number)
    (sym (to_z_pos w64 (length c.file_rest-bytes.result.now)
    (omega (
      arith,
      c.requires.size,
      few c.requires.whole c.requires.running c.requires.file c.requires.reads c.args.program c.args.offset
          c.requires.target c.file_rest-bytes.result.now are,
    ))))
    ∙ ap (answer_of c.args.call.now.number) (sym c.done.ensures.end)
