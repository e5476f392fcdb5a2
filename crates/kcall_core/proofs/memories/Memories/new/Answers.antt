use Rattle.kcall_core.proofs.Prelude.{◌∙◌, ◌≡◌, ap, arith, each_of, free_of, held_in, length, length-replicate, map, None, pipes_of, refl, replicate, sym, zero_frame}
use Rattle.kcall_core.proofs.memory.Births.{none-sound, no-pipes, all-free, map-none}
use Rattle.kcall_core.proofs.memories.Memories.new.Goals as goal

pub returns-clause-sound : goal.returns-clause-sound
returns-clause-sound c =
    none-sound c.in-Ok.pool c.new-2.new.ram c.slots.each.items c.in-Ok-vec.pipes.items c.slots.counter c.args.frames c.in-Ok.ensures.good c.in-Ok.ensures.all_free
    (omega (arith, c.slots-test.false, c.slots.auto.counter-end))
    (sym (c.in-Ok.ensures.frames ∙ ap length c.in_ok-ram.ensures.zeros ∙ length-replicate c.args.frames zero_frame)) c.slots.invariant
    (c.in-Ok-vec.ensures.items_if_clones_equal (λ y h. h))

pub returns-clause-each : goal.returns-clause-each
unfolding each_of
returns-clause-each c =
    let n : c.slots.counter ≡ 64 = omega (arith, c.slots-test.false, c.slots.auto.counter-end) in
    ap (map (held_in c.new-2.new.ram)) c.slots.invariant ∙ map-none (held_in c.new-2.new.ram) c.slots.counter refl ∙ ap (λ k. replicate k None) n

pub returns-clause-pipes : goal.returns-clause-pipes
unfolding pipes_of
returns-clause-pipes c = no-pipes c.new-2.new.ram c.in-Ok-vec.pipes.items c.args.frames 32768 (c.in-Ok-vec.ensures.items_if_clones_equal (λ y h. h))

pub returns-clause-free : goal.returns-clause-free
unfolding free_of
returns-clause-free c =
    all-free c.in-Ok.pool c.new-2.new.ram c.in-Ok.ensures.good c.in-Ok.ensures.all_free ∙ c.in-Ok.ensures.frames ∙ ap length c.in_ok-ram.ensures.zeros ∙ length-replicate c.args.frames zero_frame

pub returns-clause-frames : goal.returns-clause-frames
returns-clause-frames c = c.in-Ok.ensures.frames ∙ ap length c.in_ok-ram.ensures.zeros ∙ length-replicate c.args.frames zero_frame
