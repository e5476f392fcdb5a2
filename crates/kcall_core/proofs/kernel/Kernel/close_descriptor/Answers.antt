use Rattle.kcall_core.proofs.Prelude.{◌∙◌, ap, closes_wake, each_changed, get, Kernel, pipes_of, refl, Slots, state_of, sym, woken_by}
use Rattle.kcall_core.proofs.memory.PipeEdges.{there-is}
use Rattle.kcall_core.proofs.table.States.{slot-inside}
use Rattle.kcall_core.proofs.files.OneClosed.{used-below, used-open, plain-closed, pipe-closed, pipe-there, pipe-counts}
use Rattle.kcall_core.proofs.kernel.Kernel.close_descriptor.Goals as goal

pub take_descriptor-file-requires-clause-within : goal.take_descriptor-file-requires-clause-within
take_descriptor-file-requires-clause-within c =
    let sound = c.requires.closing.1.sound in
    let now = sound.current c.args.slot c.requires.slot in
    slot-inside c.args.self.now c.requires.closing.0 sound c.args.slot now.process now.is

pub pipe_end_of-pipe-requires : goal.pipe_end_of-pipe-requires
pipe_end_of-pipe-requires c = used-open c.requires.closing.1 c.requires.slot (used-below c.requires.closing.1 c.requires.slot c.requires.used) c.take_descriptor-file.ensures.file

pub close-requires : goal.close-requires
close-requires c = used-open c.requires.closing.1 c.requires.slot (used-below c.requires.closing.1 c.requires.slot c.requires.used) c.take_descriptor-file.ensures.file

pub returns-in_default : goal.returns-in_default
returns-in_default c = λ hart closing.
    let none = c.in_default.ensures.none in
    plain-closed _ closing c.requires.slot (used-below c.requires.closing.1 c.requires.slot c.requires.used) c.take_descriptor-file.ensures.file
    none.1 c.close.ensures.after none.2 c.take_descriptor-file.ensures.table refl

pub leave_pipe-requires-clause-there : goal.leave_pipe-requires-clause-there
unfolding state_of
leave_pipe-requires-clause-there c =
    let e = c.in-Some.ensures.found in
    pipe-there c.requires.closing.1 c.requires.slot (used-below c.requires.closing.1 c.requires.slot c.requires.used) c.take_descriptor-file.ensures.file e.1 c.in-Some.at.frame c.in-Some.at.end e.2

pub leave_pipe-requires-clause-some : goal.leave_pipe-requires-clause-some
unfolding state_of
leave_pipe-requires-clause-some c =
    let e = c.in-Some.ensures.found in
    let k = c.args.self.now in
    let there = pipe-there c.requires.closing.1 c.requires.slot (used-below c.requires.closing.1 c.requires.slot c.requires.used)
    c.take_descriptor-file.ensures.file e.1 c.in-Some.at.frame c.in-Some.at.end e.2 in
    pipe-counts c.requires.closing.1 c.requires.slot (used-below c.requires.closing.1 c.requires.slot c.requires.used)
    c.take_descriptor-file.ensures.file e.1 c.in-Some.at.frame c.in-Some.at.end e.2 _ (there-is (get (pipes_of k.memories) c.in-Some.at.frame) there)

pub returns : goal.returns
unfolding state_of
returns c = λ hart closing.
    let e = c.in-Some.ensures.found in
    let k = c.args.self.now in
    let k1 = c.leave_pipe.new.self in
    let rest = c.leave_pipe.ensures.rest in
    let kept = ap (λ (n : Kernel). n.files) rest in
    let there = pipe-there closing c.requires.slot (used-below c.requires.closing.1 c.requires.slot c.requires.used) c.take_descriptor-file.ensures.file e.1 c.in-Some.at.frame c.in-Some.at.end e.2 in
    pipe-closed k1 closing c.requires.slot (used-below c.requires.closing.1 c.requires.slot c.requires.used) c.take_descriptor-file.ensures.file e.1
    (kept ∙ c.close.ensures.after) c.in-Some.at.frame c.in-Some.at.end e.2 _ (there-is (get (pipes_of k.memories) c.in-Some.at.frame) there)
    c.leave_pipe.ensures.pipe
    (c.leave_pipe.ensures.table ∙ ap (λ (t : Slots). each_changed (woken_by (closes_wake (pipes_of k.memories) (pipes_of k1.memories))) t) c.take_descriptor-file.ensures.table)
    (rest ∙ ap (λ fs. record k { table = k1.table; files = fs; memories = k1.memories }) (sym kept))
