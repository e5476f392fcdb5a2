use Rattle.std.proofs.Common.{Some, sym, ◌∙◌, ◌<◌, ◌%◌, ◌+◌, arith}
use Rattle.std.specs.Prelude.{slice_index}
use Rattle.phys_ram.specs.Ram.{word_at, frame_at}
use Rattle.xk_base.specs.declared.limits.TheConstants.{PIPE_BYTES}
use Rattle.pipe_core.specs.Pipe.{pipe_in, ring_byte}
use Rattle.pipe_core.proofs.Changes.{length-bytes}
use Rattle.pipe_core.proofs.Values.{values_get}
use Rattle.pipe_core.proofs.byte.Goals as goal

pub returns : goal.returns
unfolding pipe_in
returns c =
    let ram = c.args.ram.now in
    let f = c.args.frame in
    let inside : c.args.place < word_at ram f 3 = omega (arith, c.if-place-len.false, c.len.ensures.value, length-bytes ram f) in
    (λ i. Some (slice_index (c.frame.ensures i) (32 + (c.read_u64-oldest.ensures i + c.args.place) % PIPE_BYTES)))
    ∙ sym (values_get (word_at ram f 3) c.args.place (ring_byte (frame_at ram f) (word_at ram f 2)) inside)
