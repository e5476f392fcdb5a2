-- Bytes that go from frame to frame, between the pages of a slot and a pipe.
use Rattle.kcall_core.proofs.Prelude.{ℕ, ◌<◌, ◌≡◌, ap, AreSound, arith, Becomes, copies, copies-cons, each_of, FRAMES_MAX, frames_of, get, held_at, Image, image_bytes, image_of, IsSome, List}
use Rattle.kcall_core.proofs.Prelude.{Memories, Memory, Pipe, pipe_in, pipe_named, PipeChanges, pipes_of, slot_frames, Some, Stands, subst, sym, with_more}
use Rattle.kcall_core.proofs.memory.Changes.{image-seen}
use Rattle.kcall_core.proofs.memory.Frames.{pipe-apart}
use Rattle.kcall_core.proofs.memory.PipeFrames.{pipe-keeps, pipe-becomes}
use Rattle.kcall_core.proofs.memory.PipeEdges.{named-in}

bytes_of : Pipe → List ℕ
bytes_of pipe = pipe.bytes

module _ (old : Memories) {f : ℕ} (small : f < FRAMES_MAX) (sound : AreSound old) (pipe : IsSome (get (pipes_of old) f)) where
  -- the frame of a pipe is none of a space's
  pub pipe-no-page : {i : ℕ} {m : Memory} → Stands old i m → copies f (frames_of old.ram m.space) ≡ 0
  pipe-no-page {i} {m} s =
      omega (arith, pipe-apart sound f i (pipe-keeps old f small pipe), ap (λ o. copies f (slot_frames old.ram o)) s.is, copies-cons f m.trapframe (frames_of old.ram m.space))

  -- the bytes in a frame are those of the pipe of its name
  pub bytes-named : (pipe_in old.ram f).bytes ≡ (pipe_named (pipes_of old) f).bytes
  unfolding bytes_of
  bytes-named = ap bytes_of (named-in old small sound pipe)

  -- bytes of a slot's pages went into the pipe
  pub pages-pushed : {i : ℕ} {m : Memory} → Stands old i m → (new : Memories) (a n : ℕ)
      → Becomes old.ram new.ram f (with_more (image_bytes (image_of old.ram m.space) a n) (pipe_in old.ram f)) → new.pool ≡ old.pool
      → new.each.items ≡ old.each.items
      → new.pipes.items ≡ old.pipes.items → PipeChanges old new f (Some (with_more (image_bytes (held_at (each_of old) i).image a n) (pipe_named (pipes_of old) f)))
  pages-pushed {i} {m} s new a n made pool each pipes =
      subst (λ (x : Image). PipeChanges old new f (Some (with_more (image_bytes x a n) (pipe_named (pipes_of old) f)))) (sym (image-seen s))
      (pipe-becomes new (with_more (image_bytes (image_of old.ram m.space) a n)) small sound (pipe-keeps old f small pipe) made pool each pipes)
