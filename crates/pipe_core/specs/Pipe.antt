-- A pipe, and how its frame keeps it.
use Rattle.std.specs.Prelude.{◌≡◌, ◌≢◌, ℕ, zero, suc, ◌+◌, ◌<◌, ◌≤◌, ◌%◌, List, [], ◌∷◌, ◌++◌, length, drop, slice_index}
use Rattle.xk_base.specs.declared.limits.TheConstants.{PIPE_BYTES}
use Rattle.phys_ram.specs.Ram.{frame_at, word_at, OthersStay}
use Rattle.pipe_core.specs.declared.TheConstants.{END_COUNT_MAX}

-- its bytes, from the oldest on, and how many descriptors are on its read end and on its write end
pub record Pipe : Type 0 where
  pub bytes : List ℕ
  pub readers : ℕ
  pub writers : ℕ

-- empty, with one descriptor on each end
unfoldable pub new_pipe : Pipe
new_pipe = record { bytes = []; readers = 1; writers = 1 }

-- with these bytes behind those that it has
abbrev pub with_more : List ℕ → Pipe → Pipe
with_more bytes pipe = record pipe { bytes = pipe.bytes ++ bytes }

-- without its n oldest bytes
abbrev pub without_first : ℕ → Pipe → Pipe
without_first n pipe = record pipe { bytes = drop n pipe.bytes }

abbrev pub with_readers : ℕ → Pipe → Pipe
with_readers n pipe = record pipe { readers = n }

abbrev pub with_writers : ℕ → Pipe → Pipe
with_writers n pipe = record pipe { writers = n }

-- ---- the frame: word 0 counts the readers and word 1 the writers, word 2 is the place of the oldest byte and word 3 the number of bytes; the ring's places begin at byte 32

-- byte k of a ring whose oldest byte is at a place: behind its last place comes its first
abbrev pub ring_byte : List ℕ → ℕ → ℕ → ℕ
ring_byte frame from k = slice_index frame (32 + (from + k) % PIPE_BYTES)

-- f 0, f 1, .., f (n - 1)
unfoldable pub values_below : ℕ → (ℕ → ℕ) → List ℕ
values_below zero f = []
values_below (suc n) f = values_below n f ++ f n ∷ []

-- the pipe that frame f keeps
unfoldable pub pipe_in : List (List ℕ) → ℕ → Pipe
pipe_in ram f = record {
  bytes = values_below (word_at ram f 3) (ring_byte (frame_at ram f) (word_at ram f 2));
  readers = word_at ram f 0;
  writers = word_at ram f 1;
}

-- frame f keeps a pipe: its four words are in their ranges
pub record IsPipe (ram : List (List ℕ)) (f : ℕ) : Type 0 where
  pub inside : f < length ram
  pub reading : word_at ram f 0 ≤ END_COUNT_MAX
  pub writing : word_at ram f 1 ≤ END_COUNT_MAX
  pub oldest : word_at ram f 2 < PIPE_BYTES
  pub count : word_at ram f 3 ≤ PIPE_BYTES

-- frame f keeps this pipe now, and no other frame changed
pub record Becomes (old new : List (List ℕ)) (f : ℕ) (pipe : Pipe) : Type 0 where
  pub good : IsPipe new f
  pub is : pipe_in new f ≡ pipe
  pub stay : OthersStay old new f

-- these bytes stand in the ring from a place on, and nothing else of the frame changed
pub record IsPlaced (old new : List ℕ) (from : ℕ) (bytes : List ℕ) : Type 0 where
  pub placed : (k : ℕ) → k < length bytes → ring_byte new from k ≡ slice_index bytes k
  pub kept : (j : ℕ) → ((k : ℕ) → k < length bytes → j ≢ 32 + (from + k) % PIPE_BYTES) → slice_index new j ≡ slice_index old j
