-- Worked cases of what a read, a write and a sleep wait for.
use Rattle.kernel_spec.proofs.Prelude.{[], ℕ, ◌-◌, ◌^◌, ◌||◌, ◌∷◌, ◌≡◌, ap, empty_console, false, has_bytes, has_committed, has_passed, has_room, has_room_to_send, length-replicate, nat_lt, negsuc}
use Rattle.kernel_spec.proofs.Prelude.{new_pipe, PIPE_BYTES, pos, refl, replicate, SEND_BYTES, ticks_since, true}

-- ---- a pipe: one byte, none, and none with nobody left to write any

one_byte : has_bytes (record new_pipe { bytes = 7 ∷ [] }) ≡ true
one_byte = refl

no_byte : has_bytes new_pipe ≡ false
unfolding new_pipe
no_byte = refl

no_writer : has_bytes (record new_pipe { writers = 0 }) ≡ true
unfolding new_pipe
no_writer = refl

-- room, none, and none with nobody left to read

empty_pipe : has_room new_pipe ≡ true
unfolding new_pipe
empty_pipe = refl

full_pipe : has_room (record new_pipe { bytes = replicate PIPE_BYTES 0 }) ≡ false
unfolding new_pipe
full_pipe = ap (λ n. nat_lt n PIPE_BYTES || false) (length-replicate {A = ℕ} PIPE_BYTES 0)

no_reader : has_room (record new_pipe { bytes = replicate PIPE_BYTES 0; readers = 0 }) ≡ true
unfolding new_pipe
no_reader = ap (λ n. nat_lt n PIPE_BYTES || true) (length-replicate {A = ℕ} PIPE_BYTES 0)

-- ---- the console: a byte that isn't committed is nothing to read yet

committed : has_committed (record empty_console { committed = 97 ∷ [] }) ≡ true
committed = refl

uncommitted : has_committed (record empty_console { uncommitted = 97 ∷ [] }) ≡ false
uncommitted = refl

nothing_to_send : has_room_to_send empty_console ≡ true
nothing_to_send = refl

full_queue : has_room_to_send (record empty_console { to_send = replicate SEND_BYTES 0 }) ≡ false
full_queue = ap (λ n. nat_lt n SEND_BYTES) (length-replicate {A = ℕ} SEND_BYTES 0)

-- ---- ticks: the clock starts anew behind 2^32 - 1, and for a number below 0 none has to pass

round_the_clock : ticks_since 1 (2 ^ 32 - 1) ≡ 2
round_the_clock = refl

as_many : has_passed 2 (pos 2) ≡ true
as_many = refl

one_fewer : has_passed 1 (pos 2) ≡ false
one_fewer = refl

below_0 : has_passed 0 (negsuc 0) ≡ true
below_0 = refl
