-- A call whose buffer has no absent page keeps it so while it waits.
use Rattle.kernel_spec.proofs.Prelude.{ℕ, ◌∙◌, ◌≡◌, ap, Call, has_absent, List, Option, Pipe_row, Read, refl, Row, row_of, Some, View, Wait, write_image}
use Rattle.kernel_spec.proofs.steps.WritesKeepRights.{absent_written}
use Rattle.kernel_spec.proofs.rows.RowParts.{buffer_of, IsSettled}

-- how much a call has moved changes nothing of its buffer
same_buffer : (c : Call) (moved : ℕ) (r : Option Row) → buffer_of (record c { moved = moved }) r ≡ buffer_of c r
same_buffer c moved (Some Wait) = refl
same_buffer c moved (Some Pipe_row) = refl
same_buffer c moved (Some Read) = refl
same_buffer c moved _ = refl

-- with the same image, and however much is moved
pub still_settled : (c : Call) (moved : ℕ) (u m : View) → m.image ≡ u.image → IsSettled c u → IsSettled (record c { moved = moved }) m
still_settled c moved u m same settled =
    ap (λ (pages : List ℕ). has_absent pages m.image) (same_buffer c moved (row_of c.number)) ∙ ap (has_absent (buffer_of c (row_of c.number))) same ∙ settled

-- and where bytes are written
pub settled_written : (c : Call) (v : View) (bytes : List ℕ) (at : ℕ) → IsSettled c v → IsSettled c (record v { image = write_image v.image at bytes })
settled_written c v bytes at settled = absent_written bytes v.image at (buffer_of c (row_of c.number)) ∙ settled
