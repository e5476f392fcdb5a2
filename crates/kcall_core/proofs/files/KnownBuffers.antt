-- What is known of the buffer of a read or a write that goes on: once it has moved bytes, the buffer is there.
use Rattle.kcall_core.proofs.Prelude.{ℕ, ◌<◌, ◌∙◌, ◌≡◌, ap, c_int, Call, call_of, each_of, Hart, held_at, is_some, IsWhole, KeepsBuffer, Kernel, live_now, live_part, pid_now, place_now, pos, readable}
use Rattle.kcall_core.proofs.Prelude.{Some, true, writable_now}
use Rattle.kcall_core.proofs.table.Stops.{now-slot}
use Rattle.kcall_core.proofs.turns.Turned.{live-is}

module _ {k : Kernel} {h : Hart} {slot : ℕ} {c : Call} (whole : IsWhole k h) (is : k.current ≡ Some slot) (busy : call_of (place_now k) ≡ Some c)
    (n : ℕ) (asked : c_int c.a2 ≡ pos n) (some : 0 < c.moved) where
  its-buffer : KeepsBuffer (live_now k h).call (live_now k h).image
  its-buffer = whole.buffers (pid_now k) (live_now k h) (ap live_part (live-is k h whole.sound (ap is_some is)))

  pub room-known : c.number ≡ pos 5 → writable_now (held_at (each_of k.memories) slot).image c.a1 n ≡ true
  room-known row =
      ap (λ i. writable_now (held_at (each_of k.memories) i).image c.a1 n) (now-slot slot whole.sound is)
      ∙ its-buffer.room n c (record { is = busy; row = row; asked = asked; some = some })

  pub source-known : c.number ≡ pos 16 → readable (held_at (each_of k.memories) slot).image c.a1 n ≡ true
  source-known row =
      ap (λ i. readable (held_at (each_of k.memories) i).image c.a1 n) (now-slot slot whole.sound is)
      ∙ its-buffer.source n c (record { is = busy; row = row; asked = asked; some = some })
