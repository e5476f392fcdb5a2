-- A step of a call on the terminal: bytes go to its process's memory, and the console's lists are others.
use Rattle.kcall_core.proofs.Prelude.{ℕ, ◌+◌, ◌∙◌, ◌≡◌, ap, changed_state, Console, descriptors_at, each_of, frame_count, free_of, Hart, held_at, Image, inr, IsRunning, IsSound, IsWhole}
use Rattle.kcall_core.proofs.Prelude.{IsWithinLimits, Kernel, Live, live_now, live_of, Memories, or_nothing, pid_now, place_now, price, refl, RunsIn, slot_now, SlotChanges, Some, State, state_of}
use Rattle.kcall_core.proofs.Prelude.{subst, sym, WellFormed, with_image}
use Rattle.kcall_core.proofs.table.States.{goes-processes, goes-sound, changed-here, changed-has, changed-goes}
use Rattle.kcall_core.proofs.turns.Turned.{live-is}
use Rattle.kcall_core.proofs.making.Midway.{WakeOn, Midway}
use Rattle.kcall_core.proofs.making.Moved.{nobody, still}
use Rattle.kernel_spec.proofs.well.WellLaws as well

-- what the process's memory and the console are before its answer
pub record Moving (k : Kernel) (h : Hart) (m : Memories) (image : Image) (now : Console) : Type 0 where
  pub written : SlotChanges k.memories m (slot_now k) (Some (with_image image (held_at (each_of k.memories) (slot_now k))))
  pub free : free_of m ≡ free_of k.memories
  pub runs : RunsIn m (slot_now k) h
  pub paid : price image ≡ price (live_now k h).image
  pub limits : IsWithinLimits now
  pub wake : WakeOn nobody (state_of k h).pipes (state_of k h).pipes (state_of k h).console now

module _ {k : Kernel} {h : Hart} {m : Memories} {image : Image} {now : Console} (whole : IsWhole k h) (runs : IsRunning k) (x : Moving k h m image now) where
  abbrev s : State
  s = state_of k h

  abbrev p : ℕ
  p = pid_now k

  abbrev l : Live
  l = live_now k h

  abbrev mid : Kernel
  mid = record k { memories = m; console = now }

  abbrev moved : Live
  moved = record l { image = image }

  pub moving-sound : IsSound mid h
  moving-sound = goes-sound k mid h h whole.sound runs (changed-goes mid whole.sound runs refl refl x.written) x.written.sound (changed-has mid whole.sound runs refl refl x.written) x.runs

  moving-state : state_of mid h ≡ changed_state p moved s.files s.pipes now s.free s
  unfolding state_of
  moving-state =
      let processes = goes-processes k mid h h whole.sound runs (changed-goes mid whole.sound runs refl refl x.written) in
      (λ t. record (state_of mid h) { processes = processes t; pipes = x.written.pipes t; free = x.free t })
      ∙ ap (λ o. changed_state p (live_of (place_now k) (descriptors_at k.table (slot_now k)) (or_nothing o) h.regs) s.files s.pipes now s.free s)
      (changed-here mid whole.sound runs refl refl x.written)

  moving-well : WellFormed (frame_count k) (changed_state p moved s.files s.pipes now s.free s)
  moving-well = well.alone (frame_count k) s p l l.regs image l.call l.killed now s.free whole.well (live-is k h whole.sound runs) (ap (λ z. s.free + (z + 1)) x.paid) x.limits

  pub moving-midway : Midway k h mid h nobody moved s.files s.pipes now s.free
  moving-midway = record {
    sound = moving-sound;
    table = whole.files;
    counted = whole.counted;
    frames = x.written.frames;
    current = refl;
    last = refl;
    places = (still whole runs).places;
    state = moving-state;
    well = subst (WellFormed (frame_count k)) (sym moving-state) moving-well;
    parent = refl;
    wake = x.wake;
    targets = inr (λ file y there. there);
  }
