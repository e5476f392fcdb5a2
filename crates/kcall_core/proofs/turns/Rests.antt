-- The process that ran gives way: its registers are saved, and the kernel is whole.
use Rattle.kcall_core.proofs.Prelude.{◌∙◌, ◌≡◌, AreCounted, ap, Channel, channel_of, contains, frame_count, Hart, Holds, is_for, IsSound, IsWhole, KeepBuffers, Kernel, live, Live}
use Rattle.kcall_core.proofs.Prelude.{None, none-some, NPROC, option_map, pid_now, Process, resting, sleepers_below, Slots, slots_of, Some, State, state_of, subst, sym, true}
use Rattle.kcall_core.proofs.Prelude.{turns_of, view, waits_for, WellFormed, world_of, ℕ}
use Rattle.file_table.specs.OpenFiles as files

-- who sleeps does so on its channel, as the state stands
abbrev SleepSo : Slots → State → Type 0
SleepSo t s = (slot : ℕ) (p : Process) (l : Live) (channel : Channel) → Holds t slot p → live s p.pid ≡ Some l → channel_of p ≡ Some channel → is_for (waits_for s p.pid l) channel ≡ true

module _ {k k' : Kernel} {h : Hart} (whole : IsWhole k h) (sound : IsSound k' h) (rest : k' ≡ record k { memories = k'.memories; current = None }) (same : state_of k' h ≡ state_of k h)
    (frames : frame_count k' ≡ frame_count k) where
  table : k'.table ≡ k.table
  table = ap (λ (x : Kernel). x.table) rest

  pub rests-whole : IsWhole k' h
  unfolding turns_of
  rests-whole = record {
    sound = sound;
    well = subst (λ n. WellFormed n (state_of k' h)) (sym frames) (subst (WellFormed (frame_count k)) (sym same) whole.well);
    files = subst files.IsTable (sym (ap (λ (x : Kernel). x.files) rest)) whole.files;
    counted = subst (λ (x : Kernel). AreCounted x.files x.table) (sym rest) whole.counted;
    channels = subst (λ (t : Slots). SleepSo t (state_of k' h)) (sym table) (subst (SleepSo k.table) (sym same) whole.channels);
    awake = λ slot p is at. absurd (none-some slot (sym (ap (λ (x : Kernel). x.current) rest) ∙ is));
    unready = λ q v asleep see.
        whole.unready q v (subst (λ (t : Slots). contains (sleepers_below t NPROC) q ≡ true) table asleep) (sym (ap (λ (s : State). view s q) same) ∙ see);
    buffers = subst KeepBuffers (sym same) whole.buffers;
  }

  pub rests-world : world_of k' h None ≡ resting (world_of k h None)
  unfolding turns_of
  rests-world = λ i. record {
    state = same i;
    turns = record {
      slots = slots_of (table i);
      sleepers = sleepers_below (table i) NPROC;
      last = (table i).last;
      current = option_map (λ _. pid_now k') ((rest i).current);
      halted = None;
    };
  }
