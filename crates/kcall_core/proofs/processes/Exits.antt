-- The process that runs closes its descriptors and ends.
use Rattle.kcall_core.proofs.Prelude.{ℕ, ℤ, ◌∙◌, ◌≡◌, ◌≢◌, Alive, Answer, ap, arith, changed_at, closes_wake, ClosesFrom, cond, each_changed, empty, ended, fewer_on_all, FilesLeft, freed_on_all, get}
use Rattle.kcall_core.proofs.Prelude.{get-empty, given, gone, gone_state, gone_with, Hart, inl, inr, is_some, IsClosing, IsLive, IsRunning, IsSound, IsWhole, Kernel, le-ltb, length, Live, live_now}
use Rattle.kcall_core.proofs.Prelude.{Makes, nat_cmp, None, none-some, open_file_at, Option, or_nobody, parent_at, parent_of, parent_woken, pid_now, place_at, refl, same_pages, same_Some, slot_now}
use Rattle.kcall_core.proofs.Prelude.{Some, state_of, subst, sym, view_now, woken, woken_by}
use Rattle.file_table.specs.OpenFiles.{IsTable}
use Rattle.kcall_core.proofs.turns.Turned.{live-is}
use Rattle.kcall_core.proofs.table.Stops.{now-slot}
use Rattle.kcall_core.proofs.table.Observed.{parent-told}
use Rattle.kcall_core.proofs.files.Namings.{files-left}
use Rattle.kcall_core.proofs.files.AllClosed.{same-pid}
use Rattle.kcall_core.proofs.table.OthersWake.{others-mapped, end_in}
use Rattle.kcall_core.proofs.table.Woken.{woken-channel}
use Rattle.kcall_core.proofs.processes.Bared.{IsBared, IsEndedIn, ended-counted, end-makes}
use Rattle.proc_table.specs.declared.channel.Channel.TheVariants as on
use Rattle.kernel_spec.specs.views.Processes as meaning

-- what is whole may close its descriptors
pub whole-closing : {k : Kernel} {h : Hart} → IsWhole k h → IsRunning k → IsClosing k h
whole-closing whole runs = record { sound = whole.sound; running = runs; well = whole.well; files = whole.files; counted = whole.counted }

module _ {k k1 : Kernel} {h : Hart} (all : ClosesFrom k h 0 k1) where
  none-left : (d : ℕ) → get (live_now k1 h).descriptors d ≡ None
  none-left d = all.descriptors d ∙ ap (λ b. cond b (get (live_now k h).descriptors d) None) (le-ltb d 0 (omega arith))

  pub bared : IsBared k h k1
  unfolding fewer_on_all freed_on_all
  bared = record {
    sound = all.after.sound;
    running = all.after.running;
    files = all.after.files;
    counted = all.after.counted;
    current = all.remains.current;
    pid = same-pid all.remains;
    last = all.remains.last;
    frames = all.remains.frames;
    others =
        let wakes = closes_wake (state_of k h).pipes (state_of k1 h).pipes in
        others-mapped wakes (woken_by wakes) k.table k1.table (λ p. refl) (woken-channel wakes) all.remains.places;
    none = none-left;
    state = all.state;
    pipes = all.pipes;
    free = omega (arith, all.free);
  }

  pub no-descriptors : (live_now k1 h).descriptors ≡ empty
  no-descriptors = same_pages (live_now k1 h).descriptors empty (λ d. none-left d ∙ sym (get-empty nat_cmp d))

-- nobody is its own parent
pub not-own-parent : {k : Kernel} {h : Hart} → IsClosing k h → (live_now k h).parent ≢ Some (pid_now k)
not-own-parent {k} {h} closing own =
    let s = state_of k h in
    let live : IsLive s (pid_now k) (live_now k h) = live-is k h closing.sound closing.running in
    elim (closing.well.parents (pid_now k) (Alive (live_now k h)) live) [
      | inl one ↦
          let first = closing.well.first (pid_now k) (ap is_some live) in
          let same : Some first.0 ≡ Some (Alive (live_now k h)) = sym first.1 ∙ sym (ap (get s.processes) one) ∙ live in
          none-some (pid_now k) (sym first.2 ∙ parent-same first.0 (live_now k h) same ∙ own)
      | inr has ↦ has.other (same_Some has.parent (pid_now k) (sym has.is ∙ own))
    ]
  where
    parent-same : (x : meaning.Process) (l : Live) → Some x ≡ Some (Alive l) → parent_of x ≡ l.parent
    parent-same x l e = let same : x ≡ Alive l = cc in ap parent_of same

-- the parent that the table tells
pub parent-now : {k : Kernel} {h : Hart} (slot : ℕ) (parent : Option ℕ) → IsSound k h → k.current ≡ Some slot → parent_at k.table slot ≡ Some parent → (live_now k h).parent ≡ parent
parent-now {k} {h} slot parent sound is told =
    let now = sound.current slot is in
    ap (λ n. (or_nobody (place_at k.table n)).parent) (sym (now-slot slot sound is)) ∙ ap (λ o. (or_nobody o).parent) now.is ∙ parent-told k.table slot now.process parent now.is told

-- ---- the whole end

module _ (k k1 k2 k3 k' : Kernel) (h h' : Hart) (status : ℤ) (parent : Option ℕ) (whole : IsWhole k h) (runs : IsRunning k) (all : ClosesFrom k h 0 k1)
    (is : (live_now k h).parent ≡ parent)
    (sound2 : IsSound k2 h') (stopped2 : k2.current ≡ None) (files2 : k2.files ≡ k1.files) (frames2 : length k2.memories.ram ≡ length k1.memories.ram)
    (table2 : k2.table ≡ changed_at (slot_now k1) (ended status) (each_changed (given (pid_now k1) 1) k1.table))
    (state2 : state_of k2 h' ≡ gone_state (pid_now k1) (live_now k1 h) status (state_of k1 h).files (state_of k1 h))
    (table3 : k3.table ≡ parent_woken parent k2.table) (rest3 : k3 ≡ record k2 { table = k3.table }) (sound3 : IsSound k2 h' → IsSound k3 h') (state3 : state_of k3 h' ≡ state_of k2 h')
    (table4 : k'.table ≡ each_changed (woken (on.Children 1)) k3.table) (rest4 : k' ≡ record k3 { table = k'.table })
    (sound4 : IsSound k3 h' → IsSound k' h') (state4 : state_of k' h' ≡ state_of k3 h') where
  same-files : k'.files ≡ k1.files
  same-files = ap (λ (n : Kernel). n.files) rest4 ∙ ap (λ (n : Kernel). n.files) rest3 ∙ files2

  ends : IsEndedIn k1 h (live_now k h).parent status k' h'
  ends = record {
    sound = sound4 (sound3 sound2);
    stopped = ap (λ (n : Kernel). n.current) rest4 ∙ ap (λ (n : Kernel). n.current) rest3 ∙ stopped2;
    frames = ap (λ (n : Kernel). length n.memories.ram) rest4 ∙ ap (λ (n : Kernel). length n.memories.ram) rest3 ∙ frames2;
    files = same-files;
    table =
        table4
        ∙ ap (each_changed (woken (on.Children 1))) (table3 ∙ ap (parent_woken parent) table2)
        ∙ ap (λ o. end_in (slot_now k1) (pid_now k1) o status k1.table) (sym is);
    state = state4 ∙ state3 ∙ state2;
  }

  named : FilesLeft (state_of k h) (state_of k' h')
  named =
      files-left k k' h h' ends.sound (ended-counted k k1 k' h h' status (bared all) ends) (subst IsTable (sym same-files) all.after.files)
      (λ file x there. all.remains.files file x (sym (ap (λ fs. open_file_at fs file) same-files) ∙ there))

  pub exit-makes : (answer : Answer) → gone_with answer ≡ Some status → Makes k h (gone answer (view_now k h)) k' h'
  exit-makes = end-makes k k1 k' h h' status (bared all) ends whole runs named
