-- What everybody else waits for is the same after each update, and marks stay.
use Rattle.kernel_spec.proofs.Prelude.{ℕ, ℤ, ◌<◌, ◌∙◌, ◌≡◌, ◌≢◌, ◌⊎◌, Alive, ap, arith, at_start, Bool, c_int, Call, call_waits_for, changed_state, cond, Console, end_of, false, File, FilesLeft}
use Rattle.kernel_spec.proofs.Prelude.{FinMap, forked_child, forked_state, forking, get, gone_state, inl, inr, insert, KeepsTargets, kill_state, Live, live, live_part, marked, nat_cmp, nat_eq, nat_lt}
use Rattle.kernel_spec.proofs.Prelude.{negsuc, NOFILE, None, OpenFile, Option, option_map, OthersWaitOn, own_state, Pipe, Pipe_end, pos, Process, Read, read_waits_for, refl, Row, row_of}
use Rattle.kernel_spec.proofs.Prelude.{row_waits_for, Sleep, Some, State, sym, Target, target_at, target_of_open, Terminal, true, Wait, waited_state, waits_for, WaitsStay, WellFormed, Write}
use Rattle.kernel_spec.proofs.Prelude.{write_waits_for}
use Rattle.kernel_spec.proofs.steps.SeenByParts.{file_of}
use Rattle.kernel_spec.proofs.steps.MapsAfterChange.{get_other, get_without}
use Rattle.kernel_spec.proofs.steps.OrphansKeepKeys.{get-change}
use Rattle.kernel_spec.proofs.steps.ForkIsItsRow.{live_some}
use Rattle.kernel_spec.proofs.Common.{alive_part, marked_again}
use Rattle.kernel_spec.proofs.waking.GoneOpens as gone

-- ---- how far a file was read is nothing that anybody waits for

start-read : (o : Option Target) → read_waits_for o ≡ read_waits_for (at_start o)
start-read None = refl
start-read (Some Terminal) = refl
start-read (Some (File program offset)) = refl
start-read (Some (Pipe_end i end)) = refl

start-write : (o : Option Target) → write_waits_for o ≡ write_waits_for (at_start o)
start-write None = refl
start-write (Some Terminal) = refl
start-write (Some (File program offset)) = refl
start-write (Some (Pipe_end i end)) = refl

start-cond : (b : Bool) (x y : Option Target) → at_start x ≡ at_start y → at_start (cond b x None) ≡ at_start (cond b y None)
start-cond true x y e = e
start-cond false x y e = refl

-- ---- one process: its call and its descriptors are the same, and its open files are on the same

module _ (s t : State) (q : ℕ) (l m : Live) (calls : m.call ≡ l.call) (descriptors : m.descriptors ≡ l.descriptors)
    (targets : (d f : ℕ) → get l.descriptors d ≡ Some f → at_start (target_of_open (get t.files f)) ≡ at_start (target_of_open (get s.files f))) where
  same_end : (d : ℕ) (o : Option ℕ) → get l.descriptors d ≡ o → at_start (end_of t o) ≡ at_start (end_of s o)
  same_end d None e = refl
  same_end d (Some f) e = targets d f e

  same_target : (z : ℤ) → at_start (target_at t m z) ≡ at_start (target_at s l z)
  same_target (pos d) =
      ap (λ (named : FinMap nat_cmp ℕ). at_start (cond (nat_lt d NOFILE) (end_of t (get named d)) None)) descriptors
      ∙ start-cond (nat_lt d NOFILE) (end_of t (get l.descriptors d)) (end_of s (get l.descriptors d)) (same_end d (get l.descriptors d) refl)
  same_target (negsuc k) = refl

  same_row : (c : Call) (r : Option Row) → row_waits_for t q m c r ≡ row_waits_for s q l c r
  same_row c (Some Wait) = refl
  same_row c (Some Read) = start-read (target_at t m (c_int c.a0)) ∙ ap read_waits_for (same_target (c_int c.a0)) ∙ sym (start-read (target_at s l (c_int c.a0)))
  same_row c (Some Write) = start-write (target_at t m (c_int c.a0)) ∙ ap write_waits_for (same_target (c_int c.a0)) ∙ sym (start-write (target_at s l (c_int c.a0)))
  same_row c (Some Sleep) = refl
  same_row c _ = refl

  same_call : (o : Option Call) → call_waits_for t q m o ≡ call_waits_for s q l o
  same_call None = refl
  same_call (Some c) = same_row c (row_of c.number)

  waits-same : waits_for t q m ≡ waits_for s q l
  waits-same = ap (call_waits_for t q m) calls ∙ same_call l.call

-- ---- all others

-- of l, which is m now, nothing is another that waiting rests on
record Spared (l m : Live) : Type 0 where
  call : m.call ≡ l.call
  descriptors : m.descriptors ≡ l.descriptors
  stays : l.killed ≡ true → m.killed ≡ true

spared-same : (l m : Live) → Some l ≡ Some m → Spared l m
spared-same l m e = let same : m ≡ l = cc in record {
  call = ap (λ (x : Live). x.call) same;
  descriptors = ap (λ (x : Live). x.descriptors) same;
  stays = λ killed. ap (λ (x : Live). x.killed) same ∙ killed;
}

others : (s t : State) (p : ℕ) → KeepsTargets s p t.files → ((q : ℕ) (l m : Live) → q ≢ p → live s q ≡ Some l → live t q ≡ Some m → Spared l m) → OthersWaitOn s p t
others s t p targets spared q l m other was is =
    let x : Spared l m = spared q l m other was is in
    (waits-same s t q l m x.call x.descriptors (λ d f named. targets q d f other (ap (λ (o : Option Live). file_of o d) was ∙ named)), x.stays)

-- the same open files
all-stay : (s : State) (p : ℕ) → KeepsTargets s p s.files
all-stay s p q d f other named = refl

-- ---- p changes

module _ (s : State) (p : ℕ) (m : Live) (files : FinMap nat_cmp OpenFile) (pipes : FinMap nat_cmp Pipe) (console : Console) (free : ℕ) where
  abbrev after : State
  after = changed_state p m files pipes console free s

  live-other : (q : ℕ) → q ≢ p → live after q ≡ live s q
  live-other q other = ap live_part (get_other s.processes p (Alive m) q other)

  kept : KeepsTargets s p files ⊎ FilesLeft s after → KeepsTargets s p files
  kept (inl targets) = targets
  kept (inr left) = λ q d f other named. ap (λ o. at_start (target_of_open o)) (left.stay q d f (ap (λ (o : Option Live). file_of o d) (live-other q other) ∙ named))

  changed : KeepsTargets s p files ⊎ FilesLeft s after → OthersWaitOn s p after
  changed either = others s after p (kept either) (λ q l n other was is. spared-same l n (sym was ∙ sym (live-other q other) ∙ is))

-- ---- p kills

spared-marked : (b : Bool) (l m : Live) → live_part (cond b (option_map marked (Some (Alive l))) (Some (Alive l))) ≡ Some m → Spared l m
spared-marked true l m e = let same : m ≡ record l { killed = true } = cc in record {
  call = ap (λ (x : Live). x.call) same;
  descriptors = ap (λ (x : Live). x.descriptors) same;
  stays = λ killed. ap (λ (x : Live). x.killed) same;
}
spared-marked false l m e = spared-same l m e

killed : (s : State) (p : ℕ) (m : Live) (r : ℕ) → OthersWaitOn s p (kill_state p m r s)
killed s p m r = others s (kill_state p m r s) p (all-stay s p) (λ q l n other was is.
    let old : get (own_state p m s).processes q ≡ Some (Alive l) = get_other s.processes p (Alive m) q other ∙ alive_part (get s.processes q) l was in
    let new : get (kill_state p m r s).processes q ≡ cond (nat_eq q r) (option_map marked (get (own_state p m s).processes q)) (get (own_state p m s).processes q)
    = get-change marked marked_again (own_state p m s).processes r q (get (own_state p m s).processes r) refl in
    spared-marked (nat_eq q r) l n (sym (ap live_part (new ∙ ap (λ (o : Option Process). cond (nat_eq q r) (option_map marked o) o) old)) ∙ is))

-- ---- p takes a zombie

spared-kept : (b : Bool) (l m : Live) → live_part (cond b None (Some (Alive l))) ≡ Some m → Spared l m
spared-kept true l m e = let no : ⊥ = cc in absurd no
spared-kept false l m e = spared-same l m e

waited : (s : State) (p : ℕ) (m : Live) (r : ℕ) → OthersWaitOn s p (waited_state p m r s)
waited s p m r = others s (waited_state p m r s) p (all-stay s p) (λ q l n other was is.
    let old : get (insert s.processes p (Alive m)) q ≡ Some (Alive l) = get_other s.processes p (Alive m) q other ∙ alive_part (get s.processes q) l was in
    spared-kept (nat_eq q r) l n (sym (ap live_part (get_without (insert s.processes p (Alive m)) r q ∙ ap (λ (o : Option Process). cond (nat_eq q r) None o) old)) ∙ is))

-- ---- p forks

below-apart : (a b : ℕ) → a < b → a ≢ b
below-apart a b low same = omega arith

module _ (frames : ℕ) (s : State) (p : ℕ) (l : Live) (well : WellFormed frames s) (was : get s.processes p ≡ Some (Alive l)) where
  forks : OthersWaitOn s p (forked_state p l s)
  forks = others s (forked_state p l s) p (all-stay s p) (λ q m n other before is.
      let apart : q ≢ s.next_pid = below-apart q s.next_pid (well.pids q (live_some (get s.processes q) m before)).1 in
      let same : live (forked_state p l s) q ≡ live s q =
      ap live_part (get_other (insert s.processes p (Alive (forking s l))) s.next_pid (Alive (forked_child s p l)) q apart ∙ get_other s.processes p (Alive (forking s l)) q other) in
      spared-same m n (sym before ∙ sym same ∙ is))

  -- ---- p goes

  goes : (status : ℤ) (files : FinMap nat_cmp OpenFile) → FilesLeft s (gone_state p l status files s) → OthersWaitOn s p (gone_state p l status files s)
  goes status files left q m n other before is =
      let same : Some n ≡ Some (gone.away frames s p l status files well was left m) = sym is ∙ gone.live-away frames s p l status files well was left q m other before in
      let one : n ≡ gone.away frames s p l status files well was left m = cc in
      (ap (waits_for (gone_state p l status files s) q) one ∙ gone.waits-away frames s p l status files well was left q m other before, λ killed. ap (λ (x : Live). x.killed) one ∙ killed)

pub waits_stay : WaitsStay
waits_stay frames s p l well was = (
  λ m files pipes console free either. changed s p m files pipes console free either,
  λ m q. killed s p m q,
  λ m q. waited s p m q,
  forks frames s p l well was,
  goes frames s p l well was,
  λ clock console q m. waits-same s (record s { clock = clock; console = console }) q m m refl refl (λ d f named. refl),
)
