-- Who has to wake where a call changes pipes: readers of a pipe that can be read now, writers of one that can be written now, and nobody else.
use Rattle.kcall_core.proofs.Prelude.{ℕ, ◌&&◌, ◌||◌, ◌∙◌, ◌≡◌, Alive, ap, Bool, Bytes, changed_state, Channel, Child_of, closes_wake, cond, Condition, End, eqb-true, eqb_tells, false, family}
use Rattle.kcall_core.proofs.Prelude.{fewer_at, fewer_on, File, FinMap, get, has_bytes, has_room, inl, inr, is_for, is_given_up, is_open, Keys, last_closes, length, Live, nat_cmp, nat_eq, nat_lt}
use Rattle.kcall_core.proofs.Prelude.{None, not, OpenFile, Option, or_gone, or_parts, parted, Pipe, PIPE_BYTES, Pipe_end, Reading, refl, Room, Sending, settled, Some, State, sym, Target, Terminal}
use Rattle.kcall_core.proofs.Prelude.{Time, true, Writing}
use Rattle.kcall_core.proofs.files.PipeLeft.{remainder, with-settled, get-with}
use Rattle.proc_table.specs.declared.channel.Channel.TheVariants as on

-- Those channels wake that readers and writers of pipes sleep on, where the pipe has what they wait for now; no other does
pub record WakeOnPipes (wakes : Channel → Bool) (before after : FinMap nat_cmp Pipe) : Type 0 where
  pub bytes : (i : ℕ) → has_bytes (or_gone (get before i)) ≡ false → wakes (on.Bytes i) ≡ has_bytes (or_gone (get after i))
  pub room : (i : ℕ) → has_room (or_gone (get before i)) ≡ false → wakes (on.Room i) ≡ has_room (or_gone (get after i))
  pub children : (q : ℕ) → wakes (on.Children q) ≡ false
  pub clock : wakes on.Clock ≡ false
  pub keys : wakes on.Keys ≡ false
  pub sending : wakes on.Sending ≡ false

-- so they are those who may go on
pub opens-on-pipes : (s : State) (p : ℕ) (l m : Live) (files : FinMap nat_cmp OpenFile) (pipes : FinMap nat_cmp Pipe) (free : ℕ)
    (wakes : Channel → Bool) → get s.processes p ≡ Some (Alive l) → m.parent ≡ l.parent → WakeOnPipes wakes s.pipes pipes
    → (c : Condition) (channel : Channel) → is_for c channel ≡ true → is_open s c ≡ false → wakes channel ≡ is_open (changed_state p m files pipes s.console free s) c
opens-on-pipes s p l m files pipes free wakes was parent x (Child_of q) (on.Children r) e shut = x.children r ∙ sym (family s p l m files pipes s.console free was parent q ∙ shut)
opens-on-pipes s p l m files pipes free wakes was parent x (Bytes i) (on.Bytes f) e shut = ap (λ n. wakes (on.Bytes n)) (sym (eqb-true i f e)) ∙ x.bytes i shut
opens-on-pipes s p l m files pipes free wakes was parent x (Room i) (on.Room f) e shut = ap (λ n. wakes (on.Room n)) (sym (eqb-true i f e)) ∙ x.room i shut
opens-on-pipes s p l m files pipes free wakes was parent x (Time since ticks) on.Clock e shut = x.clock ∙ sym shut
opens-on-pipes s p l m files pipes free wakes was parent x Keys on.Keys e shut = x.keys ∙ sym shut
opens-on-pipes s p l m files pipes free wakes was parent x Sending on.Sending e shut = x.sending ∙ sym shut
opens-on-pipes s p l m files pipes free wakes was parent x c channel e shut = let no : ⊥ = cc in absurd no

-- ---- a pipe whose bytes stay, or that is given up

bytes-part : (x z : Pipe) → z.bytes ≡ x.bytes → has_bytes x ≡ false → last_closes x.writers (or_gone (remainder z)).writers ≡ has_bytes (or_gone (remainder z))
bytes-part x z same shut = by (is_given_up z)
  where
    by : (b : Bool) → last_closes x.writers (or_gone (cond b None (Some z))).writers ≡ has_bytes (or_gone (cond b None (Some z)))
    by true = let e = or_parts (nat_lt 0 (length x.bytes)) (nat_eq x.writers 0) shut in (λ i. not (e.1 i) && true)
    by false =
        let e = or_parts (nat_lt 0 (length x.bytes)) (nat_eq x.writers 0) shut in
        (λ i. not (e.1 i) && nat_eq z.writers 0) ∙ (λ i. sym (ap (λ bs. nat_lt 0 (length bs)) same ∙ e.0) i || nat_eq z.writers 0)

room-part : (x z : Pipe) → z.bytes ≡ x.bytes → has_room x ≡ false → last_closes x.readers (or_gone (remainder z)).readers ≡ has_room (or_gone (remainder z))
room-part x z same shut = by (is_given_up z)
  where
    by : (b : Bool) → last_closes x.readers (or_gone (cond b None (Some z))).readers ≡ has_room (or_gone (cond b None (Some z)))
    by true = let e = or_parts (nat_lt (length x.bytes) PIPE_BYTES) (nat_eq x.readers 0) shut in (λ i. not (e.1 i) && true)
    by false =
        let e = or_parts (nat_lt (length x.bytes) PIPE_BYTES) (nat_eq x.readers 0) shut in
        (λ i. not (e.1 i) && nat_eq z.readers 0) ∙ (λ i. sym (ap (λ bs. nat_lt (length bs) PIPE_BYTES) same ∙ e.0) i || nat_eq z.readers 0)

bytes-same : (x : Pipe) → has_bytes x ≡ false → last_closes x.writers x.writers ≡ has_bytes x
bytes-same x shut = let e = or_parts (nat_lt 0 (length x.bytes)) (nat_eq x.writers 0) shut in (λ i. not (e.1 i) && e.1 i) ∙ sym shut

room-same : (x : Pipe) → has_room x ≡ false → last_closes x.readers x.readers ≡ has_room x
room-same x shut = let e = or_parts (nat_lt (length x.bytes) PIPE_BYTES) (nat_eq x.readers 0) shut in (λ i. not (e.1 i) && e.1 i) ∙ sym shut

parted-bytes : (x : Pipe) (end : End) → (parted x end 1).bytes ≡ x.bytes
parted-bytes x Reading = refl
parted-bytes x Writing = refl

-- nothing changes
pub same-pipes-wake : (m : FinMap nat_cmp Pipe) → WakeOnPipes (closes_wake m m) m m
same-pipes-wake m = record {
  bytes = λ i shut. bytes-same (or_gone (get m i)) shut;
  room = λ i shut. room-same (or_gone (get m i)) shut;
  children = λ q. refl;
  clock = refl;
  keys = refl;
  sending = refl;
}

-- one descriptor fewer is on an end
pub fewer-wake : (target : Option Target) (m : FinMap nat_cmp Pipe) → WakeOnPipes (closes_wake m (fewer_on target m)) m (fewer_on target m)
fewer-wake None m = same-pipes-wake m
fewer-wake (Some Terminal) m = same-pipes-wake m
fewer-wake (Some (File program offset)) m = same-pipes-wake m
fewer-wake (Some (Pipe_end i end)) m = by (get m i) refl
  where
    by : (o : Option Pipe) → get m i ≡ o → WakeOnPipes (closes_wake m (fewer_at i end m o)) m (fewer_at i end m o)
    by None is = same-pipes-wake m
    by (Some x) is =
        let z = parted x end 1 in
        let after : (j : ℕ) → get (settled i z m) j ≡ cond (nat_eq j i) (remainder z) (get m j) = λ j. ap (λ n. get n j) (sym (with-settled i z m)) ∙ get-with i z m j in
        record {
          bytes = λ j shut. ap (λ (o : Option Pipe). last_closes (or_gone (get m j)).writers (or_gone o).writers) (after j) ∙ bytes j shut
              ∙ sym (ap (λ (o : Option Pipe). has_bytes (or_gone o)) (after j));
          room = λ j shut. ap (λ (o : Option Pipe). last_closes (or_gone (get m j)).readers (or_gone o).readers) (after j) ∙ room j shut
              ∙ sym (ap (λ (o : Option Pipe). has_room (or_gone o)) (after j));
          children = λ q. refl;
          clock = refl;
          keys = refl;
          sending = refl;
        }
      where
        here : (j : ℕ) → j ≡ i → or_gone (get m j) ≡ x
        here j e = ap (λ n. or_gone (get m n)) e ∙ ap or_gone is

        bytes : (j : ℕ) → has_bytes (or_gone (get m j)) ≡ false
            → last_closes (or_gone (get m j)).writers (or_gone (cond (nat_eq j i) (remainder (parted x end 1)) (get m j))).writers ≡ has_bytes
            (or_gone (cond (nat_eq j i) (remainder (parted x end 1)) (get m j)))
        bytes j shut = elim (eqb_tells j i) [
          | inl e ↦
              (λ t. last_closes (here j e.1 t).writers (or_gone (cond (e.0 t) (remainder (parted x end 1)) (get m j))).writers)
              ∙ bytes-part x (parted x end 1) (parted-bytes x end) (sym (ap has_bytes (here j e.1)) ∙ shut)
              ∙ sym (ap (λ (b : Bool). has_bytes (or_gone (cond b (remainder (parted x end 1)) (get m j)))) e.0)
          | inr e ↦
              ap (λ (b : Bool). last_closes (or_gone (get m j)).writers (or_gone (cond b (remainder (parted x end 1)) (get m j))).writers) e.0
              ∙ bytes-same (or_gone (get m j)) shut
              ∙ sym (ap (λ (b : Bool). has_bytes (or_gone (cond b (remainder (parted x end 1)) (get m j)))) e.0)
        ]

        room : (j : ℕ) → has_room (or_gone (get m j)) ≡ false
            → last_closes (or_gone (get m j)).readers (or_gone (cond (nat_eq j i) (remainder (parted x end 1)) (get m j))).readers ≡ has_room
            (or_gone (cond (nat_eq j i) (remainder (parted x end 1)) (get m j)))
        room j shut = elim (eqb_tells j i) [
          | inl e ↦
              (λ t. last_closes (here j e.1 t).readers (or_gone (cond (e.0 t) (remainder (parted x end 1)) (get m j))).readers)
              ∙ room-part x (parted x end 1) (parted-bytes x end) (sym (ap has_room (here j e.1)) ∙ shut)
              ∙ sym (ap (λ (b : Bool). has_room (or_gone (cond b (remainder (parted x end 1)) (get m j)))) e.0)
          | inr e ↦
              ap (λ (b : Bool). last_closes (or_gone (get m j)).readers (or_gone (cond b (remainder (parted x end 1)) (get m j))).readers) e.0
              ∙ room-same (or_gone (get m j)) shut
              ∙ sym (ap (λ (b : Bool). has_room (or_gone (cond b (remainder (parted x end 1)) (get m j)))) e.0)
        ]
