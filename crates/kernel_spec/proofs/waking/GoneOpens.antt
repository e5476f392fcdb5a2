-- What the others wait for when a process goes, and what comes by it.
use Rattle.kernel_spec.proofs.Prelude.{[], ℕ, ℤ, ◌&&◌, ◌||◌, ◌∙◌, ◌∷◌, ◌≡◌, ◌≢◌, ◌⊎◌, Alive, and_parts, ap, Bool, Bytes, c_int, Call, call_waits_for, Channel, Child_of, child_of, closes_wake, cond}
use Rattle.kernel_spec.proofs.Prelude.{Condition, contains_key-keys, end_of, end_wakes, eq-eqb, eq_by_cmp, eqb-true, Exited, false, FilesLeft, FinMap, get, given_to, gone_state, has_bytes, has_room}
use Rattle.kernel_spec.proofs.Prelude.{has_status, inl, inr, is_for, is_given_up, is_open, is_some, is_this, IsLive, Keys, keys, last_closes, length, List, list_any, Live, live, live_part}
use Rattle.kernel_spec.proofs.Prelude.{MayOpenAtEnd, nat_cmp, nat_eq, nat_lt, negsuc, NOFILE, None, not, Nothing, OpenFile, Option, option_map, or_cases, or_gone, or_left, or_right, orphan, orphans}
use Rattle.kernel_spec.proofs.Prelude.{Pipe, PIPE_BYTES, pos, Process, Read, read_waits_for, refl, Room, Row, row_of, row_waits_for, Sending, Sleep, Some, State, Status, sym, target_at}
use Rattle.kernel_spec.proofs.Prelude.{target_of_open, Time, true, unsigned_tied, Wait, waits_for, WellFormed, Write, write_waits_for, Zombie}
use Rattle.std.specs.List.{find}
use Rattle.kernel_spec.proofs.steps.SeenByParts.{file_of}
use Rattle.kernel_spec.proofs.steps.MapsAfterChange.{get_same}
use Rattle.kernel_spec.proofs.steps.ClosingCountsDown.{kept, fewer}
use Rattle.kernel_spec.proofs.steps.WellFormedIsEnough.{can_go}
use Rattle.kernel_spec.proofs.waking.Openings.{opens_gone}
use Rattle.kernel_spec.proofs.Common.{alive_part, or_false, this_is}
use Rattle.proc_table.specs.declared.channel.Channel.TheVariants as on
use Rattle.kernel_spec.proofs.steps.GoneIsItsRow as goes
use Rattle.kernel_spec.proofs.steps.FamilyLawsHold as family

-- ---- truth values

-- shut before and open after: for that the second has to have come
comes : (a x y : Bool) → (a || x) ≡ false → (a || y) ≡ true → (not x && y) ≡ true
comes true x y e f = let no : ⊥ = cc in absurd no
comes false true y e f = let no : ⊥ = cc in absurd no
comes false false y e f = f

-- ---- what a condition has to do with the channels that an end wakes

-- who waits for it is woken by the end
abbrev pub end_wakes_for : (parent : Option ℕ) → FinMap nat_cmp Pipe → FinMap nat_cmp Pipe → Condition → Bool
end_wakes_for parent m n (Child_of q) = is_this q parent || nat_eq q 1
end_wakes_for parent m n (Bytes i) = last_closes (or_gone (get m i)).writers (or_gone (get n i)).writers
end_wakes_for parent m n (Room i) = last_closes (or_gone (get m i)).readers (or_gone (get n i)).readers
end_wakes_for parent m n _ = false

pub wakes-for : (parent : Option ℕ) (m n : FinMap nat_cmp Pipe) (c : Condition) (channel : Channel) → is_for c channel ≡ true → end_wakes parent m n channel ≡ end_wakes_for parent m n c
wakes-for parent m n (Child_of p) (on.Children q) e = ap (λ (k : ℕ). is_this k parent || nat_eq k 1) (sym (eqb-true p q e))
wakes-for parent m n (Bytes i) (on.Bytes f) e = sym (or_false (closes_wake m n (on.Bytes f)))
    ∙ ap (λ (k : ℕ). last_closes (or_gone (get m k)).writers (or_gone (get n k)).writers) (sym (eqb-true i f e))
wakes-for parent m n (Room i) (on.Room f) e = sym (or_false (closes_wake m n (on.Room f))) ∙ ap (λ (k : ℕ). last_closes (or_gone (get m k)).readers (or_gone (get n k)).readers) (sym (eqb-true i f e))
wakes-for parent m n (Time since ticks) on.Clock e = refl
wakes-for parent m n Keys on.Keys e = refl
wakes-for parent m n Sending on.Sending e = refl
wakes-for parent m n c channel e = let no : ⊥ = cc in absurd no

-- pid 1 in wait is always woken
pub first-wakes : (parent : Option ℕ) (m n : FinMap nat_cmp Pipe) (c : Condition) → c ≡ Child_of 1 → end_wakes_for parent m n c ≡ true
first-wakes parent m n c e = ap (end_wakes_for parent m n) e ∙ or_right (is_this 1 parent) true refl

-- ---- a process that is found among pids

found_some : (test : ℕ → Bool) (ks : List ℕ) (k : ℕ) → list_any (eq_by_cmp nat_cmp k) ks ≡ true → test k ≡ true → is_some (find test ks) ≡ true
found_some test [] k e f = let no : ⊥ = cc in absurd no
found_some test (q ∷ ks) k e f = by (λ later. found_some test ks k later f) (test q) refl
  where
    here : nat_eq k q ≡ true → test q ≡ true
    here same = sym (ap test (eqb-true k q same)) ∙ f

    by : (list_any (eq_by_cmp nat_cmp k) ks ≡ true → is_some (find test ks) ≡ true) → (b : Bool) → test q ≡ b → is_some (cond b (Some q) (find test ks)) ≡ true
    by rest true is = refl
    by rest false is = elim (or_cases (nat_eq k q) (list_any (eq_by_cmp nat_cmp k) ks) (ap (λ (b : Bool). b || list_any (eq_by_cmp nat_cmp k) ks) (sym (unsigned_tied k q)) ∙ e)) [
      | inl same ↦ absurd (differ (here same) is)
      | inr later ↦ rest later
    ]
      where
        differ : {b : Bool} → b ≡ true → b ≡ false → ⊥
        differ t f = cc

module _ (frames : ℕ) (s : State) (p : ℕ) (l : Live) (status : ℤ) (files : FinMap nat_cmp OpenFile) (well : WellFormed frames s) (was : IsLive s p l)
    (left : FilesLeft s (gone_state p l status files s)) where
  abbrev dead : State
  dead = gone_state p l status files s

  -- ---- the other processes: all but perhaps the parent stays

  abbrev pub away : Live → Live
  away m = record m { parent = cond (is_this p m.parent) (Some 1) m.parent }

  orphan_live : (m : Live) (b : Bool) → live_part (Some (cond b (given_to 1 (Alive m)) (Alive m))) ≡ Some (record m { parent = cond b (Some 1) m.parent })
  orphan_live m true = refl
  orphan_live m false = refl

  pub live-away : (q : ℕ) (m : Live) → q ≢ p → live s q ≡ Some m → live dead q ≡ Some (away m)
  live-away q m other is =
      ap live_part (family.gone_at frames s p l (Exited status) status files well was refl left q other ∙ ap (option_map (orphan p)) (alive_part (get s.processes q) m is))
      ∙ orphan_live m (is_this p m.parent)

  -- ---- they wait for what they waited for

  module _ (q : ℕ) (m : Live) (other : q ≢ p) (is : live s q ≡ Some m) where
    same_end : (d : ℕ) (o : Option ℕ) → get m.descriptors d ≡ o → end_of dead o ≡ end_of s o
    same_end d None e = refl
    same_end d (Some g) e = ap target_of_open (family.spared frames s p l (Exited status) status files well was refl left g (q, d, other, ap (λ (x : Option Live). file_of x d) is ∙ e))

    same_target : (z : ℤ) → target_at dead (away m) z ≡ target_at s m z
    same_target (pos d) = ap (λ o. cond (nat_lt d NOFILE) o None) (same_end d (get m.descriptors d) refl)
    same_target (negsuc k) = refl

    same_row : (c : Call) (r : Option Row) → row_waits_for dead q (away m) c r ≡ row_waits_for s q m c r
    same_row c (Some Wait) = refl
    same_row c (Some Read) = ap read_waits_for (same_target (c_int c.a0))
    same_row c (Some Write) = ap write_waits_for (same_target (c_int c.a0))
    same_row c (Some Sleep) = refl
    same_row c _ = refl

    same_call : (o : Option Call) → call_waits_for dead q (away m) o ≡ call_waits_for s q m o
    same_call None = refl
    same_call (Some c) = same_row c (row_of c.number)

    pub waits-away : waits_for dead q (away m) ≡ waits_for s q m
    waits-away = same_call m.call

  -- ---- what comes

  pipe_dead : (i : ℕ) → get dead.pipes i ≡ kept (option_map (fewer s l i) (get s.pipes i))
  pipe_dead i = goes.pipe_after s p l was (can_go frames s well p l was) (Exited status) status refl files (family.spared frames s p l (Exited status) status files well was refl left) i

  bytes_come : (i : ℕ) (o : Option Pipe) → has_bytes (or_gone o) ≡ false → has_bytes (or_gone (kept (option_map (fewer s l i) o))) ≡ true
      → last_closes (or_gone o).writers (or_gone (kept (option_map (fewer s l i) o))).writers ≡ true
  bytes_come i None e f = let no : ⊥ = cc in absurd no
  bytes_come i (Some x) e f = by (is_given_up (fewer s l i x)) f
    where
      by : (b : Bool) → has_bytes (or_gone (cond b None (Some (fewer s l i x)))) ≡ true → last_closes x.writers (or_gone (cond b None (Some (fewer s l i x)))).writers ≡ true
      by true g = comes (nat_lt 0 (length x.bytes)) (nat_eq x.writers 0) true e (or_right (nat_lt 0 (length x.bytes)) true refl)
      by false g = comes (nat_lt 0 (length x.bytes)) (nat_eq x.writers 0) (nat_eq (fewer s l i x).writers 0) e g

  room_comes : (i : ℕ) (o : Option Pipe) → has_room (or_gone o) ≡ false → has_room (or_gone (kept (option_map (fewer s l i) o))) ≡ true
      → last_closes (or_gone o).readers (or_gone (kept (option_map (fewer s l i) o))).readers ≡ true
  room_comes i None e f = let no : ⊥ = cc in absurd no
  room_comes i (Some x) e f = by (is_given_up (fewer s l i x)) f
    where
      by : (b : Bool) → has_room (or_gone (cond b None (Some (fewer s l i x)))) ≡ true → last_closes x.readers (or_gone (cond b None (Some (fewer s l i x)))).readers ≡ true
      by true g = comes (nat_lt (length x.bytes) PIPE_BYTES) (nat_eq x.readers 0) true e (or_right (nat_lt (length x.bytes) PIPE_BYTES) true refl)
      by false g = comes (nat_lt (length x.bytes) PIPE_BYTES) (nat_eq x.readers 0) (nat_eq (fewer s l i x).readers 0) e g

  -- its parent has a zombie to wait for
  zombie_comes : (a : ℕ) → l.parent ≡ Some a → is_open dead (Child_of a) ≡ true
  zombie_comes a parent =
      let here : get dead.processes p ≡ Some (Zombie l.parent status) = get_same (orphans p s).processes p (Zombie l.parent status) in
      let mine : is_this a l.parent ≡ true = ap (is_this a) parent ∙ eq-eqb a a refl in
      or_left _ _ (found_some (λ r. has_status (child_of a (get dead.processes r))) (keys dead.processes) p (sym (contains_key-keys dead.processes p) ∙ ap is_some here)
      (ap (λ (x : Option Process). has_status (child_of a x)) here ∙ ap (λ (b : Bool). has_status (cond b (Some (Status status)) None)) mine))

  -- who is woken may go on, or is pid 1 that waits for a child
  pub wakes-due : (c : Condition) → end_wakes_for l.parent s.pipes dead.pipes c ≡ true → (is_open dead c ≡ true) ⊎ (c ≡ Child_of 1)
  wakes-due (Child_of q) e = elim (or_cases (is_this q l.parent) (nat_eq q 1) e) [
    | inl mine ↦ inl (zombie_comes q (this_is q l.parent mine))
    | inr one ↦ inr (ap Child_of (eqb-true q 1 one))
  ]
  wakes-due (Bytes i) e = inl (or_right _ _ (and_parts (not (nat_eq (or_gone (get s.pipes i)).writers 0)) (nat_eq (or_gone (get dead.pipes i)).writers 0) e).1)
  wakes-due (Room i) e = inl (or_right _ _ (and_parts (not (nat_eq (or_gone (get s.pipes i)).readers 0)) (nat_eq (or_gone (get dead.pipes i)).readers 0) e).1)
  wakes-due Nothing e = let no : ⊥ = cc in absurd no
  wakes-due (Time since ticks) e = let no : ⊥ = cc in absurd no
  wakes-due Keys e = let no : ⊥ = cc in absurd no
  wakes-due Sending e = let no : ⊥ = cc in absurd no

  -- who may go on from now on is woken; p itself waits for nothing
  pub due-wakes : (c : Condition) → is_open s c ≡ false → is_open dead c ≡ true → c ≢ Child_of p → end_wakes_for l.parent s.pipes dead.pipes c ≡ true
  due-wakes (Child_of a) e f not_own = by (opens_gone frames s p l status files well was left (Child_of a) e f)
    where
      by : MayOpenAtEnd s p l (Child_of a) → (is_this a l.parent || nat_eq a 1) ≡ true
      by (inl (q, is, who)) =
          let same : a ≡ q = cc in
          elim who [
            | inl parent ↦ or_left (is_this a l.parent) (nat_eq a 1) (ap (is_this a) parent ∙ eq-eqb q a (sym same))
            | inr more ↦ elim more [
              | inl one ↦ or_right (is_this a l.parent) (nat_eq a 1) (eq-eqb a 1 (same ∙ one))
              | inr me ↦ absurd (not_own (ap Child_of (same ∙ me)))
            ]
          ]
      by (inr (j, e, of_pipe, has)) = let no : ⊥ = elim of_pipe [ inl b ↦ cc | inr r ↦ cc ] in absurd no
  due-wakes (Bytes i) e f not_own = ap (λ (o : Option Pipe). last_closes (or_gone (get s.pipes i)).writers (or_gone o).writers) (pipe_dead i)
      ∙ bytes_come i (get s.pipes i) e (ap (λ (o : Option Pipe). has_bytes (or_gone o)) (sym (pipe_dead i)) ∙ f)
  due-wakes (Room i) e f not_own = ap (λ (o : Option Pipe). last_closes (or_gone (get s.pipes i)).readers (or_gone o).readers) (pipe_dead i)
      ∙ room_comes i (get s.pipes i) e (ap (λ (o : Option Pipe). has_room (or_gone o)) (sym (pipe_dead i)) ∙ f)
  due-wakes Nothing e f not_own = let no : ⊥ = cc in absurd no
  due-wakes (Time since ticks) e f not_own = let no : true ≡ false = sym f ∙ e in let nope : ⊥ = cc in absurd nope
  due-wakes Keys e f not_own = let no : true ≡ false = sym f ∙ e in let nope : ⊥ = cc in absurd nope
  due-wakes Sending e f not_own = let no : true ≡ false = sym f ∙ e in let nope : ⊥ = cc in absurd nope
