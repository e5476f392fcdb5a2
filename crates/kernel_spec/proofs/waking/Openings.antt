-- What each update may make come that sleepers wait for.
use Rattle.kernel_spec.proofs.Prelude.{[], ℕ, ℤ, ◌++◌, ◌+◌, ◌<◌, ◌||◌, ◌∙◌, ◌∷◌, ◌≡◌, ◌≢◌, ◌⊎◌, Alive, ap, arith, Bool, Bytes, Call, changed_state, Child, Child_of, child_of, cond, Console, eq-eqb}
use Rattle.kernel_spec.proofs.Prelude.{eqb-true, eqb_tells, Exited, false, FilesLeft, filter, FinMap, forked_state, get, given_to, gone_state, has_bytes, has_room, has_status, inl, inr, insert}
use Rattle.kernel_spec.proofs.Prelude.{is_open, is_some, is_this, Keys, keys, least_below, length, List, list_any, Live, mark, marked, MayOpenAtEnd, nat_cmp, nat_eq, nat_lt, NOFILE, None, none_below}
use Rattle.kernel_spec.proofs.Prelude.{not, Nothing, OpenFile, OpensAlone, OpensConsole, OpensForked, OpensGone, OpensMarked, OpensNothing, OpensOnly, OpensPipe, OpensReaped, OpensTick, Option}
use Rattle.kernel_spec.proofs.Prelude.{option_map, or_gone, or_right, orphan, orphans, Pipe, pipe_at, PIPE_BYTES, pos, Process, Reading, refl, Room, Running, same_Some, Sending, Some, State, Status}
use Rattle.kernel_spec.proofs.Prelude.{sym, Time, true, waited_state, WellFormed, with_value, Writing, Zombie}
use Rattle.std.specs.List.{find}
use Rattle.kernel_spec.proofs.steps.ViewsAfterSetLive.{same_child, same_keys}
use Rattle.kernel_spec.proofs.steps.OrphansKeepKeys.{get-change, keys-change}
use Rattle.kernel_spec.proofs.steps.MapsAfterChange.{keys_remove, get_without, get_same}
use Rattle.kernel_spec.proofs.steps.LeastPasses.{least_passes}
use Rattle.kernel_spec.proofs.steps.EndsAreCounted.{plus, among, get-more_on_all}
use Rattle.kernel_spec.proofs.steps.WellFormedIsEnough.{can_fork, can_go}
use Rattle.kernel_spec.proofs.Common.{gone_child, marked_again, marked_child, this_is, this_is_not}
use Rattle.kernel_spec.proofs.steps.GoneIsItsRow as goes
use Rattle.kernel_spec.proofs.steps.FamilyLawsHold as family_files
use Rattle.kernel_spec.proofs.steps.ForkIsItsRow as forks

shut : {A : Type 0} (a b : Bool) → b ≡ a → a ≡ false → b ≡ true → A
shut a b same e f = let no : ⊥ = cc in absurd no

-- the children of every process are as they were
module _ (s t : State) (same : (q r : ℕ) → child_of q (get t.processes r) ≡ child_of q (get s.processes r)) (pids : keys t.processes ≡ keys s.processes) where
  pub family_same : (q : ℕ) → is_open t (Child_of q) ≡ is_open s (Child_of q)
  family_same q = λ i. is_some (find (λ r. has_status (same q r i)) (pids i)) || not (list_any (λ r. is_some (same q r i)) (pids i))

module _ (s : State) (p : ℕ) (l m : Live) (files : FinMap nat_cmp OpenFile) (pipes : FinMap nat_cmp Pipe) (console : Console) (free : ℕ)
    (was : get s.processes p ≡ Some (Alive l)) (parent : m.parent ≡ l.parent) where
  abbrev t : State
  t = changed_state p m files pipes console free s

  pub family : (q : ℕ) → is_open t (Child_of q) ≡ is_open s (Child_of q)
  family q = family_same s t (λ q r. same_child s p l m was parent q r) (same_keys s p l m was parent) q

pub opens_alone : OpensAlone
opens_alone s p l m console free was parent Nothing e f = shut true true refl e f
opens_alone s p l m console free was parent (Child_of q) e f = shut _ _ (family s p l m s.files s.pipes console free was parent q) e f
opens_alone s p l m console free was parent (Bytes i) e f = shut _ _ refl e f
opens_alone s p l m console free was parent (Room i) e f = shut _ _ refl e f
opens_alone s p l m console free was parent (Time since ticks) e f = shut _ _ refl e f
opens_alone s p l m console free was parent Keys e f = inl refl
opens_alone s p l m console free was parent Sending e f = inr refl

pub opens_nothing : OpensNothing
opens_nothing s p l m files free was parent Nothing e f = shut true true refl e f
opens_nothing s p l m files free was parent (Child_of q) e f = shut _ _ (family s p l m files s.pipes s.console free was parent q) e f
opens_nothing s p l m files free was parent (Bytes i) e f = shut _ _ refl e f
opens_nothing s p l m files free was parent (Room i) e f = shut _ _ refl e f
opens_nothing s p l m files free was parent (Time since ticks) e f = shut _ _ refl e f
opens_nothing s p l m files free was parent Keys e f = shut _ _ refl e f
opens_nothing s p l m files free was parent Sending e f = shut _ _ refl e f

pub opens_pipe : OpensPipe
opens_pipe s p l m i files pipes free was parent others Nothing e f = shut true true refl e f
opens_pipe s p l m i files pipes free was parent others (Child_of q) e f = shut _ _ (family s p l m files pipes s.console free was parent q) e f
opens_pipe s p l m i files pipes free was parent others (Bytes j) e f =
    elim (eqb_tells j i) [ inl same ↦ inl (ap Bytes same.1) | inr other ↦ shut _ _ (ap (λ (o : Option Pipe). has_bytes (or_gone o)) (others j other.1)) e f ]
opens_pipe s p l m i files pipes free was parent others (Room j) e f =
    elim (eqb_tells j i) [ inl same ↦ inr (ap Room same.1) | inr other ↦ shut _ _ (ap (λ (o : Option Pipe). has_room (or_gone o)) (others j other.1)) e f ]
opens_pipe s p l m i files pipes free was parent others (Time since ticks) e f = shut _ _ refl e f
opens_pipe s p l m i files pipes free was parent others Keys e f = shut _ _ refl e f
opens_pipe s p l m i files pipes free was parent others Sending e f = shut _ _ refl e f

-- ---- a mark

family_marked : (s : State) (q p : ℕ) → is_open (mark q s) (Child_of p) ≡ is_open s (Child_of p)
family_marked s q p = family_same s (mark q s)
    (λ a r. ap (child_of a) (get-change marked marked_again s.processes q r (get s.processes q) refl) ∙ marked_child a (nat_eq r q) (get s.processes r))
    (keys-change marked marked_again s.processes q (get s.processes q) refl) p

pub opens_marked : OpensMarked
opens_marked s q Nothing e f = shut true true refl e f
opens_marked s q (Child_of p) e f = shut _ _ (family_marked s q p) e f
opens_marked s q (Bytes i) e f = shut _ _ refl e f
opens_marked s q (Room i) e f = shut _ _ refl e f
opens_marked s q (Time since ticks) e f = shut _ _ refl e f
opens_marked s q Keys e f = shut _ _ refl e f
opens_marked s q Sending e f = shut _ _ refl e f

-- ---- ticks and keys

pub opens_tick : OpensTick
opens_tick s clock Nothing e f = shut true true refl e f
opens_tick s clock (Child_of q) e f = shut _ _ refl e f
opens_tick s clock (Bytes i) e f = shut _ _ refl e f
opens_tick s clock (Room i) e f = shut _ _ refl e f
opens_tick s clock (Time since ticks) e f = (since, ticks, refl)
opens_tick s clock Keys e f = shut _ _ refl e f
opens_tick s clock Sending e f = shut _ _ refl e f

pub opens_console : OpensConsole
opens_console s console Nothing e f = shut true true refl e f
opens_console s console (Child_of q) e f = shut _ _ refl e f
opens_console s console (Bytes i) e f = shut _ _ refl e f
opens_console s console (Room i) e f = shut _ _ refl e f
opens_console s console (Time since ticks) e f = shut _ _ refl e f
opens_console s console Keys e f = inl refl
opens_console s console Sending e f = inr refl

-- ---- wait: others' children are as they were, but that a pid is no more

found_without : (q : ℕ) (test : ℕ → Bool) (ks : List ℕ) → test q ≡ false → is_some (find test (filter (λ r. not (nat_eq r q)) ks)) ≡ is_some (find test ks)
found_without q test [] no_q = refl
found_without q test (k ∷ ks) no_q = elim (eqb_tells k q) [
  | inl e ↦
      let here : test k ≡ false = ap test e.1 ∙ no_q in
      (λ i. is_some (find test (cond (not (e.0 i)) (k ∷ filter (λ r. not (nat_eq r q)) ks) (filter (λ r. not (nat_eq r q)) ks))))
      ∙ found_without q test ks no_q ∙ (λ i. is_some (cond (sym here i) (Some k) (find test ks)))
  | inr e ↦
      (λ i. is_some (find test (cond (not (e.0 i)) (k ∷ filter (λ r. not (nat_eq r q)) ks) (filter (λ r. not (nat_eq r q)) ks))))
      ∙ by (test k) (found_without q test ks no_q)
]
  where
    by : (b : Bool) → is_some (find test (filter (λ r. not (nat_eq r q)) ks)) ≡ is_some (find test ks)
        → is_some (cond b (Some k) (find test (filter (λ r. not (nat_eq r q)) ks))) ≡ is_some (cond b (Some k) (find test ks))
    by true h = refl
    by false h = h

any_without : (q : ℕ) (test : ℕ → Bool) (ks : List ℕ) → test q ≡ false → list_any test (filter (λ r. not (nat_eq r q)) ks) ≡ list_any test ks
any_without q test [] no_q = refl
any_without q test (k ∷ ks) no_q = elim (eqb_tells k q) [
  | inl e ↦
      let here : test k ≡ false = ap test e.1 ∙ no_q in
      (λ i. list_any test (cond (not (e.0 i)) (k ∷ filter (λ r. not (nat_eq r q)) ks) (filter (λ r. not (nat_eq r q)) ks)))
      ∙ any_without q test ks no_q ∙ (λ i. sym here i || list_any test ks)
  | inr e ↦
      (λ i. list_any test (cond (not (e.0 i)) (k ∷ filter (λ r. not (nat_eq r q)) ks) (filter (λ r. not (nat_eq r q)) ks)))
      ∙ (λ i. test k || any_without q test ks no_q i)
]

module _ (s : State) (p q : ℕ) (l m : Live) (status : ℤ) (was : get s.processes p ≡ Some (Alive l)) (parent : m.parent ≡ l.parent) (zombie : get s.processes q ≡ Some (Zombie (Some p) status)) where
  abbrev reaped : State
  reaped = waited_state p m q s

  pids_now : keys reaped.processes ≡ filter (λ r. not (nat_eq r q)) (keys s.processes)
  pids_now = keys_remove (insert s.processes p (Alive m)) q ∙ ap (filter (λ r. not (nat_eq r q))) (same_keys s p l m was parent)

  no_child : (a : ℕ) → a ≢ p → child_of a (get s.processes q) ≡ None
  no_child a other =
      let apart : nat_eq p a ≡ false = elim (eqb_tells p a) [ inl e ↦ absurd (other (sym e.1)) | inr e ↦ e.0 ] in
      ap (child_of a) zombie ∙ ap (λ (b : Bool). cond b (Some (Status status)) None) apart

  child_now : (a r : ℕ) → a ≢ p → child_of a (get reaped.processes r) ≡ child_of a (get s.processes r)
  child_now a r other =
      ap (child_of a) (get_without (insert s.processes p (Alive m)) q r) ∙ gone_child a (nat_eq r q) (get (insert s.processes p (Alive m)) r)
      ∙ ap (cond (nat_eq r q) None) (same_child s p l m was parent a r)
      ∙ elim (eqb_tells r q) [
        | inl e ↦ let none : child_of a (get s.processes r) ≡ None = ap (λ (n : ℕ). child_of a (get s.processes n)) e.1 ∙ no_child a other in
            ap (cond (nat_eq r q) None) none ∙ both (nat_eq r q) ∙ sym none
        | inr e ↦ ap (λ (b : Bool). cond b None (child_of a (get s.processes r))) e.0
      ]
    where
      both : (b : Bool) → ◌≡◌ {A = Option Child} (cond b None None) None
      both true = refl
      both false = refl

  family_reaped : (a : ℕ) → a ≢ p → is_open reaped (Child_of a) ≡ is_open s (Child_of a)
  family_reaped a other =
      (λ i. is_some (find (λ r. has_status (child_now a r other i)) (pids_now i)) || not (list_any (λ r. is_some (child_now a r other i)) (pids_now i)))
      ∙ (λ i. found_without q (λ r. has_status (child_of a (get s.processes r))) (keys s.processes) (ap has_status (no_child a other)) i
      || not (any_without q (λ r. is_some (child_of a (get s.processes r))) (keys s.processes) (ap is_some (no_child a other)) i))

  reaps_only : OpensOnly s reaped (λ c. c ≡ Child_of p)
  reaps_only Nothing e f = shut true true refl e f
  reaps_only (Child_of a) e f = elim (eqb_tells a p) [ inl same ↦ ap Child_of same.1 | inr other ↦ shut _ _ (family_reaped a other.1) e f ]
  reaps_only (Bytes i) e f = shut _ _ refl e f
  reaps_only (Room i) e f = shut _ _ refl e f
  reaps_only (Time since ticks) e f = shut _ _ refl e f
  reaps_only Keys e f = shut _ _ refl e f
  reaps_only Sending e f = shut _ _ refl e f

pub opens_reaped : OpensReaped
opens_reaped s p q l m status was parent zombie = reaps_only s p q l m status was parent zombie

-- ---- fork

any_end : (test : ℕ → Bool) (ks : List ℕ) (n : ℕ) → test n ≡ true → list_any test (ks ++ n ∷ []) ≡ true
any_end test [] n h = (λ i. h i || false)
any_end test (k ∷ ks) n h = (λ i. test k || any_end test ks n h i) ∙ or_right (test k) true refl

found_end : (test : ℕ → Bool) (ks : List ℕ) (n : ℕ) → test n ≡ false → is_some (find test (ks ++ n ∷ [])) ≡ is_some (find test ks)
found_end test [] n h = λ i. is_some (cond (h i) (Some n) None)
found_end test (k ∷ ks) n h = by (test k) (found_end test ks n h)
  where
    by : (b : Bool) → is_some (find test (ks ++ n ∷ [])) ≡ is_some (find test ks) → is_some (cond b (Some k) (find test (ks ++ n ∷ []))) ≡ is_some (cond b (Some k) (find test ks))
    by true e = refl
    by false e = e

any_none : (test : ℕ → Bool) (ks : List ℕ) (n : ℕ) → test n ≡ false → list_any test (ks ++ n ∷ []) ≡ list_any test ks
any_none test [] n h = λ i. h i || false
any_none test (k ∷ ks) n h = λ i. test k || any_none test ks n h i

still_shut : (a : Bool) (n b : ℕ) → (a || nat_eq n 0) ≡ false → (a || nat_eq (n + b) 0) ≡ true → ⊥
still_shut true n b e f = let no : ⊥ = cc in no
still_shut false n b e f =
    let zero_sum : n + b ≡ 0 = eqb-true (n + b) 0 f in
    let zero_n : n ≡ 0 = omega arith in
    let yes : nat_eq n 0 ≡ true = eq-eqb n 0 zero_n in
    let no : ⊥ = cc in no

module _ (frames : ℕ) (s : State) (p : ℕ) (l : Live) (well : WellFormed frames s) (was : get s.processes p ≡ Some (Alive l)) where
  abbrev born : State
  born = forked_state p l s

  c0 : Call
  c0 = record { number = pos 1; a0 = 0; a1 = 0; a2 = 0; moved = 0; clock = 0 }

  others_now : (q r : ℕ) → q ≢ p → child_of q (get born.processes r) ≡ child_of q (get s.processes r)
  others_now q r other = forks.others_children s p l was c0 (can_fork frames s well l) q r other

  mine_now : (r : ℕ) → child_of p (get born.processes r) ≡ with_value (λ q. child_of p (get s.processes q)) s.next_pid (Some Running) r
  mine_now r = sym (forks.own_children s p l was c0 (can_fork frames s well l) r)

  pids_born : keys born.processes ≡ keys s.processes ++ s.next_pid ∷ []
  pids_born = sym (forks.pids_after s p l was c0 (can_fork frames s well l))

  new_is_none : (q : ℕ) → child_of q (get s.processes s.next_pid) ≡ None
  new_is_none q = ap (child_of q) (forks.fresh s p l was c0 (can_fork frames s well l))

  family_born : (q : ℕ) → q ≢ p → is_open born (Child_of q) ≡ is_open s (Child_of q)
  family_born q other =
      (λ i. is_some (find (λ r. has_status (others_now q r other i)) (pids_born i)) || not (list_any (λ r. is_some (others_now q r other i)) (pids_born i)))
      ∙ (λ i. found_end (λ r. has_status (child_of q (get s.processes r))) (keys s.processes) s.next_pid (ap has_status (new_is_none q)) i
      || not (any_none (λ r. is_some (child_of q (get s.processes r))) (keys s.processes) s.next_pid (ap is_some (new_is_none q)) i))

  -- p has a child now, and no more zombies
  mine_shut : is_open s (Child_of p) ≡ false → is_open born (Child_of p) ≡ true → ⊥
  mine_shut e f =
      let found : is_some (find (λ r. has_status (child_of p (get born.processes r))) (keys born.processes)) ≡ is_some (find (λ r. has_status (child_of p (get s.processes r))) (keys s.processes)) =
      (λ i. is_some (find (λ r. has_status (mine_now r i)) (pids_born i)))
      ∙ found_end (λ r. has_status (with_value (λ q. child_of p (get s.processes q)) s.next_pid (Some Running) r)) (keys s.processes) s.next_pid
      (ap (λ (b : Bool). has_status (cond b (Some Running) (child_of p (get s.processes s.next_pid)))) (eq-eqb s.next_pid s.next_pid refl))
      ∙ find_same (λ r. has_status (with_value (λ q. child_of p (get s.processes q)) s.next_pid (Some Running) r)) (λ r. has_status (child_of p (get s.processes r))) (keys s.processes) same_status in
      let some : list_any (λ r. is_some (child_of p (get born.processes r))) (keys born.processes) ≡ true =
      (λ i. list_any (λ r. is_some (mine_now r i)) (pids_born i))
      ∙ any_end (λ r. is_some (with_value (λ q. child_of p (get s.processes q)) s.next_pid (Some Running) r)) (keys s.processes) s.next_pid
      (ap (λ (b : Bool). is_some (cond b (Some Running) (child_of p (get s.processes s.next_pid)))) (eq-eqb s.next_pid s.next_pid refl)) in
      contradicts _ _ _ _ found some e f
    where
      contradicts : (a b c d : Bool) → a ≡ b → c ≡ true → (b || not d) ≡ false → (a || not c) ≡ true → ⊥
      contradicts true true c d e f g h = let no : ⊥ = cc in no
      contradicts true false c d e f g h = let no : ⊥ = cc in no
      contradicts false b true d e f g h = let no : ⊥ = cc in no
      contradicts false b false d e f g h = let no : ⊥ = cc in no

      same_status : (r : ℕ) → has_status (with_value (λ q. child_of p (get s.processes q)) s.next_pid (Some Running) r) ≡ has_status (child_of p (get s.processes r))
      same_status r = elim (eqb_tells r s.next_pid) [
        | inl same ↦ ap (λ (b : Bool). has_status (cond b (Some Running) (child_of p (get s.processes r)))) same.0
            ∙ sym (ap has_status (ap (λ (n : ℕ). child_of p (get s.processes n)) same.1 ∙ new_is_none p))
        | inr other ↦ ap (λ (b : Bool). has_status (cond b (Some Running) (child_of p (get s.processes r)))) other.0
      ]

      find_same : (a b : ℕ → Bool) (ks : List ℕ) → ((r : ℕ) → a r ≡ b r) → is_some (find a ks) ≡ is_some (find b ks)
      find_same a b [] same = refl
      find_same a b (k ∷ ks) same = (λ i. is_some (cond (same k i) (Some k) (find a ks))) ∙ by (b k) (find_same a b ks same)
        where
          by : (x : Bool) → is_some (find a ks) ≡ is_some (find b ks) → is_some (cond x (Some k) (find a ks)) ≡ is_some (cond x (Some k) (find b ks))
          by true h = refl
          by false h = h

  -- a pipe with more descriptors on it: no more bytes, no more room
  bytes_shut : (a b : ℕ) (o : Option Pipe) → has_bytes (or_gone o) ≡ false → has_bytes (or_gone (option_map (λ x. plus x a b) o)) ≡ true → ⊥
  bytes_shut a b None e f = let no : ⊥ = cc in no
  bytes_shut a b (Some x) e f = still_shut (nat_lt 0 (length x.bytes)) x.writers b e f

  room_shut : (a b : ℕ) (o : Option Pipe) → has_room (or_gone o) ≡ false → has_room (or_gone (option_map (λ x. plus x a b) o)) ≡ true → ⊥
  room_shut a b None e f = let no : ⊥ = cc in no
  room_shut a b (Some x) e f = still_shut (nat_lt (length x.bytes) PIPE_BYTES) x.readers a e f

  opens_forked_by : OpensOnly s born (λ c. ⊥)
  opens_forked_by Nothing e f = shut true true refl e f
  opens_forked_by (Child_of q) e f = elim (eqb_tells q p) [
    | inl me ↦ mine_shut (ap (λ (n : ℕ). is_open s (Child_of n)) (sym me.1) ∙ e) (ap (λ (n : ℕ). is_open born (Child_of n)) (sym me.1) ∙ f)
    | inr other ↦ shut _ _ (family_born q other.1) e f
  ]
  opens_forked_by (Bytes j) e f = bytes_shut (among s l NOFILE j Reading) (among s l NOFILE j Writing) (get s.pipes j) e
      (ap (λ (o : Option Pipe). has_bytes (or_gone o)) (sym (get-more_on_all s l NOFILE j)) ∙ f)
  opens_forked_by (Room j) e f = room_shut (among s l NOFILE j Reading) (among s l NOFILE j Writing) (get s.pipes j) e
      (ap (λ (o : Option Pipe). has_room (or_gone o)) (sym (get-more_on_all s l NOFILE j)) ∙ f)
  opens_forked_by (Time since ticks) e f = shut _ _ refl e f
  opens_forked_by Keys e f = shut _ _ refl e f
  opens_forked_by Sending e f = shut _ _ refl e f

pub opens_forked : OpensForked
opens_forked frames s p l well was = opens_forked_by frames s p l well was

-- ---- the end of a process

module _ (frames : ℕ) (s : State) (p : ℕ) (l : Live) (status : ℤ) (files : FinMap nat_cmp OpenFile) (well : WellFormed frames s)
    (was : get s.processes p ≡ Some (Alive l)) (left : FilesLeft s (gone_state p l status files s)) where
  abbrev dead : State
  dead = gone_state p l status files s

  pids_dead : keys dead.processes ≡ keys s.processes
  pids_dead = goes.pids_after s p l was (can_go frames s well p l was) (Exited status) status refl files (family_files.spared frames s p l (Exited status) status files well was refl left)

  pipe_dead : (j : ℕ) → ((e : ℕ) → e < NOFILE → pipe_at s p e ≢ Some j) → get dead.pipes j ≡ get s.pipes j
  pipe_dead j nobody =
      goes.pipe_after s p l was (can_go frames s well p l was) (Exited status) status refl files (family_files.spared frames s p l (Exited status) status files well was refl left) j
      ∙ goes.other_pipe s p l was (can_go frames s well p l was) (Exited status) status refl files
      (family_files.spared frames s p l (Exited status) status files well was refl left) j nobody (get s.pipes j) refl

  -- a child that goes to process 1 is no one else's
  moved_child : (a : ℕ) → a ≢ 1 → a ≢ p → (o : Option Process) → child_of a (option_map (orphan p) o) ≡ child_of a o
  moved_child a one other None = refl
  moved_child a one other (Some (Alive m)) = by (is_this p m.parent) refl
    where
      by : (b : Bool) → is_this p m.parent ≡ b → child_of a (Some (cond b (given_to 1 (Alive m)) (Alive m))) ≡ child_of a (Some (Alive m))
      by false e = refl
      by true e = ap (λ (x : Bool). cond x (Some Running) None) (this_is_not a (Some 1) (λ q. one (sym (same_Some 1 a q))))
          ∙ ap (λ (x : Bool). cond x (Some Running) None) (sym (this_is_not a m.parent (λ q. other (sym (same_Some p a (sym (this_is p m.parent e) ∙ q))))))
  moved_child a one other (Some (Zombie parent status)) = by (is_this p parent) refl
    where
      by : (b : Bool) → is_this p parent ≡ b → child_of a (Some (cond b (given_to 1 (Zombie parent status)) (Zombie parent status))) ≡ child_of a (Some (Zombie parent status))
      by false e = refl
      by true e = ap (λ (x : Bool). cond x (Some (Status status)) None) (this_is_not a (Some 1) (λ q. one (sym (same_Some 1 a q))))
          ∙ ap (λ (x : Bool). cond x (Some (Status status)) None) (sym (this_is_not a parent (λ q. other (sym (same_Some p a (sym (this_is p parent e) ∙ q))))))

  child_dead : (a r : ℕ) → a ≢ 1 → a ≢ p → l.parent ≢ Some a → child_of a (get dead.processes r) ≡ child_of a (get s.processes r)
  child_dead a r one other apart = elim (eqb_tells r p) [
    | inl e ↦
        let none : is_this a l.parent ≡ false = this_is_not a l.parent apart in
        ap (λ (n : ℕ). child_of a (get dead.processes n)) e.1 ∙ ap (child_of a) (get_same (orphans p s).processes p (Zombie l.parent status))
        ∙ ap (λ (x : Bool). cond x (Some (Status status)) None) none
        ∙ sym (ap (λ (n : ℕ). child_of a (get s.processes n)) e.1 ∙ ap (child_of a) was ∙ ap (λ (x : Bool). cond x (Some Running) None) none)
    | inr e ↦ ap (child_of a) (family_files.gone_at frames s p l (Exited status) status files well was refl left r e.1) ∙ moved_child a one other (get s.processes r)
  ]

  family_dead : (a : ℕ) → a ≢ 1 → a ≢ p → l.parent ≢ Some a → is_open dead (Child_of a) ≡ is_open s (Child_of a)
  family_dead a one other apart = λ i. is_some (find (λ r. has_status (child_dead a r one other apart i)) (pids_dead i)) || not
      (list_any (λ r. is_some (child_dead a r one other apart i)) (pids_dead i))

  parents_child : (a : ℕ) → is_open s (Child_of a) ≡ false → is_open dead (Child_of a) ≡ true → MayOpenAtEnd s p l (Child_of a)
  parents_child a e f = elim (eqb_tells a 1) [
    | inl one ↦ inl (a, refl, inr (inl one.1))
    | inr not_one ↦ elim (eqb_tells a p) [
      | inl me ↦ inl (a, refl, inr (inr me.1))
      | inr other ↦ by not_one.1 other.1 l.parent refl
    ]
  ]
    where
      by : a ≢ 1 → a ≢ p → (o : Option ℕ) → l.parent ≡ o → MayOpenAtEnd s p l (Child_of a)
      by one other None here = shut _ _ (family_dead a one other (λ q. let n : None ≡ Some a = sym here ∙ q in let no : ⊥ = cc in no)) e f
      by one other (Some k) here = elim (eqb_tells k a) [
        | inl same ↦ inl (a, refl, inl (here ∙ ap Some same.1))
        | inr apart ↦ shut _ _ (family_dead a one other (λ q. apart.1 (same_Some k a (sym here ∙ q)))) e f
      ]

  -- p was on the pipe, or the pipe is as it was
  on_or_not : (j : ℕ) → ((e : ℕ) × (pipe_at s p e ≡ Some j)) ⊎ (get dead.pipes j ≡ get s.pipes j)
  on_or_not j = by (least_below (λ e. is_this j (pipe_at s p e)) NOFILE) refl
    where
      by : (o : Option ℕ) → least_below (λ e. is_this j (pipe_at s p e)) NOFILE ≡ o → ((e : ℕ) × (pipe_at s p e ≡ Some j)) ⊎ (get dead.pipes j ≡ get s.pipes j)
      by (Some e) is = inl (e, this_is j (pipe_at s p e) (least_passes NOFILE (λ e. is_this j (pipe_at s p e)) e is).0)
      by None is = inr (pipe_dead j (λ e below on. let yes : is_this j (pipe_at s p e) ≡ true = ap (is_this j) on ∙ eq-eqb j j refl in
          let nope : is_this j (pipe_at s p e) ≡ false = none_below (λ e. is_this j (pipe_at s p e)) NOFILE is e below in let no : ⊥ = cc in no))

  gone_opens : OpensOnly s dead (MayOpenAtEnd s p l)
  gone_opens Nothing e f = shut true true refl e f
  gone_opens (Child_of a) e f = parents_child a e f
  gone_opens (Bytes j) e f = elim (on_or_not j) [ inl on ↦ inr (j, on.0, inl refl, on.1) | inr same ↦ shut _ _ (ap (λ (o : Option Pipe). has_bytes (or_gone o)) same) e f ]
  gone_opens (Room j) e f = elim (on_or_not j) [ inl on ↦ inr (j, on.0, inr refl, on.1) | inr same ↦ shut _ _ (ap (λ (o : Option Pipe). has_room (or_gone o)) same) e f ]
  gone_opens (Time since ticks) e f = shut _ _ refl e f
  gone_opens Keys e f = shut _ _ refl e f
  gone_opens Sending e f = shut _ _ refl e f

pub opens_gone : OpensGone
opens_gone frames s p l status files well was left = gone_opens frames s p l status files well was left
