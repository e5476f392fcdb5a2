-- The laws of dup and close.
use Rattle.kernel_spec.proofs.Prelude.{ℕ, ◌&&◌, ◌+◌, ◌-◌, ◌<◌, ◌∙◌, ◌≡◌, ◌≢◌, ◌≤◌, ◌⊎◌, After, Alive, and_right, ap, arith, Bool, Call, Called, change_pipes, change_shown, changed, changed_state}
use Rattle.kernel_spec.proofs.Prelude.{closed_state, cond, count_below, Descriptor, Descriptors, End, ends, eq-eqb, eqb_tells, false, File, file_at, FilesLeft, FinMap, fun_ext, get, goes_on, inl, inr}
use Rattle.kernel_spec.proofs.Prelude.{insert, is_end, is_given_up, is_this, IsSome, joined, least_on_file, Live, live, live_part, named, names_given_up, nat_cmp, nat_eq, NOFILE, None, numbered}
use Rattle.kernel_spec.proofs.Prelude.{on_end, one_less_on, one_more_on, OnPipe, OpenFile, Option, option_map, or_gone, parted, Pipe, pipe_at, Pipe_end, pipe_of_target, pipes_given_up, pos, Reading}
use Rattle.kernel_spec.proofs.Prelude.{refl, remove, rename, rename_shown, same_Some, settled, show, Shown, Shown_file, Shown_pipe, Shown_terminal, Some, State, suc, sym, Target, Terminal, true}
use Rattle.kernel_spec.proofs.Prelude.{unwrap_or, view_of, WellFormed, with_a0, with_answer, with_closed, with_named, word, Writing, zero}
use Rattle.kernel_spec.proofs.steps.SeenByParts.{file_of, pipe_of_file, pipe_of_open, descriptor_at, descriptor_on}
use Rattle.kernel_spec.proofs.steps.OthersTableIsSeen.{OtherNames, OtherHas}
use Rattle.kernel_spec.proofs.steps.MapsAfterChange.{get_same, get_other, get_without}
use Rattle.kernel_spec.proofs.steps.NamesAreChosenAgain.{named_at}
use Rattle.kernel_spec.proofs.steps.StateAfterIsTold.{OldOrNew}
use Rattle.kernel_spec.proofs.steps.ChangeIsTold.{after_changed, mine_before, mine_after}
use Rattle.kernel_spec.proofs.steps.AloneLawsHold.{by_own}
use Rattle.kernel_spec.proofs.steps.ChangeIsSeen.{leaving}
use Rattle.kernel_spec.proofs.steps.PipeWriteIsItsRow.{the_descriptor}
use Rattle.kernel_spec.proofs.steps.EndMoreOrLess.{more_here, less_here, frees_here}
use Rattle.kernel_spec.proofs.steps.PipeChangeIsTold.{changed_tells, changed_spares}
use Rattle.kernel_spec.proofs.steps.WellFormedIsEnough.{pipe_there, can_go}
use Rattle.kernel_spec.proofs.steps.ClosingCountsDown.{count_some, on_an_end, name_of_pipe}
use Rattle.kernel_spec.proofs.rows.RowParts.{dup_at, close_at}
use Rattle.kernel_spec.proofs.rows.PartLaws.{DupPart, DupPipePart, ClosePart, ClosePipePart}
use Rattle.kernel_spec.proofs.Common.{count_below-none}
use Rattle.kernel_spec.proofs.steps.DupIsItsRow as dups
use Rattle.kernel_spec.proofs.steps.CloseIsItsRow as closes

-- ---- a descriptor on what is no pipe

module _ (s : State) (p : ℕ) (l : Live) (j f : ℕ) (x : OpenFile) (d : Descriptor) (below : j < NOFILE) (source : get l.descriptors j ≡ Some f) (opened : get s.files f ≡ Some x)
    (seen : (view_of s p l).descriptors j ≡ Some d) where
  shown_is : d.shown ≡ rename_shown (numbered s l) (show s x.target)
  unfolding view_of
  shown_is = ap (λ (y : Descriptor). y.shown) (same_Some d
      (rename (numbered s l) (record { file = f; read = x.read; write = x.write; shown = show s x.target })) (sym seen ∙ named_at (numbered s l) j below
      ∙ ap (λ (o : Option ℕ). option_map (rename (numbered s l)) (descriptor_at s o)) source ∙ ap (λ (o : Option OpenFile). option_map (rename (numbered s l)) (descriptor_on s f o)) opened))

  more_none : (y : Target) → pipe_of_target y ≡ None → (t : Descriptors) → one_more_on (rename_shown (numbered s l) (show s y)) t ≡ t
  more_none Terminal h t = refl
  more_none (File program offset) h t = refl
  more_none (Pipe_end i e) h t = let no : ⊥ = cc in absurd no

  less_none : (y : Target) → pipe_of_target y ≡ None → (t : Descriptors) → one_less_on (rename_shown (numbered s l) (show s y)) t ≡ t
  less_none Terminal h t = refl
  less_none (File program offset) h t = refl
  less_none (Pipe_end i e) h t = let no : ⊥ = cc in absurd no

-- ---- dup

module _ (s : State) (p : ℕ) (l : Live) (c : Call) (j k f : ℕ) (d : Descriptor) (pipes : FinMap nat_cmp Pipe) (was : get s.processes p ≡ Some (Alive l)) (below : j < NOFILE)
    (source : get l.descriptors j ≡ Some f) (unused : get l.descriptors k ≡ None) (seen : (view_of s p l).descriptors j ≡ Some d) where
  abbrev copied : State
  copied = changed_state p (with_answer (pos k) (with_named k f l)) s.files pipes s.console s.free s

  dup_keep : (e g h : ℕ) → get l.descriptors e ≡ Some g → get (insert l.descriptors k f) e ≡ Some h → g ≡ h
  dup_keep e g h a b = elim (eqb_tells e k) [
    | inl same ↦ let n : None ≡ Some g = sym unused ∙ ap (get l.descriptors) (sym same.1) ∙ a in let no : ⊥ = cc in absurd no
    | inr other ↦ same_Some g h (sym a ∙ sym (get_other l.descriptors k f e other.1) ∙ b)
  ]

  mine : (e : ℕ) → file_at s p e ≡ get l.descriptors e
  mine e = mine_before s p l was l.regs l.image l.call l.killed l.descriptors s.files s.pipes s.console s.free e

  dup_from : (e g : ℕ) → get (insert l.descriptors k f) e ≡ Some g → OldOrNew s p copied g
  dup_from e g h = elim (eqb_tells e k) [
    | inl same ↦ inl (j, mine j ∙ source ∙ sym (get_same l.descriptors k f) ∙ ap (get (insert l.descriptors k f)) (sym same.1) ∙ h)
    | inr other ↦ inl (e, mine e ∙ sym (get_other l.descriptors k f e other.1) ∙ h)
  ]

  module _ (more : one_more_on d.shown (named (numbered s l)) ≡ named (numbered copied l)) (spared : (i : ℕ) → ((e : ℕ) → e < NOFILE → pipe_at s p e ≢ Some i) → get pipes i ≡ get s.pipes i) where
    pub dup_after : After s p l (dup_at c (view_of s p l) j d (Some k)) copied
    unfolding view_of
    dup_after =
        by_own s copied (view_of s p l) (dup_at c (view_of s p l) j d (Some k)) (goes_on (Called c.number (pos k)) (view_of copied p (with_answer (pos k) (with_named k f l))))
        (dups.dup_own s p l was c j k f below source unused d seen pipes more)
        (after_changed s p l was (with_a0 l.regs (word (pos k))) l.image None l.killed (insert l.descriptors k f) s.files pipes s.console s.free (Called c.number (pos k)) refl
        (named (numbered copied (with_answer (pos k) (with_named k f l))))
        (dups.dup_tells s p l was c j k f below source unused d seen pipes spared)
        (dups.dup_spares s p l was c j k f below source unused d seen pipes spared)
        dup_keep (λ q e g i a b. b) dup_from)

pub dup_law : DupPart
dup_law s p l c j k f x d was below source unused opened no_pipe seen =
    dup_after s p l c j k f d s.pipes was below source unused seen
    (ap (λ (y : Shown). one_more_on y (named (numbered s l))) (shown_is s p l j f x d below source opened seen)
    ∙ more_none s p l j f x d below source opened seen x.target no_pipe (named (numbered s l)))
    (λ i h. refl)

pub dup_pipe_law : DupPipePart
dup_pipe_law s p l c j k i n end x d on unused seen =
    dup_after s p l c j k on.file d (insert s.pipes i (joined x end 1)) on.was on.below on.named_file unused seen
    (ap (λ (y : Descriptor). one_more_on y.shown (named (numbered s l)))
    (same_Some d (record {
      file = unwrap_or (least_on_file (numbered s l) on.file) on.file;
      read = on.read;
      write = on.write;
      shown = Shown_pipe n end x;
    }) (sym seen ∙ the_descriptor s p l j i n end x on)) ∙ more_here s l i n end x on.names)
    (λ m h. get_other s.pipes i (joined x end 1) m (λ e. h j on.below (on_pipe ∙ sym (ap Some e))))
  where
    on_pipe : pipe_at s p j ≡ Some i
    on_pipe = ap (λ (o : Option Live). pipe_of_file s (file_of o j)) (ap live_part on.was) ∙ ap (pipe_of_file s) on.named_file ∙ ap pipe_of_open on.opened

-- ---- close

module _ (frames : ℕ) (s : State) (p : ℕ) (l : Live) (c : Call) (k : ℕ) (d : Descriptor) (f : ℕ → Pipe → Pipe) (files : FinMap nat_cmp OpenFile) (pipes : FinMap nat_cmp Pipe) (freed : ℕ)
    (well : WellFormed frames s) (was : get s.processes p ≡ Some (Alive l)) (left : FilesLeft s (closed_state p l k files pipes freed s)) where
  abbrev shut : State
  shut = closed_state p l k files pipes freed s

  abbrev closer : Live
  closer = with_answer (pos 0) (with_closed k l)

  mine_now : (e : ℕ) → file_at shut p e ≡ get (remove l.descriptors k) e
  mine_now e = mine_after s p l was (with_a0 l.regs (word (pos 0))) l.image None l.killed (remove l.descriptors k) files pipes s.console (s.free + freed) e

  mine_then : (e : ℕ) → file_at s p e ≡ get l.descriptors e
  mine_then e = mine_before s p l was l.regs l.image l.call l.killed l.descriptors s.files s.pipes s.console s.free e

  removed : (e : ℕ) → e ≢ k → get (remove l.descriptors k) e ≡ get l.descriptors e
  removed e other = get_without l.descriptors k e ∙ elim (eqb_tells e k) [ inl same ↦ absurd (other same.1) | inr apart ↦ ap (λ (b : Bool). cond b None (get l.descriptors e)) apart.0 ]

  removed_here : get (remove l.descriptors k) k ≡ None
  removed_here = get_without l.descriptors k k ∙ ap (λ (b : Bool). cond b None (get l.descriptors k)) (eq-eqb k k refl)

  others_then : (q e g : ℕ) → q ≢ p → file_at s q e ≡ Some g → file_at shut q e ≡ Some g
  others_then q e g other h = ap (λ (o : Option Live). file_of o e) (closes_live q other) ∙ h
    where
      closes_live : (q : ℕ) → q ≢ p → live shut q ≡ live s q
      closes_live q other = ap live_part (get_other s.processes p (Alive closer) q other)

  other_files : (g : ℕ) → OtherNames s p g → get files g ≡ get s.files g
  other_files g h = left.stay h.0 h.1 g (others_then h.0 h.1 g h.2 h.3)

  own_files : (e g : ℕ) → e ≢ k → get l.descriptors e ≡ Some g → get files g ≡ get s.files g
  own_files e g other h = left.stay p e g (mine_now e ∙ removed e other ∙ h)

  is_there : (o : Option OpenFile) (j : ℕ) → pipe_of_open o ≡ Some j → IsSome o
  is_there None j h = let no : ⊥ = cc in absurd no
  is_there (Some x) j h = refl

  close_targets : (q e g j : ℕ) → file_at s q e ≡ Some g → pipe_of_open (get files g) ≡ Some j → pipe_of_open (get s.files g) ≡ Some j
  close_targets q e g j a b = let n = left.named g (is_there (get files g) j b) in ap pipe_of_open (sym (left.stay n.0 n.1 g n.2)) ∙ b

  close_keep : (e g h : ℕ) → get l.descriptors e ≡ Some g → get (remove l.descriptors k) e ≡ Some h → g ≡ h
  close_keep e g h a b = elim (eqb_tells e k) [
    | inl same ↦ let n : None ≡ Some h = sym removed_here ∙ ap (get (remove l.descriptors k)) (sym same.1) ∙ b in let no : ⊥ = cc in absurd no
    | inr other ↦ same_Some g h (sym a ∙ sym (removed e other.1) ∙ b)
  ]

  close_from : (e g : ℕ) → get (remove l.descriptors k) e ≡ Some g → OldOrNew s p shut g
  close_from e g h = elim (eqb_tells e k) [
    | inl same ↦ let n : None ≡ Some g = sym removed_here ∙ ap (get (remove l.descriptors k)) (sym same.1) ∙ h in let no : ⊥ = cc in absurd no
    | inr other ↦ inl (e, mine_then e ∙ sym (removed e other.1) ∙ h)
  ]

  module _ (less : one_less_on d.shown (named (numbered s l)) ≡ named (change_pipes f (numbered s l))) (frees : pipes_given_up (named (change_pipes f (numbered s l))) ≡ freed)
      (own_pipes : (e j : ℕ) → e ≢ k → pipe_of_file s (get l.descriptors e) ≡ Some j → or_gone (get pipes j) ≡ f j (or_gone (get s.pipes j)))
      (shared_pipes : (e j : ℕ) → OtherHas s p j → e < NOFILE → pipe_at s p e ≡ Some j → or_gone (get pipes j) ≡ f j (or_gone (get s.pipes j)))
      (other_pipes : (j : ℕ) → OtherHas s p j → ((e : ℕ) → e < NOFILE → pipe_at s p e ≢ Some j) → get pipes j ≡ get s.pipes j) where
    pub close_after : After s p l (close_at c (view_of s p l) k d) shut
    unfolding view_of
    close_after =
        by_own s shut (view_of s p l) (close_at c (view_of s p l) k d) (leaving (Called c.number (pos 0)) (view_of shut p closer) (named (change_pipes f (numbered s l))))
        (closes.close_own s p l was c k d f files pipes freed less frees own_files own_pipes)
        (after_changed s p l was (with_a0 l.regs (word (pos 0))) l.image None l.killed (remove l.descriptors k) files pipes s.console (s.free + freed) (Called c.number (pos 0)) refl
        (named (change_pipes f (numbered s l)))
        (changed_tells s shut p l (ap live_part was) f other_files shared_pipes)
        (changed_spares s shut p l (ap live_part was) f other_files shared_pipes other_pipes)
        close_keep close_targets close_from)

-- ---- no pipe is given up as long as a descriptor is on it

module _ (frames : ℕ) (s : State) (well : WellFormed frames s) where
  pub held_pipe : (o : Option ℕ) (j : ℕ) → pipe_of_file s o ≡ Some j → is_given_up (or_gone (get s.pipes j)) ≡ false
  held_pipe o j h = let x = pipe_there frames s well o j h in ap (λ (y : Option Pipe). is_given_up (or_gone y)) x.1 ∙ well.held j x.0 x.1

  none_given : (l : Live) (n : ℕ) (o : Option ℕ) → names_given_up n (option_map (rename (numbered s l)) (descriptor_at s o)) ≡ false
  none_given l n None = refl
  none_given l n (Some g) = on_open (get s.files g) (λ j h. held_pipe (Some g) j h)
    where
      on_target : (r w : Bool) (y : Target) → ((j : ℕ) → pipe_of_target y ≡ Some j → is_given_up (or_gone (get s.pipes j)) ≡ false)
          → names_given_up n (option_map (rename (numbered s l)) (descriptor_on s g (Some (record { read = r; write = w; target = y })))) ≡ false
      on_target r w Terminal h = refl
      on_target r w (File program offset) h = refl
      on_target r w (Pipe_end j e) h = and_right _ (is_given_up (or_gone (get s.pipes j))) (h j refl)

      on_open : (o : Option OpenFile) → ((j : ℕ) → pipe_of_open o ≡ Some j → is_given_up (or_gone (get s.pipes j)) ≡ false)
          → names_given_up n (option_map (rename (numbered s l)) (descriptor_on s g o)) ≡ false
      on_open None h = refl
      on_open (Some y) h = on_target y.read y.write y.target h

  pub frees_none : (l : Live) → pipes_given_up (named (numbered s l)) ≡ 0
  frees_none l = count_below-none NOFILE (λ e. names_given_up e (named (numbered s l) e)) (λ e below. ap (names_given_up e) (named_at (numbered s l) e below) ∙ none_given l e (get l.descriptors e))

same_table : (t : Descriptors) → t ≡ change_pipes (λ n y. y) t
same_table t = fun_ext (λ e. by (t e))
  where
    same_shown : (x : Shown) → x ≡ change_shown (λ n y. y) x
    same_shown Shown_terminal = refl
    same_shown (Shown_file program offset) = refl
    same_shown (Shown_pipe name end y) = refl

    by : (o : Option Descriptor) → o ≡ changed (λ n y. y) o
    by None = refl
    by (Some x) = λ i. Some (record x { shown = same_shown x.shown i })

pub close_law : ClosePart
close_law frames s p l c k f x d files well was below source opened no_pipe seen left =
    close_after frames s p l c k d (λ n y. y) files s.pipes 0 well was left
    (ap (λ (y : Shown). one_less_on y (named (numbered s l))) (shown_is s p l k f x d below source opened seen)
    ∙ less_none s p l k f x d below source opened seen x.target no_pipe (named (numbered s l)) ∙ ap named (same_table (numbered s l)))
    (ap (λ (t : Descriptors). pipes_given_up (named t)) (sym (same_table (numbered s l))) ∙ frees_none frames s well l)
    (λ e j other h. refl) (λ e j other b h. refl) (λ j other h. refl)

-- ---- close of an end of a pipe

-- two of the first n pass
count_two : (n : ℕ) (P : ℕ → Bool) (a b : ℕ) → a < n → b < n → a ≢ b → P a ≡ true → P b ≡ true → (k : ℕ) × (count_below P n ≡ k + 2)
unfolding count_below
count_two zero P a b low lower apart at_a at_b = absurd (omega arith)
count_two (suc n) P a b low lower apart at_a at_b = elim (eqb_tells a n) [
  | inl e ↦
      let same : a ≡ n = e.1 in let r = count_some n P b (omega arith) at_b in let k : ℕ = r.0 in let m : ℕ = count_below P n in let g : m ≡ k + 1 = r.1 in
      (k, (λ i. m + cond ((ap P (sym same) ∙ at_a) i) 1 0) ∙ (let goal : m + 1 ≡ k + 2 = omega arith in goal))
  | inr e ↦ elim (eqb_tells b n) [
    | inl h ↦
        let same : b ≡ n = h.1 in let not_n : a ≢ n = e.1 in let r = count_some n P a (omega arith) at_a in let k : ℕ = r.0 in let m : ℕ = count_below P n in let g : m ≡ k + 1 = r.1 in
        (k, (λ i. m + cond ((ap P (sym same) ∙ at_b) i) 1 0) ∙ (let goal : m + 1 ≡ k + 2 = omega arith in goal))
    | inr h ↦
        let not_a : a ≢ n = e.1 in let not_b : b ≢ n = h.1 in
        let r = count_two n P a b (omega arith) (omega arith) apart at_a at_b in let k : ℕ = r.0 in let m : ℕ = count_below P n in let o : ℕ = cond (P n) 1 0 in let g : m ≡ k + 2 = r.1 in
        (k + o, (let goal : m + o ≡ k + o + 2 = omega arith in goal))
  ]
]

above_0 : (a : ℕ) → nat_eq a 0 ≡ false → 0 < a
above_0 zero h = let no : ⊥ = cc in absurd no
above_0 (suc a) h = omega arith

not_0 : (a : ℕ) → 0 < a → nat_eq a 0 ≡ false
not_0 a h = elim (eqb_tells a 0) [ inl e ↦ let z : a ≡ 0 = e.1 in absurd (omega arith) | inr e ↦ e.0 ]

one_of : (a b : ℕ) → (nat_eq a 0 && nat_eq b 0) ≡ false → (0 < a) ⊎ (0 < b)
one_of a b h = by (nat_eq a 0) (nat_eq b 0) refl refl h
  where
    by : (x y : Bool) → nat_eq a 0 ≡ x → nat_eq b 0 ≡ y → (x && y) ≡ false → (0 < a) ⊎ (0 < b)
    by false y e f g = inl (above_0 a e)
    by true false e f g = inr (above_0 b f)
    by true true e f g = let no : ⊥ = cc in absurd no

pub not_given : (a b : ℕ) → (0 < a) ⊎ (0 < b) → (nat_eq a 0 && nat_eq b 0) ≡ false
not_given a b (inl h) = ap (λ (x : Bool). x && nat_eq b 0) (not_0 a h)
not_given a b (inr h) = ap (λ (y : Bool). nat_eq a 0 && y) (not_0 b h) ∙ and_right (nat_eq a 0) false refl

-- so many descriptors of p are on the ends, one of them on this end; a pipe with more on it, or with two of p's own, isn't given up by one fewer
still : (x : Pipe) (end : End) (reads writes : ℕ) → reads ≤ x.readers → writes ≤ x.writers → (end ≡ Reading → 0 < reads) → (end ≡ Writing → 0 < writes)
    → (0 < x.readers - reads) ⊎ (0 < x.writers - writes) → is_given_up (parted x end 1) ≡ false
still x Reading reads writes a b c d h =
    let R : ℕ = x.readers in let W : ℕ = x.writers in let some : 0 < reads = c refl in
    not_given (R - 1) W (elim h [
      | inl r ↦ let more : 0 < R - reads = r in
          inl (let goal : 0 < R - 1 = omega arith in goal)
      | inr w ↦ let more : 0 < W - writes = w in inr (let goal : 0 < W = omega arith in goal)
    ])
still x Writing reads writes a b c d h =
    let R : ℕ = x.readers in let W : ℕ = x.writers in let some : 0 < writes = d refl in
    not_given R (W - 1) (elim h [
      | inl r ↦ let more : 0 < R - reads = r in
          inl (let goal : 0 < R = omega arith in goal)
      | inr w ↦ let more : 0 < W - writes = w in inr (let goal : 0 < W - 1 = omega arith in goal)
    ])

is_end_same : (e : End) → is_end e e ≡ true
is_end_same Reading = refl
is_end_same Writing = refl

module _ (frames : ℕ) (s : State) (p : ℕ) (l : Live) (k i n : ℕ) (end : End) (x : Pipe) (on : OnPipe s p l k i n end x) (well : WellFormed frames s) where
  abbrev fewer_pipe : Pipe
  fewer_pipe = parted x end 1

  abbrev passes : End → ℕ → Bool
  passes e d = on_end i e (numbered s l d)

  k_is : numbered s l k ≡ Some (record { file = on.file; read = on.read; write = on.write; shown = Shown_pipe i end (or_gone (get s.pipes i)) })
  k_is = ap (descriptor_at s) on.named_file ∙ ap (descriptor_on s on.file) on.opened

  k_passes : passes end k ≡ true
  k_passes = ap (on_end i end) k_is ∙ (λ j. eq-eqb i i refl j && is_end end end) ∙ is_end_same end

  counts : (ends (numbered s l) i Reading ≤ x.readers) × (ends (numbered s l) i Writing ≤ x.writers)
  counts = let c = (can_go frames s well p l on.was).counts i x on.pipe in (c.0, c.1)

  some_on : (e : End) → end ≡ e → 0 < ends (numbered s l) i e
  some_on e same =
      let r = count_some NOFILE (passes e) k on.below (ap (λ (z : End). passes z k) (sym same) ∙ k_passes) in
      let m : ℕ = ends (numbered s l) i e in let j : ℕ = r.0 in let g : m ≡ j + 1 = r.1 in omega arith

  -- another process is on the pipe
  pub held_by_others : OtherHas s p i → is_given_up fewer_pipe ≡ false
  held_by_others other = still x end (ends (numbered s l) i Reading) (ends (numbered s l) i Writing) counts.0 counts.1 (some_on Reading) (some_on Writing)
      (one_of (x.readers - ends (numbered s l) i Reading) (x.writers - ends (numbered s l) i Writing) ((can_go frames s well p l on.was).held i x other on.pipe))

  -- another descriptor of p is
  mine_is : (e : ℕ) → file_at s p e ≡ get l.descriptors e
  mine_is e = ap (λ (o : Option Live). file_of o e) (ap live_part on.was)

  below_of : (e : ℕ) (o : Option ℕ) → get l.descriptors e ≡ o → pipe_of_file s o ≡ Some i → e < NOFILE
  below_of e None is h = let no : ⊥ = cc in absurd no
  below_of e (Some f) is h = (well.descriptors p e f (mine_is e ∙ is)).0

  two_on : (e : ℕ) (z : End) → e ≢ k → e < NOFILE → passes z e ≡ true → end ≡ z → 1 < ends (numbered s l) i z
  two_on e z other low at_e same =
      let r = count_two NOFILE (passes z) e k low on.below other at_e (ap (λ (w : End). passes w k) (sym same) ∙ k_passes) in
      let m : ℕ = ends (numbered s l) i z in let j : ℕ = r.0 in let g : m ≡ j + 2 = r.1 in omega arith

  one_on : (e : ℕ) (z : End) → e < NOFILE → passes z e ≡ true → 0 < ends (numbered s l) i z
  one_on e z low at_e =
      let r = count_some NOFILE (passes z) e low at_e in
      let m : ℕ = ends (numbered s l) i z in let j : ℕ = r.0 in let g : m ≡ j + 1 = r.1 in omega arith

  by_ends : (z : End) → end ≡ z → (e : ℕ) → e ≢ k → e < NOFILE → (passes Reading e ≡ true) ⊎ (passes Writing e ≡ true) → is_given_up (parted x z 1) ≡ false
  by_ends Reading same e other low (inl r) =
      let R : ℕ = x.readers in let a : ℕ = ends (numbered s l) i Reading in let c : a ≤ R = counts.0 in let t : 1 < a = two_on e Reading other low r same in
      not_given (R - 1) x.writers (inl (let goal : 0 < R - 1 = omega arith in goal))
  by_ends Reading same e other low (inr w) =
      let W : ℕ = x.writers in let b : ℕ = ends (numbered s l) i Writing in let c : b ≤ W = counts.1 in let t : 0 < b = one_on e Writing low w in
      not_given (x.readers - 1) W (inr (let goal : 0 < W = omega arith in goal))
  by_ends Writing same e other low (inl r) =
      let R : ℕ = x.readers in let a : ℕ = ends (numbered s l) i Reading in let c : a ≤ R = counts.0 in let t : 0 < a = one_on e Reading low r in
      not_given R (x.writers - 1) (inl (let goal : 0 < R = omega arith in goal))
  by_ends Writing same e other low (inr w) =
      let W : ℕ = x.writers in let b : ℕ = ends (numbered s l) i Writing in let c : b ≤ W = counts.1 in let t : 1 < b = two_on e Writing other low w same in
      not_given x.readers (W - 1) (inr (let goal : 0 < W - 1 = omega arith in goal))

  pub held_by_own : (e : ℕ) → e ≢ k → pipe_of_file s (get l.descriptors e) ≡ Some i → is_given_up fewer_pipe ≡ false
  held_by_own e other h = by_ends end refl e other (below_of e (get l.descriptors e) refl h)
      (on_an_end i (numbered s l e) (ap (is_this i) (name_of_pipe s l (get l.descriptors e) ∙ h) ∙ eq-eqb i i refl))

  -- ---- the pipes after it

  abbrev settled_pipes : FinMap nat_cmp Pipe
  settled_pipes = settled i fewer_pipe s.pipes

  abbrev now : ℕ → Pipe → Pipe
  now j y = cond (nat_eq j i) fewer_pipe y

  apart_pipe : (j : ℕ) → j ≢ i → get settled_pipes j ≡ get s.pipes j
  apart_pipe j other = by (is_given_up fewer_pipe)
    where
      by : (b : Bool) → get (cond b (remove s.pipes i) (insert s.pipes i fewer_pipe)) j ≡ get s.pipes j
      by true = get_without s.pipes i j ∙ elim (eqb_tells j i) [ inl e ↦ absurd (other e.1) | inr e ↦ ap (λ (b : Bool). cond b None (get s.pipes j)) e.0 ]
      by false = get_other s.pipes i fewer_pipe j other

  here_pipe : is_given_up fewer_pipe ≡ false → get settled_pipes i ≡ Some fewer_pipe
  here_pipe held = ap (λ (b : Bool). get (cond b (remove s.pipes i) (insert s.pipes i fewer_pipe)) i) held ∙ get_same s.pipes i fewer_pipe

  became : (j : ℕ) → (j ≡ i → is_given_up fewer_pipe ≡ false) → or_gone (get settled_pipes j) ≡ now j (or_gone (get s.pipes j))
  became j held = elim (eqb_tells j i) [
    | inl e ↦ ap (λ (m : ℕ). or_gone (get settled_pipes m)) e.1 ∙ ap or_gone (here_pipe (held e.1)) ∙ ap (λ (b : Bool). cond b fewer_pipe (or_gone (get s.pipes j))) (sym e.0)
    | inr e ↦ ap or_gone (apart_pipe j e.1) ∙ ap (λ (b : Bool). cond b fewer_pipe (or_gone (get s.pipes j))) (sym e.0)
  ]

  k_on_pipe : pipe_at s p k ≡ Some i
  k_on_pipe = ap (pipe_of_file s) (mine_is k ∙ on.named_file) ∙ ap pipe_of_open on.opened

  module _ (c : Call) (d : Descriptor) (files : FinMap nat_cmp OpenFile) (seen : (view_of s p l).descriptors k ≡ Some d)
      (left : FilesLeft s (closed_state p l k files settled_pipes (cond (is_given_up fewer_pipe) 1 0) s)) where
    close_pipe_after : After s p l (close_at c (view_of s p l) k d) (closed_state p l k files settled_pipes (cond (is_given_up fewer_pipe) 1 0) s)
    close_pipe_after =
        close_after frames s p l c k d now files settled_pipes (cond (is_given_up fewer_pipe) 1 0) well on.was left
        (ap (λ (y : Descriptor). one_less_on y.shown (named (numbered s l)))
        (same_Some d (record {
          file = unwrap_or (least_on_file (numbered s l) on.file) on.file;
          read = on.read;
          write = on.write;
          shown = Shown_pipe n end x;
        }) (sym seen ∙ the_descriptor s p l k i n end x on)) ∙ less_here s l i n end x on.names)
        (frees_here s l i n fewer_pipe on.names (λ e j h. held_pipe frames s well (get l.descriptors e) j h))
        (λ e j other h. became j (λ same. held_by_own e other (h ∙ ap Some same)))
        (λ e j other below h. became j (λ same. held_by_others (other.0, other.1, other.2, other.3 ∙ ap Some same)))
        (λ j other h. apart_pipe j (λ same. h k on.below (k_on_pipe ∙ sym (ap Some same))))

pub close_pipe_law : ClosePipePart
close_pipe_law frames s p l c k i n end x d files on well seen left = close_pipe_after frames s p l k i n end x on well c d files seen left
