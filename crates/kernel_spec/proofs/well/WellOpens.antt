-- Open, dup and close keep a state well-formed.
use Rattle.kernel_spec.proofs.Prelude.{ℕ, ◌&&◌, ◌+◌, ◌<◌, ◌∙◌, ◌≡◌, ◌≢◌, ◌≤◌, ◌⊎◌, Alive, ap, arith, Bool, changed_state, cond, count_below, End, end_of, eq-eqb, eqb_tells, false, File, file_at}
use Rattle.kernel_spec.proofs.Prelude.{filed_state, FinMap, get, HasTable, inl, inr, insert, is_end, is_given_up, is_some, IsSome, joined, len, len-insert, length, List, Live, live_part, nat_cmp}
use Rattle.kernel_spec.proofs.Prelude.{nat_cmp_total, nat_eq, NobodyNames, NOFILE, None, on, OnPipe, OpenFile, Option, over_all, own_state, Pipe, PIPE_BYTES, Pipe_end, pipe_of_target, piped_state}
use Rattle.kernel_spec.proofs.Prelude.{Reading, refl, same_Some, Some, State, subst, sym, Target, target_of_open, Terminal, WellDup, WellDupPipe, WellFormed, WellOpened, Writing}
use Rattle.kernel_spec.proofs.steps.SeenByParts.{file_of}
use Rattle.kernel_spec.proofs.steps.MapsAfterChange.{get_same, get_other}
use Rattle.kernel_spec.proofs.steps.EndsAreCounted.{hits, one}
use Rattle.kernel_spec.proofs.well.WellTable.{hits_of, count_put, count_files, total, table_well}
use Rattle.kernel_spec.proofs.steps.DupCloseLawsHold as descriptors

pub no_hit : (j : ℕ) (end : End) (x : Target) → pipe_of_target x ≡ None → hits j end (Some x) ≡ false
no_hit j end Terminal h = refl
no_hit j end (File program offset) h = refl
no_hit j end (Pipe_end i e) h = let no : ⊥ = cc in absurd no

-- ---- one process changes, all others stay

module _ (s : State) (p : ℕ) (l m : Live) (was : get s.processes p ≡ Some (Alive l)) (files : FinMap nat_cmp OpenFile) (pipes : FinMap nat_cmp Pipe) (free : ℕ) where
  abbrev t : State
  t = changed_state p m files pipes s.console free s

  pub now : get t.processes p ≡ Some (Alive m)
  now = get_same s.processes p (Alive m)

  pub others : (q : ℕ) → q ≢ p → get t.processes q ≡ get s.processes q
  others q apart = get_other s.processes p (Alive m) q apart

  pub mine_then : (d : ℕ) → file_at s p d ≡ get l.descriptors d
  mine_then d = ap (λ (o : Option Live). file_of o d) (ap live_part was)

  pub mine_now : (d : ℕ) → file_at t p d ≡ get m.descriptors d
  mine_now d = ap (λ (o : Option Live). file_of o d) (ap live_part now)

  -- who named an open file names it still, where p's descriptors on it stay
  pub still_named : (q d g : ℕ) → file_at s q d ≡ Some g → (get l.descriptors d ≡ Some g → get m.descriptors d ≡ Some g) → file_at t q d ≡ Some g
  still_named q d g h keep = elim (eqb_tells q p) [
    | inl me ↦ ap (λ (n : ℕ). file_at t n d) me.1 ∙ mine_now d ∙ keep (sym (mine_then d) ∙ ap (λ (n : ℕ). file_at s n d) (sym me.1) ∙ h)
    | inr other ↦ ap (λ (o : Option Live). file_of o d) (ap live_part (others q other.1)) ∙ h
  ]

pub used_apart : (ds : FinMap nat_cmp ℕ) (d k g : ℕ) → get ds k ≡ None → get ds d ≡ Some g → d ≢ k
used_apart ds d k g free used e = let n : None ≡ Some g = sym free ∙ ap (get ds) (sym e) ∙ used in let no : ⊥ = cc in no

-- ---- open

module _ (frames : ℕ) (s : State) (p : ℕ) (l m : Live) (k f : ℕ) (x : OpenFile) (h : WellFormed frames s) (was : get s.processes p ≡ Some (Alive l))
    (below : k < NOFILE) (unused : get l.descriptors k ≡ None)
    (nobody : NobodyNames s f) (no_pipe : pipe_of_target x.target ≡ None) (table : HasTable l m (insert l.descriptors k f)) where
  abbrev opened : FinMap nat_cmp OpenFile
  opened = insert s.files f x

  abbrev u : State
  u = filed_state p m f x s

  old_file : (q d g : ℕ) → file_at s q d ≡ Some g → get opened g ≡ get s.files g
  old_file q d g a = get_other s.files f x g (λ e. nobody q d (a ∙ ap Some e))

  at_m : (d : ℕ) → get m.descriptors d ≡ get (insert l.descriptors k f) d
  at_m d = ap (λ (ds : FinMap nat_cmp ℕ). get ds d) table.2

  same_count : (j : ℕ) (end : End) → count_below (hits_of u m.descriptors j end) NOFILE ≡ count_below (hits_of s l.descriptors j end) NOFILE
  same_count j end =
      ap (λ (ds : FinMap nat_cmp ℕ). count_below (hits_of u ds j end) NOFILE) table.2
      ∙ count_put u l.descriptors k f j end below unused
      ∙ (λ z. count_below (hits_of u l.descriptors j end) NOFILE + one ((ap (λ (o : Option OpenFile). hits j end (target_of_open o)) (get_same s.files f x) ∙ no_hit j end x.target no_pipe) z))
      ∙ (let a : ℕ = count_below (hits_of u l.descriptors j end) NOFILE in let e : a + 0 ≡ a = omega arith in e)
      ∙ count_files s u l.descriptors j end (λ d g a. old_file p d g (mine_then s p l m was opened s.pipes s.free d ∙ a))

  same_total : (j : ℕ) (end : End) → over_all s (on s j end) ≡ over_all u (on u j end)
  same_total j end =
      let a : ℕ = over_all u (on u j end) in let b : ℕ = over_all s (on s j end) in
      let x0 : ℕ = count_below (hits_of u m.descriptors j end) NOFILE in let y0 : ℕ = count_below (hits_of s l.descriptors j end) NOFILE in
      let c : x0 ≡ y0 = same_count j end in
      let e : a + 0 ≡ b + 0 = total frames s u h p l m was (now s p l m was opened s.pipes s.free)
      (others s p l m was opened s.pipes s.free) table.0 refl (λ q d g apart a. old_file q d g a) j end 0 0 (let g : x0 + 0 ≡ y0 + 0 = omega arith in g) in
      let goal : b ≡ a = omega arith in goal

  its_end : (g i : ℕ) (y : OpenFile) (end : End) → get opened g ≡ Some y → y.target ≡ Pipe_end i end → IsSome (get s.pipes i)
  its_end g i y end a b = elim (eqb_tells g f) [
    | inl e ↦
        let same : x ≡ y = same_Some x y (sym (get_same s.files f x) ∙ ap (get opened) (sym e.1) ∙ a) in
        let on_pipe : pipe_of_target x.target ≡ Some i = ap (λ (z : OpenFile). pipe_of_target z.target) same ∙ ap pipe_of_target b in
        let n : None ≡ Some i = sym no_pipe ∙ on_pipe in let no : ⊥ = cc in absurd no
    | inr e ↦ h.ends g i y end (sym (get_other s.files f x g e.1) ∙ a) b
  ]

  mine_in : (d g : ℕ) → get m.descriptors d ≡ Some g → (d < NOFILE) × IsSome (get opened g)
  mine_in d g a = elim (eqb_tells d k) [
    | inl e ↦
        let same : Some f ≡ Some g = sym (get_same l.descriptors k f) ∙ ap (get (insert l.descriptors k f)) (sym e.1) ∙ sym (at_m d) ∙ a in
        let is : f ≡ g = cc in
        (subst (λ (n : ℕ). n < NOFILE) (sym e.1) below, ap is_some (ap (get opened) (sym is) ∙ get_same s.files f x))
    | inr e ↦
        let old : file_at s p d ≡ Some g = mine_then s p l m was opened s.pipes s.free d ∙ sym (get_other l.descriptors k f d e.1) ∙ sym (at_m d) ∙ a in
        let d_ok = h.descriptors p d g old in (d_ok.0, ap is_some (old_file p d g old) ∙ d_ok.1)
  ]

  named_by : (g : ℕ) → IsSome (get opened g) → (q : ℕ) × (d : ℕ) × (file_at u q d ≡ Some g)
  named_by g there = elim (eqb_tells g f) [
    | inl e ↦ (p, k, mine_now s p l m was opened s.pipes s.free k ∙ at_m k ∙ get_same l.descriptors k f ∙ ap Some (sym e.1))
    | inr e ↦
        let n = h.named g (ap is_some (sym (get_other s.files f x g e.1)) ∙ there) in
        (n.0, n.1, still_named s p l m was opened s.pipes s.free n.0 n.1 g n.2 (λ a. at_m n.1 ∙ get_other l.descriptors k f n.1 (used_apart l.descriptors n.1 k g unused a) ∙ a))
  ]

  pub opened_well : WellFormed frames u
  opened_well = table_well frames s u h p l m was (now s p l m was opened s.pipes s.free) (others s p l m was opened s.pipes s.free) table.0 refl (λ q d g apart a. old_file q d g a)
      mine_in its_end named_by
      (λ i z a. h.readers i z a ∙ same_total i Reading) (λ i z a. h.writers i z a ∙ same_total i Writing) h.held h.pipe_bytes
      (λ z. s.free + (table.1 z + 1) + len s.pipes) h.keys h.to_send

pub well_opened : WellOpened
well_opened frames s p l m k f x h was below unused nobody no_pipe table = opened_well frames s p l m k f x h was below unused nobody no_pipe table

-- ---- dup

module _ (frames : ℕ) (s : State) (p : ℕ) (l m : Live) (j k f : ℕ) (h : WellFormed frames s) (was : get s.processes p ≡ Some (Alive l)) (below : k < NOFILE) (unused : get l.descriptors k ≡ None)
    (source : get l.descriptors j ≡ Some f) (table : HasTable l m (insert l.descriptors k f)) (pipes : FinMap nat_cmp Pipe) where
  abbrev copied : State
  copied = changed_state p m s.files pipes s.console s.free s

  at_copy : (d : ℕ) → get m.descriptors d ≡ get (insert l.descriptors k f) d
  at_copy d = ap (λ (ds : FinMap nat_cmp ℕ). get ds d) table.2

  -- one descriptor more on the end that descriptor j is on
  one_more : (i : ℕ) (end : End) → over_all copied (on copied i end) ≡ over_all s (on s i end) + one (hits i end (end_of s (Some f)))
  one_more i end =
      let w : ℕ = one (hits i end (end_of s (Some f))) in
      let a : ℕ = over_all copied (on copied i end) in let b : ℕ = over_all s (on s i end) in
      let x0 : ℕ = count_below (hits_of copied m.descriptors i end) NOFILE in let y0 : ℕ = count_below (hits_of s l.descriptors i end) NOFILE in
      let c : x0 ≡ y0 + w = ap (λ (ds : FinMap nat_cmp ℕ). count_below (hits_of copied ds i end) NOFILE) table.2 ∙ count_put s l.descriptors k f i end below unused in
      let e : a + 0 ≡ b + w = total frames s copied h p l m was (now s p l m was s.files pipes s.free)
      (others s p l m was s.files pipes s.free) table.0 refl (λ q d g apart x. refl) i end w 0 (let g : x0 + 0 ≡ y0 + w = omega arith in g) in
      let goal : a ≡ b + w = omega arith in goal

  copy_in : (d g : ℕ) → get m.descriptors d ≡ Some g → (d < NOFILE) × IsSome (get s.files g)
  copy_in d g a = elim (eqb_tells d k) [
    | inl e ↦
        let same : Some f ≡ Some g = sym (get_same l.descriptors k f) ∙ ap (get (insert l.descriptors k f)) (sym e.1) ∙ sym (at_copy d) ∙ a in
        let is : f ≡ g = cc in
        let from = h.descriptors p j g (mine_then s p l m was s.files pipes s.free j ∙ source ∙ ap Some is) in
        (subst (λ (n : ℕ). n < NOFILE) (sym e.1) below, from.1)
    | inr e ↦ h.descriptors p d g (mine_then s p l m was s.files pipes s.free d ∙ sym (get_other l.descriptors k f d e.1) ∙ sym (at_copy d) ∙ a)
  ]

  copy_named : (g : ℕ) → IsSome (get s.files g) → (q : ℕ) × (d : ℕ) × (file_at copied q d ≡ Some g)
  copy_named g there =
      let n = h.named g there in
      (n.0, n.1, still_named s p l m was s.files pipes s.free n.0 n.1 g n.2 (λ a. at_copy n.1 ∙ get_other l.descriptors k f n.1 (used_apart l.descriptors n.1 k g unused a) ∙ a))

  module _ (ends_there : (i : ℕ) → IsSome (get s.pipes i) → IsSome (get pipes i)) (many : len pipes ≡ len s.pipes)
      (readers : (i : ℕ) (z : Pipe) → get pipes i ≡ Some z → z.readers ≡ over_all copied (on copied i Reading))
      (writers : (i : ℕ) (z : Pipe) → get pipes i ≡ Some z → z.writers ≡ over_all copied (on copied i Writing))
      (held : (i : ℕ) (z : Pipe) → get pipes i ≡ Some z → is_given_up z ≡ false) (bytes : (i : ℕ) (z : Pipe) → get pipes i ≡ Some z → length z.bytes ≤ PIPE_BYTES) where
    pub copied_well : WellFormed frames copied
    copied_well = table_well frames s copied h p l m was (now s p l m was s.files pipes s.free) (others s p l m was s.files pipes s.free) table.0 refl (λ q d g apart x. refl)
        copy_in (λ g i z end a b. ends_there i (h.ends g i z end a b)) copy_named readers writers held bytes
        (λ z. s.free + (table.1 z + 1) + many z) h.keys h.to_send

pub well_dup : WellDup
well_dup frames s p l m j k f x h was below unused source opened no_pipe table =
    copied_well frames s p l m j k f h was below unused source table s.pipes (λ i there. there) refl
    (λ i z a. h.readers i z a ∙ same i Reading) (λ i z a. h.writers i z a ∙ same i Writing) h.held h.pipe_bytes
  where
    same : (i : ℕ) (end : End) → over_all s (on s i end) ≡ over_all (own_state p m s) (on (own_state p m s) i end)
    same i end =
        let a : ℕ = over_all (own_state p m s) (on (own_state p m s) i end) in let b : ℕ = over_all s (on s i end) in
        let w : ℕ = one (hits i end (end_of s (Some f))) in
        let e : a ≡ b + w = one_more frames s p l m j k f h was below unused source table s.pipes i end in
        let z : w ≡ 0 = ap one (ap (λ (o : Option OpenFile). hits i end (target_of_open o)) opened ∙ no_hit i end x.target no_pipe) in
        let goal : b ≡ a = omega arith in goal

joined_readers : (x : Pipe) (end : End) → (joined x end 1).readers ≡ x.readers + one (is_end Reading end)
joined_readers x Reading = refl
joined_readers x Writing = let n : ℕ = x.readers in let e : n ≡ n + 0 = omega arith in e

joined_writers : (x : Pipe) (end : End) → (joined x end 1).writers ≡ x.writers + one (is_end Writing end)
joined_writers x Reading = let n : ℕ = x.writers in let e : n ≡ n + 0 = omega arith in e
joined_writers x Writing = refl

joined_bytes : (x : Pipe) (end : End) → (joined x end 1).bytes ≡ x.bytes
joined_bytes x Reading = refl
joined_bytes x Writing = refl

more_held : (x : Pipe) (end : End) → is_given_up (joined x end 1) ≡ false
more_held x Reading = let n : ℕ = x.readers in descriptors.not_given (n + 1) x.writers (inl (let g : 0 < n + 1 = omega arith in g))
more_held x Writing = let n : ℕ = x.writers in descriptors.not_given x.readers (n + 1) (inr (let g : 0 < n + 1 = omega arith in g))

module _ (frames : ℕ) (s : State) (p : ℕ) (l m : Live) (j k i n : ℕ) (end : End) (x : Pipe) (on_it : OnPipe s p l j i n end x)
    (h : WellFormed frames s) (below : k < NOFILE) (unused : get l.descriptors k ≡ None)
    (table : HasTable l m (insert l.descriptors k on_it.file)) where
  abbrev y : Pipe
  y = joined x end 1

  abbrev more_pipes : FinMap nat_cmp Pipe
  more_pipes = insert s.pipes i y

  abbrev v : State
  v = piped_state p m i y s

  counted : (q : ℕ) (e : End) → over_all v (on v q e) ≡ over_all s (on s q e) + one (nat_eq i q && is_end e end)
  counted q e = one_more frames s p l m j k on_it.file h on_it.was below unused on_it.named_file table more_pipes q e ∙ (λ z. over_all s (on s q e) + one (hits q e (target_of_open (on_it.opened z))))

  which : (q : ℕ) (z : Pipe) → get more_pipes q ≡ Some z → ((q ≡ i) × (y ≡ z)) ⊎ ((q ≢ i) × (get s.pipes q ≡ Some z))
  which q z e = elim (eqb_tells q i) [
    | inl a ↦ inl (a.1, same_Some y z (sym (get_same s.pipes i y) ∙ ap (get more_pipes) (sym a.1) ∙ e))
    | inr a ↦ inr (a.1, sym (get_other s.pipes i y q a.1) ∙ e)
  ]

  apart : (q : ℕ) → q ≢ i → nat_eq i q ≡ false
  apart q ne = elim (eqb_tells i q) [ inl e ↦ absurd (ne (sym e.1)) | inr e ↦ e.0 ]

  other_count : (q : ℕ) (e : End) → q ≢ i → over_all s (on s q e) ≡ over_all v (on v q e)
  other_count q e ne =
      let a : ℕ = over_all v (on v q e) in let b : ℕ = over_all s (on s q e) in let w : ℕ = one (nat_eq i q && is_end e end) in
      let c : a ≡ b + w = counted q e in let z : w ≡ 0 = ap (λ (t : Bool). one (t && is_end e end)) (apart q ne) in
      let goal : b ≡ a = omega arith in goal

  own_count : (e : End) → over_all s (on s i e) + one (is_end e end) ≡ over_all v (on v i e)
  own_count e = (λ z. over_all s (on s i e) + one (sym (eq-eqb i i refl) z && is_end e end)) ∙ sym (counted i e)

  pub dup_pipe_well : WellFormed frames v
  dup_pipe_well = copied_well frames s p l m j k on_it.file h on_it.was below unused on_it.named_file table more_pipes
      (λ q there. elim (eqb_tells q i) [ inl e ↦ ap is_some (ap (get more_pipes) e.1 ∙ get_same s.pipes i y) | inr e ↦ ap is_some (get_other s.pipes i y q e.1) ∙ there ])
      (len-insert nat_cmp_total s.pipes i y ∙ ap (λ (b : Bool). cond b (len s.pipes) (len s.pipes + 1)) (ap is_some on_it.pipe))
      (λ q z e. elim (which q z e) [
        | inl new ↦ ap (λ (w : Pipe). w.readers) (sym new.1) ∙ joined_readers x end
            ∙ ap (λ (c : ℕ). c + one (is_end Reading end)) (h.readers i x on_it.pipe) ∙ own_count Reading
            ∙ ap (λ (c : ℕ). over_all v (on v c Reading)) (sym new.0)
        | inr old ↦ h.readers q z old.1 ∙ other_count q Reading old.0
      ])
      (λ q z e. elim (which q z e) [
        | inl new ↦ ap (λ (w : Pipe). w.writers) (sym new.1) ∙ joined_writers x end
            ∙ ap (λ (c : ℕ). c + one (is_end Writing end)) (h.writers i x on_it.pipe) ∙ own_count Writing
            ∙ ap (λ (c : ℕ). over_all v (on v c Writing)) (sym new.0)
        | inr old ↦ h.writers q z old.1 ∙ other_count q Writing old.0
      ])
      (λ q z e. elim (which q z e) [ inl new ↦ ap is_given_up (sym new.1) ∙ more_held x end | inr old ↦ h.held q z old.1 ])
      (λ q z e. elim (which q z e) [
        | inl new ↦ subst (λ (w : Pipe). length w.bytes ≤ PIPE_BYTES) new.1
            (subst (λ (b : List ℕ). length b ≤ PIPE_BYTES) (sym (joined_bytes x end)) (h.pipe_bytes i x on_it.pipe))
        | inr old ↦ h.pipe_bytes q z old.1
      ])

pub well_dup_pipe : WellDupPipe
well_dup_pipe frames s p l m j k i n end x on_it h below unused table = dup_pipe_well frames s p l m j k i n end x on_it h below unused table
