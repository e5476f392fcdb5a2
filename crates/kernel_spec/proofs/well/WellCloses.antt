-- Close and pipe keep a state well-formed.
use Rattle.kernel_spec.proofs.Prelude.{ℕ, ◌&&◌, ◌+◌, ◌-◌, ◌<◌, ◌∙◌, ◌≡◌, ◌≢◌, ◌≤◌, ◌⊎◌, Alive, ap, arith, Bool, changed_state, cond, count_below, End, end_of, eq-eqb, eqb_tells, false, file_at}
use Rattle.kernel_spec.proofs.Prelude.{FilesLeft, FinMap, get, HasTable, inl, inr, insert, is_end, is_given_up, is_some, IsSome, len, len-insert, length, List, Live, live_part, nat_cmp, nat_cmp_total}
use Rattle.kernel_spec.proofs.Prelude.{nat_eq, new_pipe, NobodyHas, NobodyNames, NOFILE, None, on, OnPipe, OpenFile, Option, over_all, parted, Pipe, PIPE_BYTES, Pipe_end, pipe_of_target, price}
use Rattle.kernel_spec.proofs.Prelude.{Process, Reading, refl, remove, same_Some, settled, Some, State, subst, sym, target_of_open, true, WellClosed, WellClosedPipe, WellFormed, WellMadePipe, Writing}
use Rattle.kernel_spec.proofs.Prelude.{Zombie}
use Rattle.kernel_spec.proofs.steps.SeenByParts.{file_of, pipe_of_file, pipe_of_open}
use Rattle.kernel_spec.proofs.steps.MapsAfterChange.{get_same, get_other, get_without}
use Rattle.kernel_spec.proofs.steps.EndsAreCounted.{hits, one, among_nobody}
use Rattle.kernel_spec.proofs.well.WellTable.{hits_of, count_put, count_take, count_files, total, table_well}
use Rattle.kernel_spec.proofs.well.WellOpens.{no_hit, now, others, mine_then, mine_now, still_named, used_apart}
use Rattle.kernel_spec.proofs.well.GoneWell.{settled_len}
use Rattle.kernel_spec.proofs.Common.{sum_below-zero}
use Rattle.kernel_spec.proofs.steps.DupCloseLawsHold as descriptors

module _ (frames : ℕ) (s : State) (p : ℕ) (l m : Live) (k f : ℕ) (x : OpenFile) (files : FinMap nat_cmp OpenFile) (pipes : FinMap nat_cmp Pipe) (freed : ℕ) (h : WellFormed frames s)
    (was : get s.processes p ≡ Some (Alive l)) (below : k < NOFILE) (used : get l.descriptors k ≡ Some f) (opened : get s.files f ≡ Some x) (table : HasTable l m (remove l.descriptors k))
    (left : FilesLeft s (changed_state p m files pipes s.console (s.free + freed) s)) where
  abbrev shut : State
  shut = changed_state p m files pipes s.console (s.free + freed) s

  at_m : (d : ℕ) → get m.descriptors d ≡ get (remove l.descriptors k) d
  at_m d = ap (λ (ds : FinMap nat_cmp ℕ). get ds d) table.2

  removed : (d : ℕ) → d ≢ k → get (remove l.descriptors k) d ≡ get l.descriptors d
  removed d other = get_without l.descriptors k d ∙ elim (eqb_tells d k) [ inl same ↦ absurd (other same.1) | inr apart ↦ ap (λ (b : Bool). cond b None (get l.descriptors d)) apart.0 ]

  removed_here : get (remove l.descriptors k) k ≡ None
  removed_here = get_without l.descriptors k k ∙ ap (λ (b : Bool). cond b None (get l.descriptors k)) (eq-eqb k k refl)

  not_k : (d g : ℕ) → get m.descriptors d ≡ Some g → d ≢ k
  not_k d g a e = let n : None ≡ Some g = sym removed_here ∙ ap (get (remove l.descriptors k)) (sym e) ∙ sym (at_m d) ∙ a in let no : ⊥ = cc in no

  mine_old : (d g : ℕ) → get m.descriptors d ≡ Some g → get l.descriptors d ≡ Some g
  mine_old d g a = sym (removed d (not_k d g a)) ∙ sym (at_m d) ∙ a

  other_file : (q d g : ℕ) → q ≢ p → file_at s q d ≡ Some g → get files g ≡ get s.files g
  other_file q d g apart a = left.stay q d g (ap (λ (o : Option Live). file_of o d) (ap live_part (others s p l m was files pipes (s.free + freed) q apart)) ∙ a)

  my_file : (d g : ℕ) → get m.descriptors d ≡ Some g → get files g ≡ get s.files g
  my_file d g a = left.stay p d g (mine_now s p l m was files pipes (s.free + freed) d ∙ a)

  -- one descriptor fewer on the end that descriptor k was on
  one_fewer : (i : ℕ) (end : End) → over_all shut (on shut i end) + one (hits i end (Some x.target)) ≡ over_all s (on s i end)
  one_fewer i end =
      let w : ℕ = one (hits i end (Some x.target)) in
      let a : ℕ = over_all shut (on shut i end) in let b : ℕ = over_all s (on s i end) in
      let x0 : ℕ = count_below (hits_of shut m.descriptors i end) NOFILE in let y0 : ℕ = count_below (hits_of s l.descriptors i end) NOFILE in
      let z0 : ℕ = count_below (hits_of s (remove l.descriptors k) i end) NOFILE in let w0 : ℕ = one (hits i end (end_of s (Some f))) in
      let ww : w0 ≡ w = ap (λ (o : Option OpenFile). one (hits i end (target_of_open o))) opened in
      let c1 : x0 ≡ z0 = count_files s shut m.descriptors i end my_file ∙ ap (λ (ds : FinMap nat_cmp ℕ). count_below (hits_of s ds i end) NOFILE) table.2 in
      let c2 : z0 + w0 ≡ y0 = count_take s l.descriptors k f i end below used in
      let e : a + w ≡ b + 0 = total frames s shut h p l m was (now s p l m was files pipes (s.free + freed))
      (others s p l m was files pipes (s.free + freed)) table.0 refl other_file i end 0 w (let g : x0 + w ≡ y0 + 0 = omega arith in g) in
      let goal : a + w ≡ b = omega arith in goal

  module _ (ends_there : (g i : ℕ) (y : OpenFile) (end : End) → get files g ≡ Some y → y.target ≡ Pipe_end i end → IsSome (get pipes i))
      (many : len pipes + freed ≡ len s.pipes)
      (readers : (i : ℕ) (z : Pipe) → get pipes i ≡ Some z → z.readers ≡ over_all shut (on shut i Reading))
      (writers : (i : ℕ) (z : Pipe) → get pipes i ≡ Some z → z.writers ≡ over_all shut (on shut i Writing))
      (held : (i : ℕ) (z : Pipe) → get pipes i ≡ Some z → is_given_up z ≡ false) (bytes : (i : ℕ) (z : Pipe) → get pipes i ≡ Some z → length z.bytes ≤ PIPE_BYTES) where
    paid : s.free + freed + (price m.image + 1) + len pipes ≡ s.free + (price l.image + 1) + len s.pipes
    paid =
        let a : ℕ = s.free in let b : ℕ = price m.image in let c : ℕ = price l.image in let d : ℕ = len pipes in let e : ℕ = len s.pipes in
        let x1 : b ≡ c = table.1 in let x2 : d + freed ≡ e = many in
        let goal : a + freed + (b + 1) + d ≡ a + (c + 1) + e = omega arith in goal

    pub shut_well : WellFormed frames shut
    shut_well = table_well frames s shut h p l m was (now s p l m was files pipes (s.free + freed)) (others s p l m was files pipes (s.free + freed)) table.0 refl other_file
        (λ d g a. let old = h.descriptors p d g (mine_then s p l m was files pipes (s.free + freed) d ∙ mine_old d g a) in (old.0, ap is_some (my_file d g a) ∙ old.1))
        ends_there left.named readers writers held bytes paid h.keys h.to_send

-- ---- close of what is no pipe

pub well_closed : WellClosed
well_closed frames s p l m k f x files h was below used opened no_pipe table left =
    shut_well frames s p l m k f x files s.pipes 0 h was below used opened table left
    (λ g i y end a b.
    let n = left.named g (ap is_some a) in h.ends g i y end (sym (left.stay n.0 n.1 g n.2) ∙ a) b)
    (let n : ℕ = len s.pipes in let e : n + 0 ≡ n = omega arith in e)
    (λ i z a. h.readers i z a ∙ same i Reading) (λ i z a. h.writers i z a ∙ same i Writing) h.held h.pipe_bytes
  where
    t : State
    t = changed_state p m files s.pipes s.console (s.free + 0) s

    same : (i : ℕ) (end : End) → over_all s (on s i end) ≡ over_all (changed_state p m files s.pipes s.console (s.free + 0) s) (on (changed_state p m files s.pipes s.console (s.free + 0) s) i end)
    same i end =
        let a : ℕ = over_all (changed_state p m files s.pipes s.console (s.free + 0) s) (on (changed_state p m files s.pipes s.console (s.free + 0) s) i end) in let b : ℕ = over_all s (on s i end) in
        let w : ℕ = one (hits i end (Some x.target)) in
        let e : a + w ≡ b = one_fewer frames s p l m k f x files s.pipes 0 h was below used opened table left i end in
        let z : w ≡ 0 = ap one (no_hit i end x.target no_pipe) in
        let goal : b ≡ a = omega arith in goal

-- ---- close of an end of a pipe

module _ (frames : ℕ) (s : State) (p : ℕ) (l m : Live) (k i n : ℕ) (end : End) (x : Pipe) (files : FinMap nat_cmp OpenFile) (on_it : OnPipe s p l k i n end x) (h : WellFormed frames s)
    (table : HasTable l m (remove l.descriptors k)) where
  abbrev y : Pipe
  y = parted x end 1

  abbrev fewer_pipes : FinMap nat_cmp Pipe
  fewer_pipes = settled i y s.pipes

  abbrev freed : ℕ
  freed = cond (is_given_up y) 1 0

  module _ (left : FilesLeft s (changed_state p m files fewer_pipes s.console (s.free + freed) s)) where
    abbrev t : State
    t = changed_state p m files fewer_pipes s.console (s.free + freed) s

    apart_pipe : (q : ℕ) → q ≢ i → get fewer_pipes q ≡ get s.pipes q
    apart_pipe q other = by (is_given_up y)
      where
        by : (b : Bool) → get (cond b (remove s.pipes i) (insert s.pipes i y)) q ≡ get s.pipes q
        by true = get_without s.pipes i q ∙ elim (eqb_tells q i) [ inl e ↦ absurd (other e.1) | inr e ↦ ap (λ (b : Bool). cond b None (get s.pipes q)) e.0 ]
        by false = get_other s.pipes i y q other

    here_pipe : is_given_up y ≡ false → get fewer_pipes i ≡ Some y
    here_pipe held = ap (λ (b : Bool). get (cond b (remove s.pipes i) (insert s.pipes i y)) i) held ∙ get_same s.pipes i y

    -- what is there at i is y, and isn't given up
    at_i : (z : Pipe) → get fewer_pipes i ≡ Some z → (y ≡ z) × (is_given_up y ≡ false)
    at_i z e = by (is_given_up y) refl e
      where
        by : (b : Bool) → is_given_up y ≡ b → get (cond b (remove s.pipes i) (insert s.pipes i y)) i ≡ Some z → (y ≡ z) × (is_given_up y ≡ false)
        by true g a = let none : None ≡ Some z = sym (get_without s.pipes i i ∙ ap (λ (b : Bool). cond b None (get s.pipes i)) (eq-eqb i i refl)) ∙ a in let no : ⊥ = cc in absurd no
        by false g a = (same_Some y z (sym (get_same s.pipes i y) ∙ a), g)

    which : (q : ℕ) (z : Pipe) → get fewer_pipes q ≡ Some z → ((q ≡ i) × (y ≡ z) × (is_given_up y ≡ false)) ⊎ ((q ≢ i) × (get s.pipes q ≡ Some z))
    which q z e = elim (eqb_tells q i) [
      | inl a ↦ let r = at_i z (ap (get fewer_pipes) (sym a.1) ∙ e) in inl (a.1, r.0, r.1)
      | inr a ↦ inr (a.1, sym (apart_pipe q a.1) ∙ e)
    ]

    fewer_count : (q : ℕ) (e : End) → over_all t (on t q e) + one (nat_eq i q && is_end e end) ≡ over_all s (on s q e)
    fewer_count q e = one_fewer frames s p l m k on_it.file
        (record { read = on_it.read; write = on_it.write; target = Pipe_end i end }) files fewer_pipes freed h on_it.was on_it.below on_it.named_file
        on_it.opened table left q e

    other_count : (q : ℕ) (e : End) → q ≢ i → over_all s (on s q e) ≡ over_all t (on t q e)
    other_count q e ne =
        let a : ℕ = over_all t (on t q e) in let b : ℕ = over_all s (on s q e) in let w : ℕ = one (nat_eq i q && is_end e end) in
        let c : a + w ≡ b = fewer_count q e in
        let apart : nat_eq i q ≡ false = elim (eqb_tells i q) [ inl r ↦ absurd (ne (sym r.1)) | inr r ↦ r.0 ] in
        let z : w ≡ 0 = ap (λ (b : Bool). one (b && is_end e end)) apart in
        let goal : b ≡ a = omega arith in goal

    own_count : (e : End) → over_all t (on t i e) + one (is_end e end) ≡ over_all s (on s i e)
    own_count e = (λ z. over_all t (on t i e) + one (sym (eq-eqb i i refl) z && is_end e end)) ∙ fewer_count i e

    reads_now : (parted x end 1).readers ≡ over_all t (on t i Reading)
    reads_now = by end refl
      where
        by : (e : End) → end ≡ e → (parted x e 1).readers ≡ over_all t (on t i Reading)
        by Reading same =
            let a : ℕ = over_all t (on t i Reading) in let b : ℕ = over_all s (on s i Reading) in let r : ℕ = x.readers in
            let c : a + 1 ≡ b = (λ z. a + one (is_end Reading (sym same z))) ∙ own_count Reading in let d : r ≡ b = h.readers i x on_it.pipe in
            let goal : r - 1 ≡ a = omega arith in goal
        by Writing same =
            let a : ℕ = over_all t (on t i Reading) in let b : ℕ = over_all s (on s i Reading) in let r : ℕ = x.readers in
            let c : a + 0 ≡ b = (λ z. a + one (is_end Reading (sym same z))) ∙ own_count Reading in let d : r ≡ b = h.readers i x on_it.pipe in
            let goal : r ≡ a = omega arith in goal

    writes_now : (parted x end 1).writers ≡ over_all t (on t i Writing)
    writes_now = by end refl
      where
        by : (e : End) → end ≡ e → (parted x e 1).writers ≡ over_all t (on t i Writing)
        by Reading same =
            let a : ℕ = over_all t (on t i Writing) in let b : ℕ = over_all s (on s i Writing) in let r : ℕ = x.writers in
            let c : a + 0 ≡ b = (λ z. a + one (is_end Writing (sym same z))) ∙ own_count Writing in let d : r ≡ b = h.writers i x on_it.pipe in
            let goal : r ≡ a = omega arith in goal
        by Writing same =
            let a : ℕ = over_all t (on t i Writing) in let b : ℕ = over_all s (on s i Writing) in let r : ℕ = x.writers in
            let c : a + 1 ≡ b = (λ z. a + one (is_end Writing (sym same z))) ∙ own_count Writing in let d : r ≡ b = h.writers i x on_it.pipe in
            let goal : r - 1 ≡ a = omega arith in goal

    parted_bytes : (e : End) → (parted x e 1).bytes ≡ x.bytes
    parted_bytes Reading = refl
    parted_bytes Writing = refl

    -- an open file that is an end of the pipe is named by someone, so the pipe isn't given up
    its_end : (g q : ℕ) (z : OpenFile) (e : End) → get files g ≡ Some z → z.target ≡ Pipe_end q e → IsSome (get fewer_pipes q)
    its_end g q z e a b =
        let who = left.named g (ap is_some a) in
        let then : get s.files g ≡ Some z = sym (left.stay who.0 who.1 g who.2) ∙ a in
        let on_q : pipe_of_file s (Some g) ≡ Some q = ap pipe_of_open then ∙ ap pipe_of_target b in
        elim (eqb_tells q i) [
          | inr other ↦ ap is_some (apart_pipe q other.1) ∙ h.ends g q z e then b
          | inl same ↦
              let held : is_given_up y ≡ false = elim (eqb_tells who.0 p) [
                | inl me ↦
                    let named : get m.descriptors who.1 ≡ Some g = sym (mine_now s p l m on_it.was files fewer_pipes (s.free + freed) who.1) ∙ ap (λ (r : ℕ). file_at t r who.1) (sym me.1) ∙ who.2 in
                    let old : get l.descriptors who.1 ≡ Some g =
                    mine_old frames s p l m k on_it.file (record { read = on_it.read; write = on_it.write; target = Pipe_end i end }) files
                    fewer_pipes freed h on_it.was on_it.below on_it.named_file on_it.opened table left who.1 g named in
                    descriptors.held_by_own frames s p l k i n end x on_it h who.1
                    (not_k frames s p l m k on_it.file (record { read = on_it.read; write = on_it.write; target = Pipe_end i end }) files
                    fewer_pipes freed h on_it.was on_it.below on_it.named_file on_it.opened table left who.1 g named)
                    (ap (pipe_of_file s) old ∙ on_q ∙ ap Some same.1)
                | inr else ↦ descriptors.held_by_others frames s p l k i n end x on_it h (
                  who.0,
                  who.1,
                  else.1,
                  ap (pipe_of_file s) (sym
                      (ap (λ (o : Option Live). file_of o who.1) (ap live_part
                      (others s p l m on_it.was files fewer_pipes (s.free + freed) who.0 else.1))) ∙ who.2) ∙ on_q ∙ ap Some same.1,
                )
              ] in
              ap is_some (ap (get fewer_pipes) same.1 ∙ here_pipe held)
        ]

    pub closed_pipe_well : WellFormed frames t
    closed_pipe_well =
        shut_well frames s p l m k on_it.file (record { read = on_it.read; write = on_it.write; target = Pipe_end i end }) files fewer_pipes freed h
        on_it.was on_it.below on_it.named_file on_it.opened table left
        its_end
        (settled_len i y x s.pipes on_it.pipe (is_given_up y))
        (λ q z e. elim (which q z e) [
          | inl new ↦ ap (λ (w : Pipe). w.readers) (sym new.1) ∙ reads_now ∙ ap (λ (c : ℕ). over_all t (on t c Reading)) (sym new.0)
          | inr old ↦ h.readers q z old.1 ∙ other_count q Reading old.0
        ])
        (λ q z e. elim (which q z e) [
          | inl new ↦ ap (λ (w : Pipe). w.writers) (sym new.1) ∙ writes_now ∙ ap (λ (c : ℕ). over_all t (on t c Writing)) (sym new.0)
          | inr old ↦ h.writers q z old.1 ∙ other_count q Writing old.0
        ])
        (λ q z e. elim (which q z e) [ inl new ↦ ap is_given_up (sym new.1) ∙ new.2 | inr old ↦ h.held q z old.1 ])
        (λ q z e. elim (which q z e) [
          | inl new ↦ subst (λ (w : Pipe). length w.bytes ≤ PIPE_BYTES) new.1
              (subst (λ (b : List ℕ). length b ≤ PIPE_BYTES) (sym (parted_bytes end)) (h.pipe_bytes i x on_it.pipe))
          | inr old ↦ h.pipe_bytes q z old.1
        ])

pub well_closed_pipe : WellClosedPipe
well_closed_pipe frames s p l m k i n end x files on_it h table left = closed_pipe_well frames s p l m k i n end x files on_it h table left

-- ---- pipe

new_pipe_is : (new_pipe.readers ≡ 1) × (new_pipe.writers ≡ 1) × (is_given_up new_pipe ≡ false) × (length new_pipe.bytes ≤ PIPE_BYTES)
unfolding new_pipe
new_pipe_is = (refl, refl, refl, (omega arith))

module _ (frames : ℕ) (s : State) (p : ℕ) (l m : Live) (r w f g i : ℕ) (h : WellFormed frames s) (was : get s.processes p ≡ Some (Alive l))
    (below_r : r < NOFILE) (below_w : w < NOFILE) (distinct : r ≢ w) (distinct_files : f ≢ g)
    (unused_r : get l.descriptors r ≡ None) (unused_w : get l.descriptors w ≡ None) (nobody_f : NobodyNames s f) (nobody_g : NobodyNames s g)
    (nobody_i : NobodyHas s i) (absent : get s.pipes i ≡ None) (room : 0 < s.free)
    (table : HasTable l m (insert (insert l.descriptors r f) w g)) where
  abbrev reading : OpenFile
  reading = record { read = true; write = false; target = Pipe_end i Reading }

  abbrev writing : OpenFile
  writing = record { read = false; write = true; target = Pipe_end i Writing }

  abbrev two_more : FinMap nat_cmp OpenFile
  two_more = insert (insert s.files f reading) g writing

  abbrev pipes_more : FinMap nat_cmp Pipe
  pipes_more = insert s.pipes i new_pipe

  abbrev made : State
  made = changed_state p m two_more pipes_more s.console (s.free - 1) s

  abbrev one_named : FinMap nat_cmp ℕ
  one_named = insert l.descriptors r f

  at_two : (d : ℕ) → get m.descriptors d ≡ get (insert one_named w g) d
  at_two d = ap (λ (ds : FinMap nat_cmp ℕ). get ds d) table.2

  file_f : get two_more f ≡ Some reading
  file_f = get_other (insert s.files f reading) g writing f distinct_files ∙ get_same s.files f reading

  file_g : get two_more g ≡ Some writing
  file_g = get_same (insert s.files f reading) g writing

  old_file : (n : ℕ) → n ≢ f → n ≢ g → get two_more n ≡ get s.files n
  old_file n a b = get_other (insert s.files f reading) g writing n b ∙ get_other s.files f reading n a

  kept_file : (q d n : ℕ) → file_at s q d ≡ Some n → get two_more n ≡ get s.files n
  kept_file q d n a = old_file n (λ e. nobody_f q d (a ∙ ap Some e)) (λ e. nobody_g q d (a ∙ ap Some e))

  two_counted : (j : ℕ) (end : End) → count_below (hits_of made m.descriptors j end) NOFILE ≡ count_below (hits_of s l.descriptors j end) NOFILE +
      (one (nat_eq i j && is_end end Reading) + one (nat_eq i j && is_end end Writing))
  two_counted j end =
      let a : ℕ = count_below (hits_of made m.descriptors j end) NOFILE in let b : ℕ = count_below (hits_of s l.descriptors j end) NOFILE in
      let a1 : ℕ = count_below (hits_of made (insert one_named w g) j end) NOFILE in let c : ℕ = count_below (hits_of made one_named j end) NOFILE in
      let d : ℕ = count_below (hits_of made l.descriptors j end) NOFILE in
      let x : ℕ = one (nat_eq i j && is_end end Reading) in let y : ℕ = one (nat_eq i j && is_end end Writing) in
      let x0 : ℕ = one (hits j end (end_of made (Some f))) in let y0 : ℕ = one (hits j end (end_of made (Some g))) in
      let e0 : a ≡ a1 = ap (λ (ds : FinMap nat_cmp ℕ). count_below (hits_of made ds j end) NOFILE) table.2 in
      let e1 : a1 ≡ c + y0 = count_put made one_named w g j end below_w (get_other l.descriptors r f w (λ q. distinct (sym q)) ∙ unused_w) in
      let e2 : c ≡ d + x0 = count_put made l.descriptors r f j end below_r unused_r in
      let e3 : d ≡ b = count_files s made l.descriptors j end (λ d n z. kept_file p d n (mine_then s p l m was two_more pipes_more (s.free - 1) d ∙ z)) in
      let ex : x0 ≡ x = ap (λ (o : Option OpenFile). one (hits j end (target_of_open o))) file_f in
      let ey : y0 ≡ y = ap (λ (o : Option OpenFile). one (hits j end (target_of_open o))) file_g in
      let goal : a ≡ b + (x + y) = omega arith in goal

  made_total : (j : ℕ) (end : End) → over_all made (on made j end) ≡ over_all s (on s j end) + (one (nat_eq i j && is_end end Reading) + one (nat_eq i j && is_end end Writing))
  made_total j end =
      let a : ℕ = over_all made (on made j end) in let b : ℕ = over_all s (on s j end) in
      let k : ℕ = one (nat_eq i j && is_end end Reading) + one (nat_eq i j && is_end end Writing) in
      let x0 : ℕ = count_below (hits_of made m.descriptors j end) NOFILE in let y0 : ℕ = count_below (hits_of s l.descriptors j end) NOFILE in
      let c : x0 ≡ y0 + k = two_counted j end in
      let e : a + 0 ≡ b + k = total frames s made h p l m was (now s p l m was two_more pipes_more (s.free - 1))
      (others s p l m was two_more pipes_more (s.free - 1)) table.0 refl (λ q d n apart z. kept_file q d n z) j end k 0
      (let q : x0 + 0 ≡ y0 + k = omega arith in q) in
      let goal : a ≡ b + k = omega arith in goal

  nobody_on : (end : End) → over_all s (on s i end) ≡ 0
  nobody_on end = sum_below-zero s.next_pid (λ q. on s i end (get s.processes q)) (λ q low. by q (get s.processes q) refl)
    where
      by : (q : ℕ) (o : Option Process) → get s.processes q ≡ o → on s i end o ≡ 0
      by q None e = refl
      by q (Some (Alive k)) e = among_nobody s k NOFILE i end (λ d low. λ hit. nobody_i q d (ap (λ (o : Option Process). pipe_of_file s (file_of (live_part o) d)) e ∙ hit))
      by q (Some (Zombie a b)) e = refl

  new_count : (end : End) → 1 ≡ over_all made (on made i end)
  new_count end =
      let a : ℕ = over_all made (on made i end) in let b : ℕ = over_all s (on s i end) in
      let k : ℕ = one (nat_eq i i && is_end end Reading) + one (nat_eq i i && is_end end Writing) in
      let e : a ≡ b + k = made_total i end in let z : b ≡ 0 = nobody_on end in
      let one_end : k ≡ 1 = (λ q. one (eq-eqb i i refl q && is_end end Reading) + one (eq-eqb i i refl q && is_end end Writing)) ∙ by end in
      let goal : 1 ≡ a = omega arith in goal
    where
      by : (e : End) → one (true && is_end e Reading) + one (true && is_end e Writing) ≡ 1
      by Reading = refl
      by Writing = refl

  old_count : (j : ℕ) (end : End) → j ≢ i → over_all s (on s j end) ≡ over_all made (on made j end)
  old_count j end ne =
      let a : ℕ = over_all made (on made j end) in let b : ℕ = over_all s (on s j end) in
      let k : ℕ = one (nat_eq i j && is_end end Reading) + one (nat_eq i j && is_end end Writing) in
      let e : a ≡ b + k = made_total j end in
      let apart : nat_eq i j ≡ false = elim (eqb_tells i j) [ inl q ↦ absurd (ne (sym q.1)) | inr q ↦ q.0 ] in
      let z : k ≡ 0 = ap (λ (t : Bool). one (t && is_end end Reading) + one (t && is_end end Writing)) apart in
      let goal : b ≡ a = omega arith in goal

  which_pipe : (j : ℕ) (z : Pipe) → get pipes_more j ≡ Some z → ((j ≡ i) × (new_pipe ≡ z)) ⊎ ((j ≢ i) × (get s.pipes j ≡ Some z))
  which_pipe j z e = elim (eqb_tells j i) [
    | inl a ↦ inl (a.1, same_Some new_pipe z (sym (get_same s.pipes i new_pipe) ∙ ap (get pipes_more) (sym a.1) ∙ e))
    | inr a ↦ inr (a.1, sym (get_other s.pipes i new_pipe j a.1) ∙ e)
  ]

  pipe_there_after : (j : ℕ) → IsSome (get s.pipes j) → IsSome (get pipes_more j)
  pipe_there_after j there = elim (eqb_tells j i) [
    | inl e ↦ ap is_some (ap (get pipes_more) e.1 ∙ get_same s.pipes i new_pipe)
    | inr e ↦ ap is_some (get_other s.pipes i new_pipe j e.1) ∙ there
  ]

  new_there : (j : ℕ) (z : OpenFile) (end e : End) (u : OpenFile) → u ≡ z → pipe_of_target u.target ≡ Some i → z.target ≡ Pipe_end j e → IsSome (get pipes_more j)
  new_there j z end e u same on_i is =
      let q : Some i ≡ Some j = sym on_i ∙ ap (λ (v : OpenFile). pipe_of_target v.target) same ∙ ap pipe_of_target is in
      let ij : i ≡ j = cc in
      ap is_some (ap (get pipes_more) (sym ij) ∙ get_same s.pipes i new_pipe)

  made_ends : (n j : ℕ) (z : OpenFile) (e : End) → get two_more n ≡ Some z → z.target ≡ Pipe_end j e → IsSome (get pipes_more j)
  made_ends n j z e a b = elim (eqb_tells n g) [
    | inl q ↦ new_there j z e e writing (same_Some writing z (sym file_g ∙ ap (get two_more) (sym q.1) ∙ a)) refl b
    | inr q ↦ elim (eqb_tells n f) [
      | inl t ↦ new_there j z e e reading (same_Some reading z (sym file_f ∙ ap (get two_more) (sym t.1) ∙ a)) refl b
      | inr t ↦ pipe_there_after j (h.ends n j z e (sym (old_file n t.1 q.1) ∙ a) b)
    ]
  ]

  at_w : get m.descriptors w ≡ Some g
  at_w = at_two w ∙ get_same one_named w g

  at_r : get m.descriptors r ≡ Some f
  at_r = at_two r ∙ get_other one_named w g r distinct ∙ get_same l.descriptors r f

  elsewhere : (d : ℕ) → d ≢ r → d ≢ w → get m.descriptors d ≡ get l.descriptors d
  elsewhere d a b = at_two d ∙ get_other one_named w g d b ∙ get_other l.descriptors r f d a

  made_in : (d n : ℕ) → get m.descriptors d ≡ Some n → (d < NOFILE) × IsSome (get two_more n)
  made_in d n a = elim (eqb_tells d w) [
    | inl e ↦ (subst (λ (z : ℕ). z < NOFILE) (sym e.1) below_w, ap is_some (ap (get two_more) (same_Some n g (sym a ∙ ap (get m.descriptors) e.1 ∙ at_w)) ∙ file_g))
    | inr e ↦ elim (eqb_tells d r) [
      | inl t ↦ (subst (λ (z : ℕ). z < NOFILE) (sym t.1) below_r, ap is_some (ap (get two_more) (same_Some n f (sym a ∙ ap (get m.descriptors) t.1 ∙ at_r)) ∙ file_f))
      | inr t ↦
          let old : file_at s p d ≡ Some n = mine_then s p l m was two_more pipes_more (s.free - 1) d ∙ sym (elsewhere d t.1 e.1) ∙ a in
          let q = h.descriptors p d n old in (q.0, ap is_some (kept_file p d n old) ∙ q.1)
    ]
  ]

  made_named : (n : ℕ) → IsSome (get two_more n) → (q : ℕ) × (d : ℕ) × (file_at made q d ≡ Some n)
  made_named n there = elim (eqb_tells n g) [
    | inl e ↦ (p, w, mine_now s p l m was two_more pipes_more (s.free - 1) w ∙ at_w ∙ ap Some (sym e.1))
    | inr e ↦ elim (eqb_tells n f) [
      | inl t ↦ (p, r, mine_now s p l m was two_more pipes_more (s.free - 1) r ∙ at_r ∙ ap Some (sym t.1))
      | inr t ↦
          let q = h.named n (ap is_some (sym (old_file n t.1 e.1)) ∙ there) in (
            q.0,
            q.1,
            still_named s p l m was two_more pipes_more (s.free - 1) q.0 q.1 n q.2
                (λ a. elsewhere q.1 (used_apart l.descriptors q.1 r n unused_r a) (used_apart l.descriptors q.1 w n unused_w a) ∙ a),
          )
    ]
  ]

  made_paid : s.free - 1 + (price m.image + 1) + len pipes_more ≡ s.free + (price l.image + 1) + len s.pipes
  made_paid =
      let a : ℕ = s.free in let b : ℕ = price m.image in let c : ℕ = price l.image in let d : ℕ = len pipes_more in let e : ℕ = len s.pipes in
      let x1 : b ≡ c = table.1 in let x2 : d ≡ e + 1 = len-insert nat_cmp_total s.pipes i new_pipe ∙ ap (λ (z : Bool). cond z e (e + 1)) (ap is_some absent) in let x3 : 0 < a = room in
      let goal : a - 1 + (b + 1) + d ≡ a + (c + 1) + e = omega arith in goal

  pub made_well : WellFormed frames made
  made_well = table_well frames s made h p l m was (now s p l m was two_more pipes_more (s.free - 1))
      (others s p l m was two_more pipes_more (s.free - 1)) table.0 refl (λ q d n apart z. kept_file q d n z)
      made_in made_ends made_named
      (λ j z e. elim (which_pipe j z e) [
        | inl new ↦ ap (λ (v : Pipe). v.readers) (sym new.1) ∙ new_pipe_is.0 ∙ new_count Reading ∙ ap (λ (c : ℕ). over_all made (on made c Reading)) (sym new.0)
        | inr old ↦ h.readers j z old.1 ∙ old_count j Reading old.0
      ])
      (λ j z e. elim (which_pipe j z e) [
        | inl new ↦ ap (λ (v : Pipe). v.writers) (sym new.1) ∙ new_pipe_is.1 ∙ new_count Writing ∙ ap (λ (c : ℕ). over_all made (on made c Writing)) (sym new.0)
        | inr old ↦ h.writers j z old.1 ∙ old_count j Writing old.0
      ])
      (λ j z e. elim (which_pipe j z e) [ inl new ↦ ap is_given_up (sym new.1) ∙ new_pipe_is.2 | inr old ↦ h.held j z old.1 ])
      (λ j z e. elim (which_pipe j z e) [ inl new ↦ subst (λ (v : Pipe). length v.bytes ≤ PIPE_BYTES) new.1 new_pipe_is.3 | inr old ↦ h.pipe_bytes j z old.1 ])
      made_paid h.keys h.to_send

pub well_made_pipe : WellMadePipe
well_made_pipe frames s p l m r w f g i h was below_r below_w distinct distinct_files unused_r unused_w nobody_f nobody_g nobody_i absent room table =
    made_well frames s p l m r w f g i h was below_r below_w distinct distinct_files unused_r unused_w nobody_f nobody_g nobody_i absent room table
