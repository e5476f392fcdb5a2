-- The pipes where each descriptor of a process is closed, the last one first.
use Rattle.kernel_spec.proofs.Prelude.{ℕ, ◌&&◌, ◌+◌, ◌-◌, ◌<◌, ◌∙◌, ◌≡◌, ◌≢◌, ◌≤◌, ◌⊎◌, all_closed, and_left, and_right, ap, arith, Bool, cases_lt, changed, cond, count_below, Descriptor, Descriptors}
use Rattle.kernel_spec.proofs.Prelude.{End, end_of, ends, eq-eqb, eqb_tells, false, fewer_at, fewer_on, fewer_on_all, File, FinMap, freed_at, freed_on, freed_on_all, get, get-remove, inl, inr, insert}
use Rattle.kernel_spec.proofs.Prelude.{is_end, is_given_up, is_this, least_below, least_on_pipe, Live, named, names_given_up, nat_cmp, nat_cmp_total, nat_eq, NOFILE, None, none_below, numbered}
use Rattle.kernel_spec.proofs.Prelude.{on_end, OpenFile, Option, option_map, or_gone, parted, Pipe, Pipe_end, pipe_name, pipe_of_target, pipes_given_up, Reading, refl, remove, rename, settled, show}
use Rattle.kernel_spec.proofs.Prelude.{Shown, Shown_file, shown_on_end, Shown_pipe, shown_pipe_name, Shown_terminal, Some, State, suc, sym, Target, target_of_open, Terminal, true, unsigned_tied}
use Rattle.kernel_spec.proofs.Prelude.{unwrap_or, Writing, zero}
use Rattle.kernel_spec.proofs.steps.SeenByParts.{pipe_of_file, pipe_of_open, descriptor_at, descriptor_on}
use Rattle.kernel_spec.proofs.steps.MapsAfterChange.{get_at}
use Rattle.kernel_spec.proofs.steps.LeastPasses.{least_passes, least_least}
use Rattle.kernel_spec.proofs.steps.NamesAreChosenAgain.{named_at}
use Rattle.kernel_spec.proofs.steps.OnePipeChanges.{pipe_name_kept}
use Rattle.kernel_spec.proofs.steps.ForkExitCountEnds.{named_all_closed}
use Rattle.kernel_spec.proofs.steps.EndsAreCounted.{hits, among, one, among_more}
use Rattle.kernel_spec.proofs.Common.{count_below-none}

-- a pipe that is given up is there no more
abbrev pub kept : Option Pipe → Option Pipe
kept None = None
kept (Some x) = cond (is_given_up x) None (Some x)

pub get_settled : (i : ℕ) (z : Pipe) (m : FinMap nat_cmp Pipe) (j : ℕ) → get (settled i z m) j ≡ cond (nat_eq j i) (kept (Some z)) (get m j)
get_settled i z m j = by (is_given_up z)
  where
    by : (b : Bool) → get (cond b (remove m i) (insert m i z)) j ≡ cond (nat_eq j i) (cond b None (Some z)) (get m j)
    by true = get-remove nat_cmp_total m i j ∙ ap (λ b. cond b None (get m j)) (unsigned_tied j i)
    by false = get_at m i z j

pub nonzero : (k n : ℕ) → k ≡ n + 1 → nat_eq k 0 ≡ false
nonzero k n e = elim (eqb_tells k 0) [ inl h ↦ let f : k ≡ 0 = h.1 in absurd (omega arith) | inr h ↦ h.0 ]

-- less what is closed, and still so many of it
abbrev pub rest : Pipe → (a b c d : ℕ) → Pipe
rest x a b c d = record x { readers = x.readers - a + c; writers = x.writers - b + d }

part_one : (x : Pipe) (e : End) (a b c d : ℕ) → parted (rest x a b (c + one (is_end Reading e)) (d + one (is_end Writing e))) e 1 ≡ rest x a b c d
part_one x Reading a b c d = let r : x.readers - a + (c + 1) - 1 ≡ x.readers - a + c = omega arith in
    let w : x.writers - b + (d + 0) ≡ x.writers - b + d = omega arith in λ i. record x { readers = r i; writers = w i }
part_one x Writing a b c d = let r : x.readers - a + (c + 0) ≡ x.readers - a + c = omega arith in
    let w : x.writers - b + (d + 1) - 1 ≡ x.writers - b + d = omega arith in λ i. record x { readers = r i; writers = w i }

held_one : (x : Pipe) (e : End) (a b c d : ℕ) → is_given_up (rest x a b (c + one (is_end Reading e)) (d + one (is_end Writing e))) ≡ false
held_one x Reading a b c d = and_left (nat_eq (x.readers - a + (c + 1)) 0) (nat_eq (x.writers - b + (d + 0)) 0) (nonzero (x.readers - a + (c + 1)) (x.readers - a + c) (omega arith))
held_one x Writing a b c d = and_right (nat_eq (x.readers - a + (c + 0)) 0) (nat_eq (x.writers - b + (d + 1)) 0) (nonzero (x.writers - b + (d + 1)) (x.writers - b + d) (omega arith))

-- ---- a descriptor's ends

on_some_end : (i : ℕ) (x : Shown) → is_this i (shown_pipe_name x) ≡ true → (shown_on_end i Reading x ≡ true) ⊎ (shown_on_end i Writing x ≡ true)
on_some_end i Shown_terminal h = let no : ⊥ = cc in absurd no
on_some_end i (Shown_file program offset) h = let no : ⊥ = cc in absurd no
on_some_end i (Shown_pipe n Reading pipe) h = inl (ap (λ (b : Bool). b && true) h)
on_some_end i (Shown_pipe n Writing pipe) h = inr (ap (λ (b : Bool). b && true) h)

pub on_an_end : (i : ℕ) (o : Option Descriptor) → is_this i (pipe_name o) ≡ true → (on_end i Reading o ≡ true) ⊎ (on_end i Writing o ≡ true)
on_an_end i None h = let no : ⊥ = cc in absurd no
on_an_end i (Some d) h = on_some_end i d.shown h

not_shown_on : (i : ℕ) (end : End) (x : Shown) → is_this i (shown_pipe_name x) ≡ false → shown_on_end i end x ≡ false
not_shown_on i end Shown_terminal h = refl
not_shown_on i end (Shown_file program offset) h = refl
not_shown_on i end (Shown_pipe n e pipe) h = and_left (nat_eq n i) (is_end end e) h

not_on : (i : ℕ) (end : End) (o : Option Descriptor) → is_this i (pipe_name o) ≡ false → on_end i end o ≡ false
not_on i end None h = refl
not_on i end (Some d) h = not_shown_on i end d.shown h

pub count_some : (n : ℕ) (P : ℕ → Bool) (d : ℕ) → d < n → P d ≡ true → (k : ℕ) × (count_below P n ≡ k + 1)
unfolding count_below
count_some zero P d below h = absurd (omega arith)
count_some (suc n) P d below h = elim (eqb_tells d n) [
  | inl e ↦ (count_below P n, λ i. count_below P n + one ((ap P (sym e.1) ∙ h) i))
  | inr e ↦ let apart : d ≢ n = e.1 in let r = count_some n P d (omega arith) h in let k : ℕ = r.0 in let c : ℕ = count_below P n in
      let o : ℕ = one (P n) in let g : c ≡ k + 1 = r.1 in (k + o, omega arith)
]

module _ (s : State) (l : Live) where
  abbrev pub all : ℕ → End → ℕ
  all j end = among s l NOFILE j end

  -- pipe j where the descriptors from n on are closed
  abbrev pub left_with : ℕ → ℕ → Pipe → Pipe
  left_with n j x = rest x (all j Reading) (all j Writing) (among s l n j Reading) (among s l n j Writing)

  abbrev target : ℕ → Option Target
  target n = end_of s (get l.descriptors n)

  left_more : (n j : ℕ) (x : Pipe) → left_with (suc n) j x ≡ rest x (all j Reading) (all j Writing)
      (among s l n j Reading + one (hits j Reading (target n))) (among s l n j Writing + one (hits j Writing (target n)))
  left_more n j x = λ i. rest x (all j Reading) (all j Writing) (among_more s l n j Reading i) (among_more s l n j Writing i)

  same_left : (n j : ℕ) (r w : Bool) → hits j Reading (target n) ≡ r → hits j Writing (target n) ≡ w → r ≡ false → w ≡ false → (o : Option Pipe)
      → option_map (left_with (suc n) j) o ≡ option_map (left_with n j) o
  same_left n j r w hr hw er ew None = refl
  same_left n j r w hr hw er ew (Some x) =
      ap Some (left_more n j x
      ∙ (λ i. rest x (all j Reading) (all j Writing) (among s l n j Reading + one ((hr ∙ er) i)) (among s l n j Writing + one ((hw ∙ ew) i)))
      ∙ (let a : among s l n j Reading + 0 ≡ among s l n j Reading = omega arith in let b : among s l n j Writing + 0 ≡ among s l n j Writing = omega arith in
      λ i. rest x (all j Reading) (all j Writing) (a i) (b i)))

  module _ (m : FinMap nat_cmp Pipe) (n : ℕ) (is : (j : ℕ) → get m j ≡ kept (option_map (left_with (suc n) j) (get s.pipes j))) where
    no_change : (j : ℕ) (o : Option Target) → target n ≡ o → hits j Reading o ≡ false → hits j Writing o ≡ false → get m j ≡ kept (option_map (left_with n j) (get s.pipes j))
    no_change j o e hr hw = is j ∙ ap kept (same_left n j (hits j Reading o) (hits j Writing o) (ap (hits j Reading) e) (ap (hits j Writing) e) hr hw (get s.pipes j))

    -- the pipe of descriptor n
    module _ (i : ℕ) (e : End) (eo : target n ≡ Some (Pipe_end i e)) (x : Pipe) (there : get s.pipes i ≡ Some x) where
      hit : (end : End) → hits i end (target n) ≡ is_end end e
      hit end = ap (hits i end) eo ∙ ap (λ (b : Bool). b && is_end end e) (eq-eqb i i refl)

      left_hit : left_with (suc n) i x ≡ rest x (all i Reading) (all i Writing) (among s l n i Reading + one (is_end Reading e)) (among s l n i Writing + one (is_end Writing e))
      left_hit = left_more n i x ∙ (λ k. rest x (all i Reading) (all i Writing) (among s l n i Reading + one (hit Reading k)) (among s l n i Writing + one (hit Writing k)))

      pipe_now : get m i ≡ Some (left_with (suc n) i x)
      pipe_now = is i ∙ ap (λ (o : Option Pipe). kept (option_map (left_with (suc n) i) o)) there
          ∙ ap (λ (b : Bool). cond b None (Some (left_with (suc n) i x))) (ap is_given_up left_hit ∙ held_one x e (all i Reading) (all i Writing) (among s l n i Reading) (among s l n i Writing))

      pub pipe_next : parted (left_with (suc n) i x) e 1 ≡ left_with n i x
      pipe_next = ap (λ (y : Pipe). parted y e 1) left_hit ∙ part_one x e (all i Reading) (all i Writing) (among s l n i Reading) (among s l n i Writing)

      fewer_there : (j : ℕ) → get (fewer_at i e m (get m i)) j ≡ kept (option_map (left_with n j) (get s.pipes j))
      fewer_there j =
          ap (λ (o : Option Pipe). get (fewer_at i e m o) j) pipe_now
          ∙ ap (λ (y : Pipe). get (settled i y m) j) pipe_next
          ∙ get_settled i (left_with n i x) m j
          ∙ elim (eqb_tells j i) [
            | inl h ↦ ap (λ (b : Bool). cond b (kept (Some (left_with n i x))) (get m j)) h.0
                ∙ sym (ap (λ (k : ℕ). kept (option_map (left_with n k) (get s.pipes k))) h.1 ∙ ap (λ (o : Option Pipe). kept (option_map (left_with n i) o)) there)
            | inr h ↦ ap (λ (b : Bool). cond b (kept (Some (left_with n i x))) (get m j)) h.0
                ∙ no_change j (Some (Pipe_end i e)) eo (and_left (nat_eq i j) (is_end Reading e) (other j h.1)) (and_left (nat_eq i j) (is_end Writing e) (other j h.1))
          ]
        where
          other : (j : ℕ) → j ≢ i → nat_eq i j ≡ false
          other j h = elim (eqb_tells i j) [ inl g ↦ absurd (h (sym g.1)) | inr g ↦ g.0 ]

      freed_there : freed_at e (get m i) ≡ one (is_given_up (left_with n i x))
      freed_there = ap (freed_at e) pipe_now ∙ ap (λ (y : Pipe). one (is_given_up y)) pipe_next

  fewer_pipe : (m : FinMap nat_cmp Pipe) (n : ℕ) (is : (j : ℕ) → get m j ≡ kept (option_map (left_with (suc n) j) (get s.pipes j))) (i : ℕ) (e : End)
      (eo : target n ≡ Some (Pipe_end i e)) (a : Option Pipe) → get s.pipes i ≡ a → (j : ℕ)
      → get (fewer_at i e m (get m i)) j ≡ kept (option_map (left_with n j) (get s.pipes j))
  fewer_pipe m n is i e eo (Some x) there j = fewer_there m n is i e eo x there j
  fewer_pipe m n is i e eo None there j =
      ap (λ (o : Option Pipe). get (fewer_at i e m o) j) (is i ∙ ap (λ (o : Option Pipe). kept (option_map (left_with (suc n) i) o)) there)
      ∙ elim (eqb_tells i j) [
        | inl h ↦
            let nothing : get s.pipes j ≡ None = ap (get s.pipes) (sym h.1) ∙ there in
            is j ∙ ap (λ (o : Option Pipe). kept (option_map (left_with (suc n) j) o)) nothing ∙ sym (ap (λ (o : Option Pipe). kept (option_map (left_with n j) o)) nothing)
        | inr h ↦ no_change m n is j (Some (Pipe_end i e)) eo (and_left (nat_eq i j) (is_end Reading e) h.0) (and_left (nat_eq i j) (is_end Writing e) h.0)
      ]

  fewer_step : (m : FinMap nat_cmp Pipe) (n : ℕ) (is : (j : ℕ) → get m j ≡ kept (option_map (left_with (suc n) j) (get s.pipes j))) (o : Option Target) → target n ≡ o → (j : ℕ)
      → get (fewer_on o m) j ≡ kept (option_map (left_with n j) (get s.pipes j))
  fewer_step m n is None eo j = no_change m n is j None eo refl refl
  fewer_step m n is (Some Terminal) eo j = no_change m n is j (Some Terminal) eo refl refl
  fewer_step m n is (Some (File program offset)) eo j = no_change m n is j (Some (File program offset)) eo refl refl
  fewer_step m n is (Some (Pipe_end i e)) eo j = fewer_pipe m n is i e eo (get s.pipes i) refl j

  get-fewer_down : (n : ℕ) (m : FinMap nat_cmp Pipe) → ((j : ℕ) → get m j ≡ kept (option_map (left_with n j) (get s.pipes j))) → (j : ℕ)
      → get (fewer_on_all s l n m) j ≡ kept (option_map (left_with 0 j) (get s.pipes j))
  unfolding fewer_on_all
  get-fewer_down zero m is j = is j
  get-fewer_down (suc n) m is j = get-fewer_down n (fewer_on (target n) m) (λ k. fewer_step m n is (target n) refl k) j

  -- ---- the frames that this frees

  abbrev T : Descriptors
  T = numbered s l

  abbrev pub fewer : ℕ → Pipe → Pipe
  fewer j x = parted (parted x Reading (ends T j Reading)) Writing (ends T j Writing)

  named_target : (n i : ℕ) (e : End) (g : ℕ) (r w : Bool) (y : Target) → Some y ≡ Some (Pipe_end i e)
      → names_given_up n (option_map (rename (all_closed T)) (changed fewer (descriptor_on s g (Some (record { read = r; write = w; target = y })))))
      ≡ (nat_eq (unwrap_or (least_on_pipe (all_closed T) i) i) n && is_given_up (fewer i (or_gone (get s.pipes i))))
  named_target n i e g r w Terminal h = let no : ⊥ = cc in absurd no
  named_target n i e g r w (File program offset) h = let no : ⊥ = cc in absurd no
  named_target n i e g r w (Pipe_end k f) h = let same : k ≡ i = cc in ap (λ (q : ℕ). nat_eq (unwrap_or (least_on_pipe (all_closed T) q) q) n && is_given_up (fewer q (or_gone (get s.pipes q)))) same

  named_open : (n i : ℕ) (e : End) (g : ℕ) (o : Option OpenFile) → target_of_open o ≡ Some (Pipe_end i e)
      → names_given_up n (option_map (rename (all_closed T)) (changed fewer (descriptor_on s g o))) ≡
      (nat_eq (unwrap_or (least_on_pipe (all_closed T) i) i) n && is_given_up (fewer i (or_gone (get s.pipes i))))
  named_open n i e g None h = let no : ⊥ = cc in absurd no
  named_open n i e g (Some x) h = named_target n i e g x.read x.write x.target h

  named_place : (n i : ℕ) (e : End) (o : Option ℕ) → end_of s o ≡ Some (Pipe_end i e)
      → names_given_up n (option_map (rename (all_closed T)) (changed fewer (descriptor_at s o))) ≡
      (nat_eq (unwrap_or (least_on_pipe (all_closed T) i) i) n && is_given_up (fewer i (or_gone (get s.pipes i))))
  named_place n i e None h = let no : ⊥ = cc in absurd no
  named_place n i e (Some g) h = named_open n i e g (get s.files g) h

  -- what isn't an end of a pipe names none
  unnamed_target : (n g : ℕ) (r w : Bool) (y : Target) → pipe_of_target y ≡ None
      → names_given_up n (option_map (rename (all_closed T)) (changed fewer (descriptor_on s g (Some (record { read = r; write = w; target = y }))))) ≡ false
  unnamed_target n g r w Terminal h = refl
  unnamed_target n g r w (File program offset) h = refl
  unnamed_target n g r w (Pipe_end k f) h = let no : ⊥ = cc in absurd no

  unnamed_open : (n g : ℕ) (o : Option OpenFile) → pipe_of_open o ≡ None → names_given_up n (option_map (rename (all_closed T)) (changed fewer (descriptor_on s g o))) ≡ false
  unnamed_open n g None h = refl
  unnamed_open n g (Some x) h = unnamed_target n g x.read x.write x.target h

  unnamed_place : (n : ℕ) (o : Option ℕ) → pipe_of_file s o ≡ None → names_given_up n (option_map (rename (all_closed T)) (changed fewer (descriptor_at s o))) ≡ false
  unnamed_place n None h = refl
  unnamed_place n (Some g) h = unnamed_open n g (get s.files g) h

  abbrev pipe_of : Option Target → Option ℕ
  pipe_of None = None
  pipe_of (Some y) = pipe_of_target y

  pub same_pipe_of : (o : Option ℕ) → pipe_of (end_of s o) ≡ pipe_of_file s o
  same_pipe_of None = refl
  same_pipe_of (Some g) = same_pipe_of_open (get s.files g)
    where
      same_pipe_of_open : (x : Option OpenFile) → pipe_of (target_of_open x) ≡ pipe_of_open x
      same_pipe_of_open None = refl
      same_pipe_of_open (Some x) = refl

  pub name_of_pipe : (o : Option ℕ) → pipe_name (descriptor_at s o) ≡ pipe_of_file s o
  name_of_pipe None = refl
  name_of_pipe (Some g) = of_open (get s.files g)
    where
      of_target : (y : Target) → shown_pipe_name (show s y) ≡ pipe_of_target y
      of_target Terminal = refl
      of_target (File program offset) = refl
      of_target (Pipe_end k f) = refl

      of_open : (x : Option OpenFile) → pipe_name (descriptor_on s g x) ≡ pipe_of_open x
      of_open None = refl
      of_open (Some x) = of_target x.target

  -- given up at descriptor n exactly where n is the least on the pipe and nobody else is on it
  module _ (n i : ℕ) (below : n < NOFILE) (on : pipe_of_file s (get l.descriptors n) ≡ Some i) (x : Pipe) where
    abbrev P : ℕ → Bool
    P d = is_this i (pipe_name (T d))

    passes : P n ≡ true
    passes = ap (is_this i) (name_of_pipe (get l.descriptors n) ∙ on) ∙ eq-eqb i i refl

    first_here : ((d : ℕ) → d < n → P d ≡ false) → is_given_up (left_with n i x) ≡ is_given_up (fewer i x)
    first_here none_on =
        (λ k. is_given_up (rest x (all i Reading) (all i Writing)
        (count_below-none n (λ d. on_end i Reading (T d)) (λ d b. not_on i Reading (T d) (none_on d b)) k)
        (count_below-none n (λ d. on_end i Writing (T d)) (λ d b. not_on i Writing (T d) (none_on d b)) k)))
        ∙ (let a : x.readers - all i Reading + 0 ≡ x.readers - all i Reading = omega arith in let b : x.writers - all i Writing + 0 ≡ x.writers - all i Writing = omega arith in
        λ k. nat_eq (a k) 0 && nat_eq (b k) 0)

    not_first : (d : ℕ) → d < n → P d ≡ true → is_given_up (left_with n i x) ≡ false
    not_first d b h = elim (on_an_end i (T d) h) [
      | inl r ↦
          let c = count_some n (λ q. on_end i Reading (T q)) d b r in
          and_left (nat_eq (x.readers - all i Reading + among s l n i Reading) 0) (nat_eq (x.writers - all i Writing + among s l n i Writing) 0)
          (ap (λ (q : ℕ). nat_eq (x.readers - all i Reading + q) 0) c.1 ∙ (let k : ℕ = c.0 in nonzero (x.readers - all i Reading + (k + 1)) (x.readers - all i Reading + k) (omega arith)))
      | inr w ↦
          let c = count_some n (λ q. on_end i Writing (T q)) d b w in
          and_right (nat_eq (x.readers - all i Reading + among s l n i Reading) 0) (nat_eq (x.writers - all i Writing + among s l n i Writing) 0)
          (ap (λ (q : ℕ). nat_eq (x.writers - all i Writing + q) 0) c.1 ∙ (let k : ℕ = c.0 in nonzero (x.writers - all i Writing + (k + 1)) (x.writers - all i Writing + k) (omega arith)))
    ]

    by_least : (o : Option ℕ) → least_below P NOFILE ≡ o → is_given_up (left_with n i x) ≡ (nat_eq (unwrap_or o i) n && is_given_up (fewer i x))
    by_least None e = let f : P n ≡ false = none_below P NOFILE e n below in let t : P n ≡ true = passes in let no : ⊥ = cc in absurd no
    by_least (Some k) e = elim (eqb_tells k n) [
      | inl h ↦
          let same : k ≡ n = h.1 in
          first_here (λ d b. least_least NOFILE P k e d (omega arith)) ∙ ap (λ (b : Bool). b && is_given_up (fewer i x)) (sym h.0)
      | inr h ↦
          let apart : k ≢ n = h.1 in
          let before : k < n = elim (cases_lt k n) [
            | inl b ↦ b
            | inr g ↦
                (let ge : n ≤ k = g in let q : n < k = omega arith in let f : P n ≡ false = least_least NOFILE P k e n q in
                let t : P n ≡ true = passes in let no : ⊥ = cc in absurd no)
          ] in
          not_first k before ((least_passes NOFILE P k e).0) ∙ ap (λ (b : Bool). b && is_given_up (fewer i x)) (sym h.0)
    ]

    least_closed : least_on_pipe (all_closed T) i ≡ least_below P NOFILE
    least_closed = λ k. least_below (λ d. is_this i (pipe_name_kept fewer (T d) k)) NOFILE

    pub given_up_here : is_given_up (left_with n i x) ≡ (nat_eq (unwrap_or (least_on_pipe (all_closed T) i) i) n && is_given_up (fewer i x))
    given_up_here = by_least (least_below P NOFILE) refl ∙ ap (λ (o : Option ℕ). nat_eq (unwrap_or o i) n && is_given_up (fewer i x)) (sym least_closed)

  module _ (there : (d j : ℕ) → pipe_of_file s (get l.descriptors d) ≡ Some j → (x : Pipe) × (get s.pipes j ≡ Some x)) where
    table_at : (n : ℕ) → n < NOFILE → named (all_closed T) n ≡ option_map (rename (all_closed T)) (changed fewer (T n))
    table_at n below = named_at (all_closed T) n below

    freed_step : (m : FinMap nat_cmp Pipe) (n : ℕ) → n < NOFILE → (is : (j : ℕ) → get m j ≡ kept (option_map (left_with (suc n) j) (get s.pipes j))) (o : Option Target) → target n ≡ o
        → freed_on o m ≡ one (names_given_up n (named (all_closed T) n))
    freed_step m n below is None eo = sym (ap one (ap (names_given_up n) (table_at n below) ∙ unnamed_place n (get l.descriptors n) (sym (same_pipe_of (get l.descriptors n)) ∙ ap pipe_of eo)))
    freed_step m n below is (Some Terminal) eo = sym (ap one
        (ap (names_given_up n) (table_at n below) ∙ unnamed_place n (get l.descriptors n) (sym (same_pipe_of (get l.descriptors n)) ∙ ap pipe_of eo)))
    freed_step m n below is (Some (File program offset)) eo =
        sym (ap one (ap (names_given_up n) (table_at n below)
        ∙ unnamed_place n (get l.descriptors n) (sym (same_pipe_of (get l.descriptors n)) ∙ ap pipe_of eo)))
    freed_step m n below is (Some (Pipe_end i e)) eo =
        let on : pipe_of_file s (get l.descriptors n) ≡ Some i = sym (same_pipe_of (get l.descriptors n)) ∙ ap pipe_of eo in
        let x = there n i on in
        freed_there m n is i e eo x.0 x.1
        ∙ ap one (given_up_here n i below on x.0 ∙ ap (λ (o : Option Pipe). nat_eq (unwrap_or (least_on_pipe (all_closed T) i) i) n && is_given_up (fewer i (or_gone o))) (sym x.1))
        ∙ sym (ap one (ap (names_given_up n) (table_at n below) ∙ named_place n i e (get l.descriptors n) eo))

    freed_down : (n : ℕ) → n ≤ NOFILE → (m : FinMap nat_cmp Pipe) → ((j : ℕ) → get m j ≡ kept (option_map (left_with n j) (get s.pipes j)))
        → freed_on_all s l n m ≡ count_below (λ d. names_given_up d (named (all_closed T) d)) n
    unfolding freed_on_all count_below
    freed_down zero below m is = refl
    freed_down (suc n) below m is = λ i. freed_down n (omega arith) (fewer_on (target n) m) (λ k. fewer_step m n is (target n) refl k) i + freed_step m n (omega arith) is (target n) refl i

    -- ---- all of it, where each pipe has at least the counts of the process's own descriptors

    module _ (holds : (j : ℕ) (x : Pipe) → get s.pipes j ≡ Some x → (all j Reading ≤ x.readers) × (all j Writing ≤ x.writers) × (is_given_up x ≡ false)) where
      start : (j : ℕ) (o : Option Pipe) → get s.pipes j ≡ o → o ≡ kept (option_map (left_with NOFILE j) o)
      start j None e = refl
      start j (Some x) e =
          let h = holds j x e in
          let a : ℕ = all j Reading in let b : ℕ = all j Writing in
          let ha : a ≤ x.readers = h.0 in let hb : b ≤ x.writers = h.1 in
          let r : x.readers ≡ x.readers - a + a = omega arith in let w : x.writers ≡ x.writers - b + b = omega arith in
          sym (ap (λ (q : Bool). cond q None (Some x)) (h.2)) ∙ (λ i. kept (Some (record x { readers = r i; writers = w i })))

      closed_pipe : (x : Pipe) (j : ℕ) → left_with 0 j x ≡ fewer j x
      unfolding count_below
      closed_pipe x j =
          let a : ℕ = all j Reading in let b : ℕ = all j Writing in
          let r : x.readers - a + 0 ≡ x.readers - a = omega arith in let w : x.writers - b + 0 ≡ x.writers - b = omega arith in
          λ i. record x { readers = r i; writers = w i }

      -- each pipe after all descriptors are closed
      pub get-fewer_on_all : (j : ℕ) → get (fewer_on_all s l NOFILE s.pipes) j ≡ kept (option_map (fewer j) (get s.pipes j))
      get-fewer_on_all j = get-fewer_down NOFILE s.pipes (λ k. start k (get s.pipes k) refl) j ∙ by (get s.pipes j)
        where
          by : (o : Option Pipe) → kept (option_map (left_with 0 j) o) ≡ kept (option_map (fewer j) o)
          by None = refl
          by (Some x) = ap (λ (y : Pipe). kept (Some y)) (closed_pipe x j)

      pub freed_is : freed_on_all s l NOFILE s.pipes ≡ pipes_given_up (all_closed (named T))
      freed_is = freed_down NOFILE (omega arith) s.pipes (λ k. start k (get s.pipes k) refl) ∙ ap pipes_given_up (named_all_closed T)
