-- What another process sees of a step: its table, where the step told the open files and the pipes that both name, and spared all others.
use Rattle.kernel_spec.proofs.Prelude.{ℕ, ◌<◌, ◌∙◌, ◌≡◌, ◌≢◌, ap, Bool, cond, Descriptor, Descriptors, eq-eqb, eqb-true, false, File, file_at, file_name, fun_ext, get, is_same, is_this, least_below}
use Rattle.kernel_spec.proofs.Prelude.{least_on_file, least_on_pipe, Live, live, meets_on_file, meets_on_pipe, named, nat_eq, nat_lt, NOFILE, None, none_below, numbered, OpenFile, Option, option_map}
use Rattle.kernel_spec.proofs.Prelude.{or_gone, Pipe, pipe_at, Pipe_end, pipe_name, pipe_of_target, refl, rename, rename_shown, seen_shown, seen_table, show, Shown_file, Shown_pipe, Some, State, sym}
use Rattle.kernel_spec.proofs.Prelude.{Target, Terminal, true, unwrap_or}
use Rattle.kernel_spec.proofs.steps.SeenByParts.{file_of, pipe_of_file, pipe_of_open, left_at, offset_left, pipe_left, seen_descriptor, descriptor_at, descriptor_on}
use Rattle.kernel_spec.proofs.steps.LeastPasses.{least_passes}

-- another process than p names the open file, is on the pipe
abbrev pub OtherNames : State → ℕ → ℕ → Type 0
OtherNames s p f = (q : ℕ) × (d : ℕ) × (q ≢ p) × (file_at s q d ≡ Some f)

abbrev pub OtherHas : State → ℕ → ℕ → Type 0
OtherHas s p j = (q : ℕ) × (d : ℕ) × (q ≢ p) × (pipe_at s q d ≡ Some j)

abbrev pub target_offset : ℕ → Target → ℕ
target_offset n Terminal = n
target_offset n (File program offset) = offset
target_offset n (Pipe_end pipe end) = n

abbrev pub open_offset : ℕ → Option OpenFile → ℕ
open_offset n None = n
open_offset n (Some f) = target_offset n f.target

abbrev pub start_target : Target → Target
start_target Terminal = Terminal
start_target (File program offset) = File program 0
start_target (Pipe_end pipe end) = Pipe_end pipe end

-- an open file but for its offset
abbrev pub kind : Option OpenFile → Option OpenFile
kind None = None
kind (Some f) = Some (record f { target = start_target f.target })

-- it is on the same pipe
pub kind_pipe : (o : Option OpenFile) → pipe_of_open (kind o) ≡ pipe_of_open o
kind_pipe None = refl
kind_pipe (Some f) = by f.target
  where
    by : (x : Target) → pipe_of_target (start_target x) ≡ pipe_of_target x
    by Terminal = refl
    by (File program offset) = refl
    by (Pipe_end pipe end) = refl

-- of what another process names too: the open files and pipes that p names are, after the step, as this table has them
pub record Tells (s t : State) (p : ℕ) (left : Descriptors) : Type 0 where
  pub offset : (e f n : ℕ) → OtherNames s p f → e < NOFILE → file_at s p e ≡ Some f → offset_left n (left e) ≡ open_offset n (get t.files f)
  pub pipe : (e j : ℕ) (x : Pipe) → OtherHas s p j → e < NOFILE → pipe_at s p e ≡ Some j → pipe_left x (left e) ≡ or_gone (get t.pipes j)

-- and all others are as before
pub record Spares (s t : State) (p : ℕ) : Type 0 where
  pub file : (f : ℕ) → OtherNames s p f → ((e : ℕ) → e < NOFILE → file_at s p e ≢ Some f) → get t.files f ≡ get s.files f
  pub pipe : (j : ℕ) → OtherHas s p j → ((e : ℕ) → e < NOFILE → pipe_at s p e ≢ Some j) → get t.pipes j ≡ get s.pipes j
  pub kinds : (f : ℕ) → OtherNames s p f → kind (get t.files f) ≡ kind (get s.files f)

same_is : (a b : Option ℕ) (n : ℕ) → is_same a b ≡ true → a ≡ Some n → b ≡ Some n
same_is None b n h e = let no : ⊥ = cc in absurd no
same_is (Some a) None n h e = let no : ⊥ = cc in absurd no
same_is (Some a) (Some b) n h e = let f : b ≡ a = eqb-true b a h in cc

is_same_itself : (a b : Option ℕ) (n : ℕ) → is_same a b ≡ false → a ≡ Some n → b ≢ Some n
is_same_itself None b n h e g = let no : ⊥ = cc in no
is_same_itself (Some a) None n h e g = let no : ⊥ = cc in no
is_same_itself (Some a) (Some b) n h e g = let f : b ≡ a = cc in let k : nat_eq b a ≡ true = eq-eqb b a f in let no : ⊥ = cc in no

shown_name : (s : State) (x : Target) → pipe_name (Some (record { file = 0; read = true; write = true; shown = show s x })) ≡ pipe_of_target x
shown_name s Terminal = refl
shown_name s (File program offset) = refl
shown_name s (Pipe_end pipe end) = refl

start_name : (x : Target) → pipe_of_target x ≡ pipe_of_target (start_target x)
start_name Terminal = refl
start_name (File program offset) = refl
start_name (Pipe_end pipe end) = refl

pipe_name_on : (s : State) (file : ℕ) (f : Option OpenFile) → pipe_name (descriptor_on s file f) ≡ pipe_of_open (kind f)
pipe_name_on s file None = refl
pipe_name_on s file (Some f) = shown_name s f.target ∙ start_name f.target

file_name_on : (s : State) (file : ℕ) (f : Option OpenFile) → file_name (descriptor_on s file f) ≡ option_map (λ x. file) (kind f)
file_name_on s file None = refl
file_name_on s file (Some f) = refl

abbrev read_of : Option OpenFile → Bool
read_of None = true
read_of (Some f) = f.read

abbrev write_of : Option OpenFile → Bool
write_of None = true
write_of (Some f) = f.write

abbrev target_of : Option OpenFile → Target
target_of None = Terminal
target_of (Some f) = f.target

module _ (s t : State) (p q : ℕ) (left : Descriptors) (told : Tells s t p left) (spared : Spares s t p) (m : Live) (is : live s q ≡ Some m) (apart : q ≢ p) where
  at_file : (d f : ℕ) → get m.descriptors d ≡ Some f → file_at s q d ≡ Some f
  at_file d f e = ap (λ (l : Option Live). file_of l d) is ∙ e

  same_kind : (d f : ℕ) → get m.descriptors d ≡ Some f → kind (get t.files f) ≡ kind (get s.files f)
  same_kind d f e = spared.kinds f (q, d, apart, at_file d f e)

  same_file_name : (d : ℕ) (o : Option ℕ) → get m.descriptors d ≡ o → file_name (descriptor_at t o) ≡ file_name (descriptor_at s o)
  same_file_name d None e = refl
  same_file_name d (Some f) e = file_name_on t f (get t.files f) ∙ ap (option_map (λ (x : OpenFile). f)) (same_kind d f e) ∙ sym (file_name_on s f (get s.files f))

  same_pipe_name : (d : ℕ) (o : Option ℕ) → get m.descriptors d ≡ o → pipe_name (descriptor_at t o) ≡ pipe_name (descriptor_at s o)
  same_pipe_name d None e = refl
  same_pipe_name d (Some f) e = pipe_name_on t f (get t.files f) ∙ ap pipe_of_open (same_kind d f e) ∙ sym (pipe_name_on s f (get s.files f))

  same_least_file : (name : ℕ) → least_on_file (numbered t m) name ≡ least_on_file (numbered s m) name
  same_least_file name = λ i. least_below (λ d. is_this name (same_file_name d (get m.descriptors d) refl i)) NOFILE

  same_least_pipe : (name : ℕ) → least_on_pipe (numbered t m) name ≡ least_on_pipe (numbered s m) name
  same_least_pipe name = λ i. least_below (λ d. is_this name (same_pipe_name d (get m.descriptors d) refl i)) NOFILE

  -- the offset, whether p names the open file or not
  offset_met : (d f n : ℕ) → file_at s q d ≡ Some f → (k : Option ℕ) → meets_on_file s p q d ≡ k → n ≡ open_offset n (get s.files f) → offset_left n (left_at left k) ≡ open_offset n (get t.files f)
  offset_met d f n here (Some e) meets own =
      let found = least_passes NOFILE (λ e. is_same (file_at s q d) (file_at s p e)) e meets in
      told.offset e f n (q, d, apart, here) found.1 (same_is (file_at s q d) (file_at s p e) f found.0 here)
  offset_met d f n here None meets own =
      own ∙ ap (open_offset n) (sym (spared.file f (q, d, apart, here)
      (λ e below. is_same_itself (file_at s q d) (file_at s p e) f (none_below (λ e. is_same (file_at s q d) (file_at s p e)) NOFILE meets e below) here)))

  pipe_met : (d j : ℕ) (x : Pipe) → pipe_at s q d ≡ Some j → (k : Option ℕ) → meets_on_pipe s p q d ≡ k → x ≡ or_gone (get s.pipes j) → pipe_left x (left_at left k) ≡ or_gone (get t.pipes j)
  pipe_met d j x here (Some e) meets own =
      let found = least_passes NOFILE (λ e. is_same (pipe_at s q d) (pipe_at s p e)) e meets in
      told.pipe e j x (q, d, apart, here) found.1 (same_is (pipe_at s q d) (pipe_at s p e) j found.0 here)
  pipe_met d j x here None meets own =
      own ∙ ap or_gone (sym (spared.pipe j (q, d, apart, here)
      (λ e below. is_same_itself (pipe_at s q d) (pipe_at s p e) j (none_below (λ e. is_same (pipe_at s q d) (pipe_at s p e)) NOFILE meets e below) here)))

  f_met : ℕ → Option Descriptor
  f_met d = left_at left (meets_on_file s p q d)

  p_met : ℕ → Option Descriptor
  p_met d = left_at left (meets_on_pipe s p q d)

  shown_case : (d f : ℕ) (r w r' w' : Bool) (x y : Target) → file_at s q d ≡ Some f
      → get s.files f ≡ Some (record { read = r; write = w; target = x }) → get t.files f ≡ Some (record { read = r'; write = w'; target = y })
      → start_target y ≡ start_target x
      → seen_shown (f_met d) (p_met d) (rename_shown (numbered s m) (show s x)) ≡ rename_shown (numbered t m) (show t y)
  unfolding f_met p_met
  shown_case d f r w r' w' Terminal Terminal here was becomes kind = refl
  shown_case d f r w r' w' (File g n) (File h k) here was becomes kind =
      let same : h ≡ g = cc in
      let off : offset_left n (left_at left (meets_on_file s p q d)) ≡ k =
      offset_met d f n here (meets_on_file s p q d) refl (sym (ap (open_offset n) was)) ∙ ap (open_offset n) becomes in
      λ i. Shown_file (sym same i) (off i)
  shown_case d f r w r' w' (Pipe_end j e) (Pipe_end k g) here was becomes kind =
      let same : j ≡ k = cc in
      let end : e ≡ g = cc in
      let on : pipe_at s q d ≡ Some j = ap (pipe_of_file s) here ∙ ap pipe_of_open was in
      let left_x : pipe_left (or_gone (get s.pipes j)) (left_at left (meets_on_pipe s p q d)) ≡ or_gone (get t.pipes j) =
      pipe_met d j (or_gone (get s.pipes j)) on (meets_on_pipe s p q d) refl refl in
      (λ i. Shown_pipe (unwrap_or (sym (same_least_pipe j) i) j) e (left_x i)) ∙ (λ i. Shown_pipe (unwrap_or (least_on_pipe (numbered t m) (same i)) (same i)) (end i) (or_gone (get t.pipes (same i))))
  shown_case d f r w r' w' Terminal (File h k) here was becomes kind = let no : ⊥ = cc in absurd no
  shown_case d f r w r' w' Terminal (Pipe_end k g) here was becomes kind = let no : ⊥ = cc in absurd no
  shown_case d f r w r' w' (File g n) Terminal here was becomes kind = let no : ⊥ = cc in absurd no
  shown_case d f r w r' w' (File g n) (Pipe_end k h) here was becomes kind = let no : ⊥ = cc in absurd no
  shown_case d f r w r' w' (Pipe_end j e) Terminal here was becomes kind = let no : ⊥ = cc in absurd no
  shown_case d f r w r' w' (Pipe_end j e) (File h k) here was becomes kind = let no : ⊥ = cc in absurd no

  open_case : (d f : ℕ) (a b : Option OpenFile) → file_at s q d ≡ Some f → get s.files f ≡ a → get t.files f ≡ b → kind b ≡ kind a
      → seen_descriptor (f_met d) (p_met d) (option_map (rename (numbered s m)) (descriptor_on s f a)) ≡ option_map (rename (numbered t m)) (descriptor_on t f b)
  open_case d f None None here was becomes kinds = refl
  open_case d f None (Some b) here was becomes kinds = let no : ⊥ = cc in absurd no
  open_case d f (Some a) None here was becomes kinds = let no : ⊥ = cc in absurd no
  open_case d f (Some a) (Some b) here was becomes kinds =
      let reads : a.read ≡ b.read = sym (ap read_of kinds) in
      let writes : a.write ≡ b.write = sym (ap write_of kinds) in
      let starts : start_target b.target ≡ start_target a.target = ap target_of kinds in
      let shows = shown_case d f a.read a.write b.read b.write a.target b.target here was becomes starts in
      λ i. Some (record { file = unwrap_or (sym (same_least_file f) i) f; read = reads i; write = writes i; shown = shows i })

  number_case : (d : ℕ) (o : Option ℕ) → get m.descriptors d ≡ o
      → seen_descriptor (f_met d) (p_met d) (option_map (rename (numbered s m)) (descriptor_at s o)) ≡ option_map (rename (numbered t m)) (descriptor_at t o)
  number_case d None e = refl
  number_case d (Some f) e = open_case d f (get s.files f) (get t.files f) (at_file d f e) refl refl (same_kind d f e)

  range_case : (d : ℕ) (b : Bool) → seen_descriptor (f_met d) (p_met d) (cond b (option_map (rename (numbered s m)) (numbered s m d)) None) ≡ cond b
      (option_map (rename (numbered t m)) (numbered t m d)) None
  range_case d true = number_case d (get m.descriptors d) refl
  range_case d false = refl

  -- what q sees
  pub seen_table_is : seen_table s p q left (named (numbered s m)) ≡ named (numbered t m)
  unfolding named f_met p_met
  seen_table_is = fun_ext (λ d. range_case d (nat_lt d NOFILE))
