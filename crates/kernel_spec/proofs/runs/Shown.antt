-- What the view of a process tells of its descriptors: which are in use, which are ends of pipes, and which are on the same open file and the same pipe.
use Rattle.kernel_spec.proofs.Prelude.{ℕ, ◌∙◌, ◌≡◌, ap, AreShown, Bool, cond, Descriptor, Descriptors, false, File, file_at, file_name, get, is_same, is_some, IsSome, Live, live, lt-ltb, ltb-true}
use Rattle.kernel_spec.proofs.Prelude.{named, nat_lt, NOFILE, None, numbered, OpenFile, Option, option_map, pipe_at, Pipe_end, pipe_name, pipe_of_target, refl, rename, show, shown_pipe_name, Some}
use Rattle.kernel_spec.proofs.Prelude.{State, sym, Target, Terminal, true, View, view, view_of}
use Rattle.kernel_spec.proofs.steps.SeenByParts.{file_of, pipe_of_file, pipe_of_open, descriptor_at, descriptor_on}
use Rattle.kernel_spec.proofs.steps.NamesAreChosenAgain.{alike_named}
use Rattle.kernel_spec.proofs.calls.Tables.{is_end, named_same}
use Rattle.kernel_spec.proofs.Common.{none_is_same}

-- a descriptor of the view, if there is one
abbrev pub shown_at : Option View → ℕ → Option Descriptor
shown_at None d = None
shown_at (Some v) d = v.descriptors d

-- ---- under the kernel's own numbers

target_number : (s : State) (x : Target) → shown_pipe_name (show s x) ≡ pipe_of_target x
target_number s Terminal = refl
target_number s (File program offset) = refl
target_number s (Pipe_end pipe end) = refl

pipe_number : (s : State) (l : Live) (d : ℕ) → pipe_name (numbered s l d) ≡ pipe_of_file s (get l.descriptors d)
pipe_number s l d = by (get l.descriptors d)
  where
    on : (f : ℕ) (o : Option OpenFile) → pipe_name (descriptor_on s f o) ≡ pipe_of_open o
    on f None = refl
    on f (Some x) = target_number s x.target

    by : (o : Option ℕ) → pipe_name (descriptor_at s o) ≡ pipe_of_file s o
    by None = refl
    by (Some f) = on f (get s.files f)

name_some : (o : Option Descriptor) → is_some (file_name o) ≡ is_some o
name_some None = refl
name_some (Some x) = refl

named_above : (t : Descriptors) (d : ℕ) → nat_lt d NOFILE ≡ false → named t d ≡ None
unfolding named
named_above t d e = ap (λ (b : Bool). cond b (option_map (rename t) (t d)) None) e

module _ (s : State) (shown : AreShown s) (p : ℕ) (l : Live) (is : live s p ≡ Some l) where
  abbrev t : Descriptors
  t = numbered s l

  abbrev file : ℕ → Option ℕ
  file d = get l.descriptors d

  its_file : (d : ℕ) → file_at s p d ≡ file d
  its_file d = ap (λ (o : Option Live). file_of o d) is

  file_number : (d : ℕ) → file_name (t d) ≡ file d
  file_number d = by (file d) refl
    where
      on : (f : ℕ) (o : Option OpenFile) → IsSome o → file_name (descriptor_on s f o) ≡ Some f
      on f None h = let no : ⊥ = cc in absurd no
      on f (Some x) h = refl

      by : (o : Option ℕ) → file d ≡ o → file_name (descriptor_at s o) ≡ o
      by None e = refl
      by (Some f) e = on f (get s.files f) (shown p d f (its_file d ∙ e)).1

  -- no descriptor in use is above
  file_above : (d : ℕ) → nat_lt d NOFILE ≡ false → file d ≡ None
  file_above d above = by (file d) refl
    where
      by : (o : Option ℕ) → file d ≡ o → o ≡ None
      by None e = refl
      by (Some f) e = let no : true ≡ false = sym (lt-ltb d NOFILE (shown p d f (its_file d ∙ e)).0) ∙ above in let bad : ⊥ = cc in absurd bad

  by_bound : (d : ℕ) (b : Bool) → nat_lt d NOFILE ≡ b → is_some (named t d) ≡ is_some (file d)
  by_bound d true below = (named_same t d (ltb-true d NOFILE below)).0 ∙ sym (name_some (t d)) ∙ ap is_some (file_number d)
  by_bound d false above = ap is_some (named_above t d above) ∙ sym (ap is_some (file_above d above))

  end_by_bound : (d : ℕ) (b : Bool) → nat_lt d NOFILE ≡ b → is_end (named t d) ≡ is_some (pipe_of_file s (file d))
  end_by_bound d true below = (named_same t d (ltb-true d NOFILE below)).1 ∙ ap is_some (pipe_number s l d)
  end_by_bound d false above = ap is_end (named_above t d above) ∙ sym (ap (λ (o : Option ℕ). is_some (pipe_of_file s o)) (file_above d above))

  file_pair : (d e : ℕ) (a b : Bool) → nat_lt d NOFILE ≡ a → nat_lt e NOFILE ≡ b → is_same (file_name (named t d)) (file_name (named t e)) ≡ is_same (file d) (file e)
  file_pair d e true true x y = (alike_named t).files d e (ltb-true d NOFILE x) (ltb-true e NOFILE y) ∙ (λ i. is_same (file_number d i) (file_number e i))
  file_pair d e false b x y = ap (λ (o : Option Descriptor). is_same (file_name o) (file_name (named t e))) (named_above t d x) ∙ sym (ap (λ (o : Option ℕ). is_same o (file e)) (file_above d x))
  file_pair d e true false x y =
      ap (λ (o : Option Descriptor). is_same (file_name (named t d)) (file_name o)) (named_above t e y) ∙ none_is_same (file_name (named t d))
      ∙ sym (ap (λ (o : Option ℕ). is_same (file d) o) (file_above e y) ∙ none_is_same (file d))

  pipe_pair : (d e : ℕ) (a b : Bool) → nat_lt d NOFILE ≡ a → nat_lt e NOFILE ≡ b → is_same (pipe_name (named t d)) (pipe_name (named t e)) ≡ is_same (pipe_of_file s (file d)) (pipe_of_file s (file e))
  pipe_pair d e true true x y = (alike_named t).pipes d e (ltb-true d NOFILE x) (ltb-true e NOFILE y) ∙ (λ i. is_same (pipe_number s l d i) (pipe_number s l e i))
  pipe_pair d e false b x y = ap (λ (o : Option Descriptor). is_same (pipe_name o) (pipe_name (named t e))) (named_above t d x)
      ∙ sym (ap (λ (o : Option ℕ). is_same (pipe_of_file s o) (pipe_of_file s (file e))) (file_above d x))
  pipe_pair d e true false x y =
      ap (λ (o : Option Descriptor). is_same (pipe_name (named t d)) (pipe_name o)) (named_above t e y) ∙ none_is_same (pipe_name (named t d))
      ∙ sym (ap (λ (o : Option ℕ). is_same (pipe_of_file s (file d)) (pipe_of_file s o)) (file_above e y) ∙ none_is_same (pipe_of_file s (file d)))

-- ---- of any process

module _ (s : State) (shown : AreShown s) (p : ℕ) where
  -- which descriptors are in use
  pub file_seen : (d : ℕ) → is_some (shown_at (view s p) d) ≡ is_some (file_at s p d)
  unfolding view_of
  file_seen d = by (live s p) refl
    where
      by : (o : Option Live) → live s p ≡ o → is_some (shown_at (option_map (view_of s p) o) d) ≡ is_some (file_of o d)
      by None e = refl
      by (Some l) e = by_bound s shown p l e d (nat_lt d NOFILE) refl

  -- which are ends of pipes
  pub pipe_seen : (d : ℕ) → is_end (shown_at (view s p) d) ≡ is_some (pipe_at s p d)
  unfolding view_of
  pipe_seen d = by (live s p) refl
    where
      by : (o : Option Live) → live s p ≡ o → is_end (shown_at (option_map (view_of s p) o) d) ≡ is_some (pipe_of_file s (file_of o d))
      by None e = refl
      by (Some l) e = end_by_bound s shown p l e d (nat_lt d NOFILE) refl

  -- which are on the same open file
  pub file_within : (d e : ℕ) → is_same (file_name (shown_at (view s p) d)) (file_name (shown_at (view s p) e)) ≡ is_same (file_at s p d) (file_at s p e)
  unfolding view_of
  file_within d e = by (live s p) refl
    where
      by : (o : Option Live) → live s p ≡ o → is_same (file_name (shown_at (option_map (view_of s p) o) d)) (file_name (shown_at (option_map (view_of s p) o) e)) ≡ is_same (file_of o d) (file_of o e)
      by None x = refl
      by (Some l) x = file_pair s shown p l x d e (nat_lt d NOFILE) (nat_lt e NOFILE) refl refl

  -- and on the same pipe
  pub pipe_within : (d e : ℕ) → is_same (pipe_name (shown_at (view s p) d)) (pipe_name (shown_at (view s p) e)) ≡ is_same (pipe_at s p d) (pipe_at s p e)
  unfolding view_of
  pipe_within d e = by (live s p) refl
    where
      by : (o : Option Live) → live s p ≡ o → is_same (pipe_name (shown_at (option_map (view_of s p) o) d))
          (pipe_name (shown_at (option_map (view_of s p) o) e)) ≡ is_same (pipe_of_file s (file_of o d)) (pipe_of_file s (file_of o e))
      by None x = refl
      by (Some l) x = pipe_pair s shown p l x d e (nat_lt d NOFILE) (nat_lt e NOFILE) refl refl
