-- One pipe changes: what names and views are then.
use Rattle.kernel_spec.proofs.Prelude.{ℕ, ◌<◌, ◌∙◌, ◌≡◌, ap, Bool, change_pipe, change_shown, changed, cond, Descriptor, Descriptors, eq-eqb, eqb_tells, false, File, file_name, fun_ext, get, inl, inr}
use Rattle.kernel_spec.proofs.Prelude.{is_some, is_this, least_below, least_on_file, least_on_pipe, Live, ltb-true, named, nat_eq, nat_lt, NOFILE, None, none_below, numbered, OpenFile, Option}
use Rattle.kernel_spec.proofs.Prelude.{option_map, or_gone, Pipe, Pipe_end, pipe_name, refl, rename, rename_shown, set_pipe, show, Shown, Shown_file, Shown_pipe, Shown_terminal, Some, State, sym}
use Rattle.kernel_spec.proofs.Prelude.{Target, Terminal, true, unwrap_or}
use Rattle.kernel_spec.proofs.steps.SeenByParts.{descriptor_at, descriptor_on}
use Rattle.kernel_spec.proofs.steps.MapsAfterChange.{get_at}
use Rattle.kernel_spec.proofs.steps.LeastPasses.{least_passes}
use Rattle.kernel_spec.proofs.Common.{this_is}

pub file_name_kept : (f : ℕ → Pipe → Pipe) (d : Option Descriptor) → file_name (changed f d) ≡ file_name d
file_name_kept f None = refl
file_name_kept f (Some d) = refl

shown_name_kept : (f : ℕ → Pipe → Pipe) (x : Shown)
    → pipe_name (Some (record { file = 0; read = true; write = true; shown = change_shown f x })) ≡ pipe_name
    (Some (record { file = 0; read = true; write = true; shown = x }))
shown_name_kept f Shown_terminal = refl
shown_name_kept f (Shown_file program offset) = refl
shown_name_kept f (Shown_pipe name end pipe) = refl

pub pipe_name_kept : (f : ℕ → Pipe → Pipe) (d : Option Descriptor) → pipe_name (changed f d) ≡ pipe_name d
pipe_name_kept f None = refl
pipe_name_kept f (Some d) = shown_name_kept f d.shown

-- ---- the pipe named i in t is named k after the descriptors chose the names anew

module _ (t : Descriptors) (i k : ℕ) (g : Pipe) (is : least_on_pipe t i ≡ Some k) where
  least_file : (name : ℕ) → least_on_file (change_pipe i g t) name ≡ least_on_file t name
  least_file name = λ j. least_below (λ d. is_this name (file_name_kept (λ n pipe. cond (nat_eq n i) g pipe) (t d) j)) NOFILE

  least_pipe : (name : ℕ) → least_on_pipe (change_pipe i g t) name ≡ least_on_pipe t name
  least_pipe name = λ j. least_below (λ d. is_this name (pipe_name_kept (λ n pipe. cond (nat_eq n i) g pipe) (t d) j)) NOFILE

  on_k : pipe_name (t k) ≡ Some i
  on_k = this_is i (pipe_name (t k)) (least_passes NOFILE (λ d. is_this i (pipe_name (t d))) k is).0

  -- a pipe that some descriptor is on is named k exactly if it is i
  found : (j : ℕ) (o : Option ℕ) → least_on_pipe t j ≡ o → (d : ℕ) → d < NOFILE → pipe_name (t d) ≡ Some j → nat_eq (unwrap_or o j) k ≡ nat_eq j i
  found j None e d below on =
      let no_pass : is_this j (pipe_name (t d)) ≡ false = none_below (λ x. is_this j (pipe_name (t x))) NOFILE e d below in
      let pass : is_this j (pipe_name (t d)) ≡ true = ap (is_this j) on ∙ eq-eqb j j refl in
      let no : ⊥ = cc in absurd no
  found j (Some h) e d below on =
      let on_h : pipe_name (t h) ≡ Some j = this_is j (pipe_name (t h)) (least_passes NOFILE (λ x. is_this j (pipe_name (t x))) h e).0 in
      elim (eqb_tells j i) [
        | inl same ↦
            let eq : least_on_pipe t j ≡ least_on_pipe t i = ap (least_on_pipe t) same.1 in
            let hk : h ≡ k = cc in
            eq-eqb h k hk ∙ sym same.0
        | inr apart ↦ elim (eqb_tells h k) [
          | inl same ↦ let ok : pipe_name (t k) ≡ Some i = on_k in let m : pipe_name (t h) ≡ pipe_name (t k) = ap (λ (x : ℕ). pipe_name (t x)) same.1 in let ji : j ≡ i = cc in absurd (apart.1 ji)
          | inr other ↦ other.0 ∙ sym apart.0
        ]
      ]

  shown_renamed : (d : ℕ) → d < NOFILE → (x : Shown) → pipe_name (t d) ≡ pipe_name (Some (record { file = 0; read = true; write = true; shown = x }))
      → rename_shown (change_pipe i g t) (change_shown (λ n pipe. cond (nat_eq n i) g pipe) x) ≡ change_shown (λ n pipe. cond (nat_eq n k) g pipe) (rename_shown t x)
  shown_renamed d below Shown_terminal on = refl
  shown_renamed d below (Shown_file program offset) on = refl
  shown_renamed d below (Shown_pipe j end pipe) on =
      λ x. Shown_pipe (unwrap_or (least_pipe j x) j) end (cond (sym (found j (least_on_pipe t j) refl d below on) x) g pipe)

  renamed : (d : ℕ) → d < NOFILE → (o : Option Descriptor) → t d ≡ o
      → option_map (rename (change_pipe i g t)) (changed (λ n pipe. cond (nat_eq n i) g pipe) o) ≡ changed (λ n pipe. cond (nat_eq n k) g pipe) (option_map (rename t) o)
  renamed d below None e = refl
  renamed d below (Some x) e = λ j. Some (record x { file = unwrap_or (least_file x.file j) x.file; shown = shown_renamed d below x.shown (ap pipe_name e) j })

  in_table : (d : ℕ) (b : Bool) → nat_lt d NOFILE ≡ b
      → cond b (option_map (rename (change_pipe i g t)) (change_pipe i g t d)) None ≡ changed (λ n pipe. cond (nat_eq n k) g pipe)
      (cond b (option_map (rename t) (t d)) None)
  in_table d true e = renamed d (ltb-true d NOFILE e) (t d) refl
  in_table d false e = refl

  pub named_change : named (change_pipe i g t) ≡ change_pipe k g (named t)
  unfolding named
  named_change = fun_ext (λ d. in_table d (nat_lt d NOFILE) refl)

-- ---- a state's pipe is replaced

shown_set : (s : State) (i : ℕ) (x : Pipe) (y : Target) → show (set_pipe i x s) y ≡ change_shown (λ n pipe. cond (nat_eq n i) x pipe) (show s y)
shown_set s i x Terminal = refl
shown_set s i x (File program offset) = refl
shown_set s i x (Pipe_end j e) = λ k. Shown_pipe j e ((ap or_gone (get_at s.pipes i x j) ∙ new_at (nat_eq j i)) k)
  where
    new_at : (b : Bool) → or_gone (cond b (Some x) (get s.pipes j)) ≡ cond b x (or_gone (get s.pipes j))
    new_at true = refl
    new_at false = refl

open_set : (s : State) (i : ℕ) (x : Pipe) (f : ℕ) (o : Option OpenFile) → descriptor_on (set_pipe i x s) f o ≡ changed (λ n pipe. cond (nat_eq n i) x pipe) (descriptor_on s f o)
open_set s i x f None = refl
open_set s i x f (Some y) = λ k. Some (record { file = f; read = y.read; write = y.write; shown = shown_set s i x y.target k })

number_set : (s : State) (i : ℕ) (x : Pipe) (o : Option ℕ) → descriptor_at (set_pipe i x s) o ≡ changed (λ n pipe. cond (nat_eq n i) x pipe) (descriptor_at s o)
number_set s i x None = refl
number_set s i x (Some f) = open_set s i x f (get s.files f)

pub numbered_set : (s : State) (i : ℕ) (x : Pipe) (l : Live) → numbered (set_pipe i x s) l ≡ change_pipe i x (numbered s l)
numbered_set s i x l = fun_ext (λ d. number_set s i x (get l.descriptors d))

-- ---- a pipe that a descriptor is on has a least descriptor

pub least_there : (t : Descriptors) (i d : ℕ) → d < NOFILE → pipe_name (t d) ≡ Some i → (k : Option ℕ) → least_on_pipe t i ≡ k → is_some k ≡ true
least_there t i d below on None e =
    let no_pass : is_this i (pipe_name (t d)) ≡ false = none_below (λ x. is_this i (pipe_name (t x))) NOFILE e d below in
    let pass : is_this i (pipe_name (t d)) ≡ true = ap (is_this i) on ∙ eq-eqb i i refl in
    let no : ⊥ = cc in absurd no
least_there t i d below on (Some k) e = refl
