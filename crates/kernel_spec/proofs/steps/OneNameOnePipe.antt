-- In a view, descriptors on pipes of one name show one pipe.
use Rattle.kernel_spec.proofs.Prelude.{ℕ, ◌<◌, ◌∙◌, ◌≡◌, ap, Bool, change_pipe, change_shown, changed, cond, Descriptor, Descriptors, End, eq-eqb, eqb-true, false, File, fun_ext, get, is_this}
use Rattle.kernel_spec.proofs.Prelude.{least_on_pipe, Live, ltb-true, named, nat_eq, nat_lt, NOFILE, None, none_below, numbered, OpenFile, Option, option_map, or_gone, Pipe, Pipe_end, pipe_name, refl}
use Rattle.kernel_spec.proofs.Prelude.{rename, same_Some, show, Shown, Shown_file, Shown_pipe, shown_pipe_name, Shown_terminal, Some, State, subst, sym, Target, Terminal, true, unwrap_or}
use Rattle.kernel_spec.proofs.steps.SeenByParts.{descriptor_at, descriptor_on}
use Rattle.kernel_spec.proofs.steps.LeastPasses.{least_passes}
use Rattle.kernel_spec.proofs.Common.{this_is}

abbrev name_in : Shown → ℕ
name_in Shown_terminal = 0
name_in (Shown_file program offset) = 0
name_in (Shown_pipe name end pipe) = name

abbrev pipe_in : Shown → Pipe
pipe_in Shown_terminal = or_gone None
pipe_in (Shown_file program offset) = or_gone None
pipe_in (Shown_pipe name end pipe) = pipe

abbrev pub shown_of : Option Descriptor → Option Shown
shown_of o = option_map (λ x. x.shown) o

module _ (s : State) (l : Live) where
  abbrev T : Descriptors
  T = numbered s l

  -- the descriptor that names pipe i is on it
  leads : (d i : ℕ) → d < NOFILE → pipe_name (T d) ≡ Some i → (o : Option ℕ) → least_on_pipe T i ≡ o → pipe_name (T (unwrap_or o i)) ≡ Some i
  leads d i below on (Some k) is = this_is i (pipe_name (T k)) (least_passes NOFILE (λ e. is_this i (pipe_name (T e))) k is).0
  leads d i below on None is =
      let fails : is_this i (pipe_name (T d)) ≡ false = none_below (λ e. is_this i (pipe_name (T e))) NOFILE is d below in
      let passes : is_this i (pipe_name (T d)) ≡ true = ap (is_this i) on ∙ eq-eqb i i refl in
      let no : ⊥ = cc in absurd no

  -- what a descriptor of the view that is on a pipe of this name shows
  abbrev Shows : Option Descriptor → Type 0
  Shows o = (name : ℕ) (end : End) (x : Pipe) → shown_of o ≡ Some (Shown_pipe name end x) → (i : ℕ) × (pipe_name (T name) ≡ Some i) × (x ≡ or_gone (get s.pipes i))

  on_target : (d g : ℕ) (r w : Bool) (y : Target) → d < NOFILE → pipe_name (T d) ≡ shown_pipe_name (show s y) → Shows (Some (rename T (record { file = g; read = r; write = w; shown = show s y })))
  on_target d g r w Terminal below on name end x is = let no : ⊥ = cc in absurd no
  on_target d g r w (File program offset) below on name end x is = let no : ⊥ = cc in absurd no
  on_target d g r w (Pipe_end i e) below on name end x is =
      let same : Shown_pipe (unwrap_or (least_on_pipe T i) i) e (or_gone (get s.pipes i)) ≡ Shown_pipe name end x = same_Some _ _ is in
      (i, subst (λ (k : ℕ). pipe_name (T k) ≡ Some i) (ap name_in same) (leads d i below on (least_on_pipe T i) refl), sym (ap pipe_in same))

  on_file : (d g : ℕ) (o : Option OpenFile) → d < NOFILE → pipe_name (T d) ≡ pipe_name (descriptor_on s g o) → Shows (option_map (rename T) (descriptor_on s g o))
  on_file d g None below on name end x is = let no : ⊥ = cc in absurd no
  on_file d g (Some f) below on name end x is = on_target d g f.read f.write f.target below on name end x is

  on_place : (d : ℕ) (o : Option ℕ) → d < NOFILE → pipe_name (T d) ≡ pipe_name (descriptor_at s o) → Shows (option_map (rename T) (descriptor_at s o))
  on_place d None below on name end x is = let no : ⊥ = cc in absurd no
  on_place d (Some g) below on name end x is = on_file d g (get s.files g) below on name end x is

  in_range : (d : ℕ) (b : Bool) → nat_lt d NOFILE ≡ b → Shows (cond b (option_map (rename T) (T d)) None)
  in_range d true e name end x is = let below : d < NOFILE = ltb-true d NOFILE e in on_place d (get l.descriptors d) below refl name end x is
  in_range d false e name end x is = let no : ⊥ = cc in absurd no

  shows : (d : ℕ) → Shows (named T d)
  unfolding named
  shows d = in_range d (nat_lt d NOFILE) refl

  -- pipes of one name are one
  pub one_pipe : (d e name : ℕ) (end other : End) (x y : Pipe) → shown_of (named T d) ≡ Some (Shown_pipe name end x) → shown_of (named T e) ≡ Some (Shown_pipe name other y) → x ≡ y
  one_pipe d e name end other x y a b =
      let here = shows d name end x a in let there = shows e name other y b in
      here.2 ∙ ap (λ (i : ℕ). or_gone (get s.pipes i)) (same_Some here.0 there.0 (sym here.1 ∙ there.1)) ∙ sym there.2

  -- so nothing changes where that pipe is put in its place
  module _ (e name : ℕ) (end : End) (x : Pipe) (is : shown_of (named T e) ≡ Some (Shown_pipe name end x)) where
    abbrev f : ℕ → Pipe → Pipe
    f = λ n pipe. cond (nat_eq n name) x pipe

    other_pipe : (d n : ℕ) (o : End) (y : Pipe) → shown_of (named T d) ≡ Some (Shown_pipe n o y) → (b : Bool) → nat_eq n name ≡ b → cond b x y ≡ y
    other_pipe d n o y on true t = one_pipe e d name end o x y is (on ∙ ap (λ (k : ℕ). Some (Shown_pipe k o y)) (eqb-true n name t))
    other_pipe d n o y on false t = refl

    same_shown : (d : ℕ) (y : Shown) → shown_of (named T d) ≡ Some y → change_shown f y ≡ y
    same_shown d Shown_terminal on = refl
    same_shown d (Shown_file program offset) on = refl
    same_shown d (Shown_pipe n o y) on = ap (Shown_pipe n o) (other_pipe d n o y on (nat_eq n name) refl)

    same_place : (d : ℕ) (o : Option Descriptor) → named T d ≡ o → changed f o ≡ o
    same_place d None on = refl
    same_place d (Some y) on = ap (λ (z : Shown). Some (record y { shown = z })) (same_shown d y.shown (ap shown_of on))

    pub unchanged_by : change_pipe name x (named T) ≡ named T
    unchanged_by = fun_ext (λ d. same_place d (named T d) refl)
