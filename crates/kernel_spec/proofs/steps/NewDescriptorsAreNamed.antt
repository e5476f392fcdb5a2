-- New descriptors: open and pipe.
use Rattle.kernel_spec.proofs.Prelude.{ℕ, ◌<◌, ◌∙◌, ◌≡◌, ◌≢◌, ap, Bool, cond, Descriptor, Descriptors, eq-eqb, eqb_tells, false, file_name, inl, inr, is_same, is_this, least_below, named, nat_eq}
use Rattle.kernel_spec.proofs.Prelude.{NOFILE, None, none_below, Option, option_map, Pipe, pipe_name, Reading, refl, same_Some, Shown, Shown_file, Shown_pipe, shown_pipe_name, Shown_terminal, Some}
use Rattle.kernel_spec.proofs.Prelude.{sym, true, unwrap_or, with_descriptor, with_value, Writing}
use Rattle.kernel_spec.proofs.steps.LeastPasses.{least_passes}
use Rattle.kernel_spec.proofs.steps.NamesAreChosenAgain.{alike_named, named_alike, named_at, bare, choice, choice_has, file_renamed, pipe_renamed, same_names}
use Rattle.kernel_spec.proofs.Common.{none_is_same, this_is, this_is_not}

-- ---- names that nothing has

pub never_same : (n : ℕ) (o : Option ℕ) → o ≢ Some n → is_same o (Some n) ≡ false
never_same n None h = refl
never_same n (Some k) h = elim (eqb_tells n k) [ inl e ↦ absurd (h (ap Some (sym e.1))) | inr e ↦ e.0 ]

-- a place that isn't in use is nobody's name
module _ (name : Option Descriptor → Option ℕ) (none : name None ≡ None) (t : Descriptors) (k : ℕ) (free : t k ≡ None) where
  not_chosen : (e : ℕ) → e < NOFILE → (o : Option ℕ) → name (t e) ≡ o → option_map (choice (λ c. name (t c))) o ≢ Some k
  not_chosen e below None is h = let no : ⊥ = cc in no
  not_chosen e below (Some m) is h =
      let is_k : choice (λ c. name (t c)) m ≡ k = same_Some (choice (λ c. name (t c)) m) k h in
      let has : name (t (choice (λ c. name (t c)) m)) ≡ Some m = choice_has (λ c. name (t c)) e m below is (least_below (λ c. is_this m (name (t c))) NOFILE) refl in
      let at_k : name (t k) ≡ Some m = ap (λ (n : ℕ). name (t n)) (sym is_k) ∙ has in
      let nothing : name (t k) ≡ None = ap name free ∙ none in
      let no : ⊥ = cc in no

pub file_not_chosen : (t : Descriptors) (k : ℕ) → t k ≡ None → (e : ℕ) → e < NOFILE → file_name (named t e) ≢ Some k
file_not_chosen t k free e below h = not_chosen file_name refl t k free e below (file_name (t e)) refl (sym (ap file_name (named_at t e below) ∙ file_renamed t (t e)) ∙ h)

pub pipe_not_chosen : (t : Descriptors) (k : ℕ) → t k ≡ None → (e : ℕ) → e < NOFILE → pipe_name (named t e) ≢ Some k
pipe_not_chosen t k free e below h = not_chosen pipe_name refl t k free e below (pipe_name (t e)) refl (sym (ap pipe_name (named_at t e below) ∙ pipe_renamed t (t e)) ∙ h)

-- ---- a descriptor more, on an open file that nobody names

module _ (t : Descriptors) (k g : ℕ) (free : t k ≡ None) (fresh : (e : ℕ) → e < NOFILE → file_name (t e) ≢ Some g) (read write : Bool) (x y : Shown)
    (shape : ◌≡◌ {A = Option Descriptor} (bare (Some (record { file = k; read = read; write = write; shown = x }))) (bare (Some (record { file = g; read = read; write = write; shown = y }))))
    (self : is_same (shown_pipe_name x) (shown_pipe_name x) ≡ is_same (shown_pipe_name y) (shown_pipe_name y))
    (pipes_left : (e : ℕ) → e < NOFILE → is_same (shown_pipe_name x) (pipe_name (named t e)) ≡ is_same (shown_pipe_name y) (pipe_name (t e)))
    (pipes_right : (e : ℕ) → e < NOFILE → is_same (pipe_name (named t e)) (shown_pipe_name x) ≡ is_same (pipe_name (t e)) (shown_pipe_name y)) where
  abbrev a : Option Descriptor
  a = Some (record { file = k; read = read; write = write; shown = x })

  abbrev b : Option Descriptor
  b = Some (record { file = g; read = read; write = write; shown = y })

  same_files : (d e : ℕ) → d < NOFILE → e < NOFILE → (m n : Bool)
      → is_same (file_name (cond m a (named t d))) (file_name (cond n a (named t e))) ≡ is_same (file_name (cond m b (t d))) (file_name (cond n b (t e)))
  same_files d e v w true true = eq-eqb k k refl ∙ sym (eq-eqb g g refl)
  same_files d e v w true false = this_is_not k (file_name (named t e)) (file_not_chosen t k free e w) ∙ sym (this_is_not g (file_name (t e)) (fresh e w))
  same_files d e v w false true = never_same k (file_name (named t d)) (file_not_chosen t k free d v) ∙ sym (never_same g (file_name (t d)) (fresh d v))
  same_files d e v w false false = (alike_named t).files d e v w

  same_pipes : (d e : ℕ) → d < NOFILE → e < NOFILE → (m n : Bool)
      → is_same (pipe_name (cond m a (named t d))) (pipe_name (cond n a (named t e))) ≡ is_same (pipe_name (cond m b (t d))) (pipe_name (cond n b (t e)))
  same_pipes d e v w true true = self
  same_pipes d e v w true false = pipes_left e w
  same_pipes d e v w false true = pipes_right d v
  same_pipes d e v w false false = (alike_named t).pipes d e v w

  same_shape : (d : ℕ) → d < NOFILE → (m : Bool) → bare (cond m a (named t d)) ≡ bare (cond m b (t d))
  same_shape d v true = shape
  same_shape d v false = (alike_named t).shape d v

  pub named_new : with_descriptor k (record { file = k; read = read; write = write; shown = x }) (named t) ≡ named (with_value t k b)
  named_new = named_alike (with_value (named t) k a) (with_value t k b) (record {
    files = λ d e v w. same_files d e v w (nat_eq d k) (nat_eq e k);
    pipes = λ d e v w. same_pipes d e v w (nat_eq d k) (nat_eq e k);
    shape = λ d v. same_shape d v (nat_eq d k);
  })

pub named_new_alone : (t : Descriptors) (k g : ℕ) → t k ≡ None → ((e : ℕ) → e < NOFILE → file_name (t e) ≢ Some g) → (read write : Bool) (x : Shown) → shown_pipe_name x ≡ None
    → with_descriptor k (record { file = k; read = read; write = write; shown = x }) (named t) ≡ named (with_value t k (Some (record { file = g; read = read; write = write; shown = x })))
named_new_alone t k g free fresh read write Shown_terminal on =
    named_new t k g free fresh read write Shown_terminal Shown_terminal refl refl (λ e b. refl)
    (λ e b. none_is_same (pipe_name (named t e)) ∙ sym (none_is_same (pipe_name (t e))))
named_new_alone t k g free fresh read write (Shown_file program n) on =
    named_new t k g free fresh read write (Shown_file program n) (Shown_file program n) refl refl (λ e b. refl)
    (λ e b. none_is_same (pipe_name (named t e)) ∙ sym (none_is_same (pipe_name (t e))))
named_new_alone t k g free fresh read write (Shown_pipe n end pipe) on = let no : ⊥ = cc in absurd no

-- ---- two descriptors more, on the ends of a pipe that nobody names

module _ (t : Descriptors) (r w g h i : ℕ) (below_r : r < NOFILE) (below_w : w < NOFILE) (apart : r ≢ w) (apart_files : g ≢ h) (free_r : t r ≡ None) (free_w : t w ≡ None)
    (fresh_g : (e : ℕ) → e < NOFILE → file_name (t e) ≢ Some g) (fresh_h : (e : ℕ) → e < NOFILE → file_name (t e) ≢ Some h) (fresh_i : (e : ℕ) → e < NOFILE → pipe_name (t e) ≢ Some i)
    (x : Pipe) where
  abbrev pub first : Descriptors
  first = with_value t r (Some (record { file = g; read = true; write = false; shown = Shown_pipe i Reading x }))

  named_first : with_descriptor r (record { file = r; read = true; write = false; shown = Shown_pipe r Reading x }) (named t) ≡ named first
  named_first = named_new t r g free_r fresh_g true false (Shown_pipe r Reading x) (Shown_pipe i Reading x) refl
      (eq-eqb r r refl ∙ sym (eq-eqb i i refl))
      (λ e b. this_is_not r (pipe_name (named t e)) (pipe_not_chosen t r free_r e b) ∙ sym (this_is_not i (pipe_name (t e)) (fresh_i e b)))
      (λ e b. never_same r (pipe_name (named t e)) (pipe_not_chosen t r free_r e b) ∙ sym (never_same i (pipe_name (t e)) (fresh_i e b)))

  at_r : first r ≡ Some (record { file = g; read = true; write = false; shown = Shown_pipe i Reading x })
  at_r = ap (λ (b : Bool). cond b (Some (record { file = g; read = true; write = false; shown = Shown_pipe i Reading x })) (t r)) (eq-eqb r r refl)

  at_other : (e : ℕ) → e ≢ r → first e ≡ t e
  at_other e other = elim (eqb_tells e r) [
    | inl same ↦ absurd (other same.1)
    | inr q ↦ ap
        (λ (b : Bool). cond b (Some (record { file = g; read = true; write = false; shown = Shown_pipe i Reading x })) (t e)) q.0
  ]

  free_then : first w ≡ None
  free_then = at_other w (λ e. apart (sym e)) ∙ free_w

  fresh_then : (e : ℕ) → e < NOFILE → file_name (first e) ≢ Some h
  fresh_then e b q = elim (eqb_tells e r) [
    | inl same ↦ let f : file_name (first e) ≡ Some g = ap (λ (n : ℕ). file_name (first n)) same.1 ∙ ap file_name at_r in let gh : g ≡ h = cc in apart_files gh
    | inr other ↦ fresh_h e b (sym (ap file_name (at_other e other.1)) ∙ q)
  ]

  -- the new pipe is named by its reading end
  new_name : (o : Option ℕ) → least_below (λ c. is_this i (pipe_name (first c))) NOFILE ≡ o → unwrap_or o i ≡ r
  new_name None e =
      let fails : is_this i (pipe_name (first r)) ≡ false = none_below (λ c. is_this i (pipe_name (first c))) NOFILE e r below_r in
      let passes : is_this i (pipe_name (first r)) ≡ true = ap (λ (d : Option Descriptor). is_this i (pipe_name d)) at_r ∙ eq-eqb i i refl in
      let no : ⊥ = cc in absurd no
  new_name (Some k) e =
      let found = least_passes NOFILE (λ c. is_this i (pipe_name (first c))) k e in
      elim (eqb_tells k r) [
        | inl same ↦ same.1
        | inr other ↦ absurd (fresh_i k found.1 (sym (ap pipe_name (at_other k other.1)) ∙ this_is i (pipe_name (first k)) found.0))
      ]

  chosen : choice (λ c. pipe_name (first c)) i ≡ r
  chosen = new_name (least_below (λ c. is_this i (pipe_name (first c))) NOFILE) refl

  name_then : (e : ℕ) → e < NOFILE → pipe_name (named first e) ≡ option_map (choice (λ c. pipe_name (first c))) (pipe_name (first e))
  name_then e b = ap pipe_name (named_at first e b) ∙ pipe_renamed first (first e)

  pub named_pair : with_descriptor w (record { file = w; read = false; write = true; shown = Shown_pipe r Writing x })
      (with_descriptor r (record { file = r; read = true; write = false; shown = Shown_pipe r Reading x }) (named t)) ≡ named
      (with_value first w (Some (record { file = h; read = false; write = true; shown = Shown_pipe i Writing x })))
  named_pair = ap (with_descriptor w (record { file = w; read = false; write = true; shown = Shown_pipe r Writing x })) named_first
      ∙ named_new first w h free_then fresh_then false true (Shown_pipe r Writing x) (Shown_pipe i Writing x) refl
      (eq-eqb r r refl ∙ sym (eq-eqb i i refl))
      (λ e b. (λ j. is_same (Some (sym chosen j)) (name_then e b j)) ∙ same_names (λ c. pipe_name (first c)) r e below_r b (Some i) (pipe_name (first e)) (ap pipe_name at_r) refl)
      (λ e b. (λ j. is_same (name_then e b j) (Some (sym chosen j))) ∙ same_names (λ c. pipe_name (first c)) e r b below_r (pipe_name (first e)) (Some i) refl (ap pipe_name at_r))
