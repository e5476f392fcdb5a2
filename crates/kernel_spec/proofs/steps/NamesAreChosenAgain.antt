-- Names chosen anew from names that were chosen before are those chosen from the kernel's own numbers.
use Rattle.kernel_spec.proofs.Prelude.{ℕ, ◌<◌, ◌∙◌, ◌≡◌, ap, Bool, cond, Descriptor, Descriptors, eq-eqb, eqb_tells, false, file_name, fun_ext, inl, inr, is_same, is_this, least_below, least_on_file}
use Rattle.kernel_spec.proofs.Prelude.{Live, lt-ltb, ltb-true, named, nat_eq, nat_lt, NOFILE, None, none_below, numbered, Option, option_map, pipe_name, refl, rename, rename_shown, Shown, Shown_file}
use Rattle.kernel_spec.proofs.Prelude.{Shown_pipe, shown_pipe_name, Shown_terminal, Some, State, sym, true, unwrap_or, with_value}
use Rattle.kernel_spec.proofs.steps.LeastPasses.{least_passes, least_congr}
use Rattle.kernel_spec.proofs.Common.{this_is}

-- the name that a live process has for its open file f
abbrev pub name_of_file : State → Live → ℕ → ℕ
name_of_file s l f = unwrap_or (least_on_file (numbered s l) f) f

abbrev pub bare_shown : Shown → Shown
bare_shown Shown_terminal = Shown_terminal
bare_shown (Shown_file program offset) = Shown_file program offset
bare_shown (Shown_pipe name end pipe) = Shown_pipe 0 end pipe

-- a descriptor without its names
abbrev pub bare : Option Descriptor → Option Descriptor
bare None = None
bare (Some d) = Some (record d { file = 0; shown = bare_shown d.shown })

-- the same but for the names, and the same names stand at the same places
pub record Alike (t u : Descriptors) : Type 0 where
  pub files : (d e : ℕ) → d < NOFILE → e < NOFILE → is_same (file_name (t d)) (file_name (t e)) ≡ is_same (file_name (u d)) (file_name (u e))
  pub pipes : (d e : ℕ) → d < NOFILE → e < NOFILE → is_same (pipe_name (t d)) (pipe_name (t e)) ≡ is_same (pipe_name (u d)) (pipe_name (u e))
  pub shape : (d : ℕ) → d < NOFILE → bare (t d) ≡ bare (u d)

abbrev some_read : Option Descriptor → Bool
some_read None = true
some_read (Some d) = d.read

abbrev some_write : Option Descriptor → Bool
some_write None = true
some_write (Some d) = d.write

abbrev some_shown : Option Descriptor → Shown
some_shown None = Shown_terminal
some_shown (Some d) = d.shown

-- ---- alike tables choose the same names

-- the least place with the name that place d has; d has it itself
same_choice : (name : Descriptors → ℕ → Option ℕ) (t u : Descriptors) → ((d e : ℕ) → d < NOFILE → e < NOFILE → is_same (name t d) (name t e) ≡ is_same (name u d) (name u e))
    → (d m n : ℕ) → d < NOFILE → name t d ≡ Some m → name u d ≡ Some n
    → unwrap_or (least_below (λ e. is_this m (name t e)) NOFILE) m ≡ unwrap_or (least_below (λ e. is_this n (name u e)) NOFILE) n
same_choice name t u same d m n below isT isU =
    let one : least_below (λ e. is_this m (name t e)) NOFILE ≡ least_below (λ e. is_this n (name u e)) NOFILE =
    least_congr NOFILE (λ e. is_this m (name t e)) (λ e. is_this n (name u e))
    (λ e b. ap (λ (o : Option ℕ). is_same o (name t e)) (sym isT) ∙ same d e below b ∙ ap (λ (o : Option ℕ). is_same o (name u e)) isU) in
    chosen (least_below (λ e. is_this m (name t e)) NOFILE) (least_below (λ e. is_this n (name u e)) NOFILE) refl one
  where
    chosen : (a b : Option ℕ) → least_below (λ e. is_this m (name t e)) NOFILE ≡ a → a ≡ b → unwrap_or a m ≡ unwrap_or b n
    chosen (Some a) (Some b) e f = cc
    chosen (Some a) None e f = let no : ⊥ = cc in absurd no
    chosen None b e f =
        let fails : is_this m (name t d) ≡ false = none_below (λ e. is_this m (name t e)) NOFILE e d below in
        let passes : is_this m (name t d) ≡ true = ap (is_this m) isT ∙ eq-eqb m m refl in
        let no : ⊥ = cc in absurd no

module _ (t u : Descriptors) (alike : Alike t u) where
  shown_alike : (d : ℕ) → d < NOFILE → (x y : Shown) → pipe_name (t d) ≡ shown_pipe_name x → pipe_name (u d) ≡ shown_pipe_name y → bare_shown x ≡ bare_shown y → rename_shown t x ≡ rename_shown u y
  shown_alike d below Shown_terminal Shown_terminal a b e = refl
  shown_alike d below (Shown_file p n) (Shown_file q m) a b e = e
  shown_alike d below (Shown_pipe j end x) (Shown_pipe k other y) a b e =
      let ends : end ≡ other = cc in
      let pipes : x ≡ y = cc in
      let names = same_choice (λ (v : Descriptors) (c : ℕ). pipe_name (v c)) t u alike.pipes d j k below a b in
      λ i. Shown_pipe (names i) (ends i) (pipes i)
  shown_alike d below Shown_terminal (Shown_file q m) a b e = let no : ⊥ = cc in absurd no
  shown_alike d below Shown_terminal (Shown_pipe k end y) a b e = let no : ⊥ = cc in absurd no
  shown_alike d below (Shown_file p n) Shown_terminal a b e = let no : ⊥ = cc in absurd no
  shown_alike d below (Shown_file p n) (Shown_pipe k end y) a b e = let no : ⊥ = cc in absurd no
  shown_alike d below (Shown_pipe j end x) Shown_terminal a b e = let no : ⊥ = cc in absurd no
  shown_alike d below (Shown_pipe j end x) (Shown_file q m) a b e = let no : ⊥ = cc in absurd no

  at_place : (d : ℕ) → d < NOFILE → (o r : Option Descriptor) → t d ≡ o → u d ≡ r → bare o ≡ bare r → option_map (rename t) o ≡ option_map (rename u) r
  at_place d below None None a b e = refl
  at_place d below None (Some y) a b e = let no : ⊥ = cc in absurd no
  at_place d below (Some x) None a b e = let no : ⊥ = cc in absurd no
  at_place d below (Some x) (Some y) a b e =
      let names = same_choice (λ (v : Descriptors) (c : ℕ). file_name (v c)) t u alike.files d x.file y.file below (ap file_name a) (ap file_name b) in
      let reads : x.read ≡ y.read = ap (λ (o : Option Descriptor). some_read o) e in
      let writes : x.write ≡ y.write = ap (λ (o : Option Descriptor). some_write o) e in
      let bares : bare_shown x.shown ≡ bare_shown y.shown = ap (λ (o : Option Descriptor). some_shown o) e in
      let shows = shown_alike d below x.shown y.shown (ap pipe_name a) (ap pipe_name b) bares in
      λ i. Some (record { file = names i; read = reads i; write = writes i; shown = shows i })

  in_range : (d : ℕ) (b : Bool) → nat_lt d NOFILE ≡ b → cond b (option_map (rename t) (t d)) None ≡ cond b (option_map (rename u) (u d)) None
  in_range d true e = let below : d < NOFILE = ltb-true d NOFILE e in at_place d below (t d) (u d) refl refl (alike.shape d below)
  in_range d false e = refl

  pub named_alike : named t ≡ named u
  unfolding named
  named_alike = fun_ext (λ d. in_range d (nat_lt d NOFILE) refl)

-- ---- a table that is without a place, or has a copy of one

module _ (t u : Descriptors) (alike : Alike t u) (k j : ℕ) (below : j < NOFILE) where
  file_at_copy : (d e : ℕ) → d < NOFILE → e < NOFILE → (a b : Bool)
      → is_same (file_name (cond a (t j) (t d))) (file_name (cond b (t j) (t e))) ≡ is_same (file_name (cond a (u j) (u d))) (file_name (cond b (u j) (u e)))
  file_at_copy d e x y true true = alike.files j j below below
  file_at_copy d e x y true false = alike.files j e below y
  file_at_copy d e x y false true = alike.files d j x below
  file_at_copy d e x y false false = alike.files d e x y

  pipe_at_copy : (d e : ℕ) → d < NOFILE → e < NOFILE → (a b : Bool)
      → is_same (pipe_name (cond a (t j) (t d))) (pipe_name (cond b (t j) (t e))) ≡ is_same (pipe_name (cond a (u j) (u d))) (pipe_name (cond b (u j) (u e)))
  pipe_at_copy d e x y true true = alike.pipes j j below below
  pipe_at_copy d e x y true false = alike.pipes j e below y
  pipe_at_copy d e x y false true = alike.pipes d j x below
  pipe_at_copy d e x y false false = alike.pipes d e x y

  shape_at_copy : (d : ℕ) → d < NOFILE → (a : Bool) → bare (cond a (t j) (t d)) ≡ bare (cond a (u j) (u d))
  shape_at_copy d x true = alike.shape j below
  shape_at_copy d x false = alike.shape d x

  pub copy_alike : Alike (with_value t k (t j)) (with_value u k (u j))
  copy_alike = record {
    files = λ d e x y. file_at_copy d e x y (nat_eq d k) (nat_eq e k);
    pipes = λ d e x y. pipe_at_copy d e x y (nat_eq d k) (nat_eq e k);
    shape = λ d x. shape_at_copy d x (nat_eq d k);
  }

-- ---- a named table is alike to the table it was named from

abbrev pub choice : (ℕ → Option ℕ) → ℕ → ℕ
choice name m = unwrap_or (least_below (λ c. is_this m (name c)) NOFILE) m

-- the place chosen for a name that some place has has the name
pub choice_has : (name : ℕ → Option ℕ) (d m : ℕ) → d < NOFILE → name d ≡ Some m → (o : Option ℕ) → least_below (λ c. is_this m (name c)) NOFILE ≡ o → name (unwrap_or o m) ≡ Some m
choice_has name d m below is None e =
    let fails : is_this m (name d) ≡ false = none_below (λ c. is_this m (name c)) NOFILE e d below in
    let passes : is_this m (name d) ≡ true = ap (is_this m) is ∙ eq-eqb m m refl in
    let no : ⊥ = cc in absurd no
choice_has name d m below is (Some h) e = this_is m (name h) (least_passes NOFILE (λ c. is_this m (name c)) h e).0

pub same_names : (name : ℕ → Option ℕ) (d e : ℕ) → d < NOFILE → e < NOFILE → (m n : Option ℕ) → name d ≡ m → name e ≡ n
    → is_same (option_map (choice name) m) (option_map (choice name) n) ≡ is_same m n
same_names name d e x y None n a b = refl
same_names name d e x y (Some m) None a b = refl
same_names name d e x y (Some m) (Some n) a b =
    elim (eqb_tells n m) [
      | inl same ↦ eq-eqb (choice name n) (choice name m) (ap (choice name) same.1) ∙ sym same.0
      | inr apart ↦ elim (eqb_tells (choice name n) (choice name m)) [
        | inl same ↦
            let hm : name (choice name m) ≡ Some m = choice_has name d m x a (least_below (λ c. is_this m (name c)) NOFILE) refl in
            let hn : name (choice name n) ≡ Some n = choice_has name e n y b (least_below (λ c. is_this n (name c)) NOFILE) refl in
            let one : name (choice name n) ≡ name (choice name m) = ap name same.1 in
            let nm : n ≡ m = cc in
            absurd (apart.1 nm)
        | inr other ↦ other.0 ∙ sym apart.0
      ]
    ]

pub file_renamed : (t : Descriptors) (o : Option Descriptor) → file_name (option_map (rename t) o) ≡ option_map (choice (λ d. file_name (t d))) (file_name o)
file_renamed t None = refl
file_renamed t (Some x) = refl

shown_renamed : (t : Descriptors) (x : Shown) → shown_pipe_name (rename_shown t x) ≡ option_map (choice (λ d. pipe_name (t d))) (shown_pipe_name x)
shown_renamed t Shown_terminal = refl
shown_renamed t (Shown_file program offset) = refl
shown_renamed t (Shown_pipe j end pipe) = refl

pub pipe_renamed : (t : Descriptors) (o : Option Descriptor) → pipe_name (option_map (rename t) o) ≡ option_map (choice (λ d. pipe_name (t d))) (pipe_name o)
pipe_renamed t None = refl
pipe_renamed t (Some x) = shown_renamed t x.shown

bare_shown_renamed : (t : Descriptors) (x : Shown) → bare_shown (rename_shown t x) ≡ bare_shown x
bare_shown_renamed t Shown_terminal = refl
bare_shown_renamed t (Shown_file program offset) = refl
bare_shown_renamed t (Shown_pipe j end pipe) = refl

bare_renamed : (t : Descriptors) (o : Option Descriptor) → bare (option_map (rename t) o) ≡ bare o
bare_renamed t None = refl
bare_renamed t (Some x) = λ i. Some (record x { file = 0; shown = bare_shown_renamed t x.shown i })

pub named_at : (t : Descriptors) (d : ℕ) → d < NOFILE → named t d ≡ option_map (rename t) (t d)
unfolding named
named_at t d below = ap (λ (b : Bool). cond b (option_map (rename t) (t d)) None) (lt-ltb d NOFILE below)

pub alike_named : (t : Descriptors) → Alike (named t) t
alike_named t = record {
  files = λ d e x y. (λ i. is_same ((ap file_name (named_at t d x) ∙ file_renamed t (t d)) i)
      ((ap file_name (named_at t e y) ∙ file_renamed t (t e)) i)) ∙ same_names (λ c. file_name (t c)) d e x y (file_name (t d)) (file_name (t e)) refl refl;
  pipes = λ d e x y. (λ i. is_same ((ap pipe_name (named_at t d x) ∙ pipe_renamed t (t d)) i)
      ((ap pipe_name (named_at t e y) ∙ pipe_renamed t (t e)) i)) ∙ same_names (λ c. pipe_name (t c)) d e x y (pipe_name (t d)) (pipe_name (t e)) refl refl;
  shape = λ d x. ap bare (named_at t d x) ∙ bare_renamed t (t d);
}

-- dup: a copy in the view's table is a copy in the kernel's own
pub named_copy : (t : Descriptors) (k j : ℕ) → j < NOFILE → named (with_value (named t) k (named t j)) ≡ named (with_value t k (t j))
named_copy t k j below = named_alike (with_value (named t) k (named t j)) (with_value t k (t j)) (copy_alike (named t) t (alike_named t) k j below)
