-- A read from a program's file: it is the step that its row tells.
use Rattle.kernel_spec.proofs.Prelude.{ℕ, ◌+◌, ◌<◌, ◌∙◌, ◌≡◌, advance, advance_shown, advanced, Alive, ap, Bool, Call, Called, changed_state, cond, Descriptor, Descriptors, eqb_tells, false, File}
use Rattle.kernel_spec.proofs.Prelude.{file_at, file_name, fun_ext, get, goes_on, inl, inr, insert, is_this, least_below, length, List, Live, live_part, ltb-true, named, nat_eq, nat_lt, NOFILE, None}
use Rattle.kernel_spec.proofs.Prelude.{numbered, OpenFile, Option, option_map, pipe_name, pos, refl, rename, rename_shown, Shown, Shown_file, Shown_pipe, shown_pipe_name, Shown_terminal, Some, State}
use Rattle.kernel_spec.proofs.Prelude.{sym, true, unwrap_or, view_of, with_a0, word, write_image}
use Rattle.kernel_spec.proofs.steps.SeenByParts.{file_of, descriptor_at, descriptor_on}
use Rattle.kernel_spec.proofs.steps.MapsAfterChange.{get_at, get_other}
use Rattle.kernel_spec.proofs.steps.OthersTableIsSeen.{Spares, kind}
use Rattle.kernel_spec.proofs.steps.NamesAreChosenAgain.{choice, same_names}
use Rattle.kernel_spec.proofs.steps.ChangeIsSeen.{view_changed}
use Rattle.kernel_spec.proofs.rows.RowParts.{read_file}

file_stays : (f n : ℕ) (o : Option Descriptor) → file_name (advanced f n o) ≡ file_name o
file_stays f n None = refl
file_stays f n (Some x) = by (nat_eq x.file f)
  where
    by : (b : Bool) → file_name (cond b (Some (record x { shown = advance_shown n x.shown })) (Some x)) ≡ Some x.file
    by true = refl
    by false = refl

pipe_stays_shown : (n : ℕ) (x : Shown) → shown_pipe_name (advance_shown n x) ≡ shown_pipe_name x
pipe_stays_shown n Shown_terminal = refl
pipe_stays_shown n (Shown_file program offset) = refl
pipe_stays_shown n (Shown_pipe name end pipe) = refl

pipe_stays : (f n : ℕ) (o : Option Descriptor) → pipe_name (advanced f n o) ≡ pipe_name o
pipe_stays f n None = refl
pipe_stays f n (Some x) = by (nat_eq x.file f)
  where
    by : (b : Bool) → pipe_name (cond b (Some (record x { shown = advance_shown n x.shown })) (Some x)) ≡ shown_pipe_name x.shown
    by true = pipe_stays_shown n x.shown
    by false = refl

module _ (t : Descriptors) (f d n : ℕ) (below : d < NOFILE) (on : file_name (t d) ≡ Some f) where
  -- what p calls the open file
  abbrev pub the_name : ℕ
  the_name = choice (λ e. file_name (t e)) f

  abbrev u : Descriptors
  u = advance f n t

  least_pipe : (j : ℕ) → least_below (λ e. is_this j (pipe_name (u e))) NOFILE ≡ least_below (λ e. is_this j (pipe_name (t e))) NOFILE
  least_pipe j = λ i. least_below (λ e. is_this j (pipe_stays f n (t e) i)) NOFILE

  least_file : (j : ℕ) → least_below (λ e. is_this j (file_name (u e))) NOFILE ≡ least_below (λ e. is_this j (file_name (t e))) NOFILE
  least_file j = λ i. least_below (λ e. is_this j (file_stays f n (t e) i)) NOFILE

  renamed_shown : (x : Shown) → rename_shown u x ≡ rename_shown t x
  renamed_shown Shown_terminal = refl
  renamed_shown (Shown_file program offset) = refl
  renamed_shown (Shown_pipe j end pipe) = λ i. Shown_pipe (unwrap_or (least_pipe j i) j) end pipe

  advance_renamed : (x : Shown) → rename_shown t (advance_shown n x) ≡ advance_shown n (rename_shown t x)
  advance_renamed Shown_terminal = refl
  advance_renamed (Shown_file program offset) = refl
  advance_renamed (Shown_pipe j end pipe) = refl

  renamed : (x : Descriptor) → rename u x ≡ rename t x
  renamed x = λ i. record x { file = unwrap_or (least_file x.file i) x.file; shown = renamed_shown x.shown i }

  cases : (x : Descriptor) (b : Bool) → option_map (rename u) (cond b (Some (record x { shown = advance_shown n x.shown })) (Some x)) ≡ cond b
      (Some (record (rename t x) { shown = advance_shown n (rename t x).shown })) (Some (rename t x))
  cases x true = ap Some (renamed (record x { shown = advance_shown n x.shown })) ∙ (λ i. Some (record (rename t x) { shown = advance_renamed x.shown i }))
  cases x false = ap Some (renamed x)

  at_place : (e : ℕ) → e < NOFILE → (o : Option Descriptor) → t e ≡ o → option_map (rename u) (advanced f n o) ≡ advanced the_name n (option_map (rename t) o)
  at_place e b None is = refl
  at_place e b (Some x) is =
      cases x (nat_eq x.file f)
      ∙ ap (λ (q : Bool). cond q (Some (record (rename t x) { shown = advance_shown n (rename t x).shown })) (Some (rename t x)))
      (sym (same_names (λ e. file_name (t e)) d e below b (Some f) (Some x.file) on (ap file_name is)))

  in_range : (e : ℕ) (b : Bool) → nat_lt e NOFILE ≡ b → cond b (option_map (rename u) (advanced f n (t e))) None ≡ advanced the_name n (cond b (option_map (rename t) (t e)) None)
  in_range e true h = at_place e (ltb-true e NOFILE h) (t e) refl
  in_range e false h = refl

  pub named_advance : named (advance f n t) ≡ advance the_name n (named t)
  unfolding named
  named_advance = fun_ext (λ e. in_range e (nat_lt e NOFILE) refl)

module _ (s : State) (p : ℕ) (old : Live) (was : get s.processes p ≡ Some (Alive old)) (c : Call) (d f program offset : ℕ) (r w : Bool) (bytes : List ℕ)
    (below : d < NOFILE) (named_file : get old.descriptors d ≡ Some f) (opened : get s.files f ≡ Some (record { read = r; write = w; target = File program offset })) where
  abbrev pub file_after : OpenFile
  file_after = record { read = r; write = w; target = File program (offset + length bytes) }

  abbrev pub read_live : Live
  read_live = record old { regs = with_a0 old.regs (word (pos (length bytes))); image = write_image old.image c.a1 bytes; call = None }

  abbrev pub after : State
  after = changed_state p read_live (insert s.files f file_after) s.pipes s.console s.free s

  pub here : file_name (numbered s old d) ≡ Some f
  here = ap (λ (o : Option ℕ). file_name (descriptor_at s o)) named_file ∙ ap (λ (o : Option OpenFile). file_name (descriptor_on s f o)) opened

  -- p's name of the open file
  abbrev pub name : ℕ
  name = the_name (numbered s old) f d (length bytes) below here

  descriptor_case : (g : ℕ) → descriptor_on after g (cond (nat_eq g f) (Some file_after) (get s.files g)) ≡ advanced f (length bytes) (descriptor_on s g (get s.files g))
  descriptor_case g = elim (eqb_tells g f) [
    | inl h ↦
        ap (λ (b : Bool). descriptor_on after g (cond b (Some file_after) (get s.files g))) h.0
        ∙ ap (λ (b : Bool). cond b (Some (record { file = g; read = r; write = w; shown = Shown_file program (offset + length bytes) }))
        (Some (record { file = g; read = r; write = w; shown = Shown_file program offset }))) (sym h.0)
        ∙ sym (ap (λ (o : Option OpenFile). advanced f (length bytes) (descriptor_on s g o)) (ap (get s.files) h.1 ∙ opened))
    | inr h ↦
        ap (λ (b : Bool). descriptor_on after g (cond b (Some file_after) (get s.files g))) h.0 ∙ untouched g h.0 (get s.files g)
  ]
    where
      untouched : (g : ℕ) → nat_eq g f ≡ false → (o : Option OpenFile) → descriptor_on s g o ≡ advanced f (length bytes) (descriptor_on s g o)
      untouched g e None = refl
      untouched g e (Some y) = sym (ap (λ (b : Bool). cond b
          (Some (record { file = g; read = y.read; write = y.write; shown = advance_shown (length bytes) (shown_of y) })) (descriptor_on s g (Some y))) e)
        where
          shown_of : OpenFile → Shown
          shown_of y = Rattle.kernel_spec.specs.views.View.show s y.target

  place : (o : Option ℕ) → descriptor_at after o ≡ advanced f (length bytes) (descriptor_at s o)
  place None = refl
  place (Some g) = ap (descriptor_on after g) (get_at s.files f file_after g) ∙ descriptor_case g

  next_table : advance name (length bytes) (named (numbered s old)) ≡ named (numbered after read_live)
  next_table = sym (ap named (fun_ext (λ e. place (get old.descriptors e))) ∙ named_advance (numbered s old) f d (length bytes) below here)

  pub file_read_own : read_file c (view_of s p old) name bytes ≡ goes_on (Called c.number (pos (length bytes))) (view_of after p read_live)
  unfolding view_of
  file_read_own = ap (goes_on (Called c.number (pos (length bytes))))
      (view_changed s p old was (with_a0 old.regs (word (pos (length bytes)))) (write_image old.image c.a1 bytes) None old.killed old.descriptors
      (insert s.files f file_after) s.pipes s.console s.free (advance name (length bytes) (named (numbered s old))) next_table)

  on_file : file_at s p d ≡ Some f
  on_file = ap (λ (l : Option Live). file_of l d) (ap live_part was) ∙ named_file

  pub kinds_stay : (g : ℕ) → kind (get after.files g) ≡ kind (get s.files g)
  kinds_stay g = ap kind (get_at s.files f file_after g) ∙ elim (eqb_tells g f) [
    | inl h ↦ ap (λ (b : Bool). kind (cond b (Some file_after) (get s.files g))) h.0 ∙ sym (ap kind (ap (get s.files) h.1 ∙ opened))
    | inr h ↦ ap (λ (b : Bool). kind (cond b (Some file_after) (get s.files g))) h.0
  ]

  pub spares : Spares s after p
  spares = record {
    file = λ g other h. get_other s.files f file_after g (λ e. h d below (on_file ∙ sym (ap Some e)));
    pipe = λ j other h. refl;
    kinds = λ g other. kinds_stay g;
  }
