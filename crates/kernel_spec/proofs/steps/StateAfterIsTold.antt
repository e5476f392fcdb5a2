-- What has to be known of a step for the state after it to be the one that `own` tells: of open files, of who lives, and of what all see.
use Rattle.kernel_spec.proofs.Prelude.{ℕ, ◌∙◌, ◌≡◌, ◌≢◌, ◌⊎◌, ap, eqb_tells, file_at, FilesAfter, inl, inr, IsNewbornOf, IsSome, MatchOption, NobodyHas, NobodyNames, None, Option, Own, pipe_at, refl}
use Rattle.kernel_spec.proofs.Prelude.{same_Some, Some, State, StateAfter, subst, sym, View, view}
use Rattle.kernel_spec.proofs.steps.SeenByParts.{pipe_of_file}
use Rattle.kernel_spec.proofs.steps.TableTells.{Leaves, quiet_from}

-- process p names the open file already, or it is new, and so is its pipe, if it is an end of one
abbrev pub OldOrNew : State → ℕ → State → ℕ → Type 0
OldOrNew s p t f = ((e : ℕ) × (file_at s p e ≡ Some f)) ⊎ (NobodyNames s f × ((j : ℕ) → pipe_of_file t (Some f) ≡ Some j → NobodyHas s j))

some_file : (s : State) (o : Option ℕ) (j : ℕ) → pipe_of_file s o ≡ Some j → (f : ℕ) × (o ≡ Some f)
some_file s None j h = let no : ⊥ = cc in absurd no
some_file s (Some f) j h = (f, refl)

module _ (s t : State) (p : ℕ) (o : Own) (no_child : o.child ≡ None)
    (others : (q d g : ℕ) → q ≢ p → file_at t q d ≡ Some g → file_at s q d ≡ Some g)
    (keep : (d f g : ℕ) → file_at s p d ≡ Some f → file_at t p d ≡ Some g → f ≡ g)
    (targets : (q d f j : ℕ) → file_at s q d ≡ Some f → pipe_of_file t (Some f) ≡ Some j → pipe_of_file s (Some f) ≡ Some j)
    (from : (d f : ℕ) → file_at t p d ≡ Some f → OldOrNew s p t f) where
  same_file : (q d f g : ℕ) → file_at s q d ≡ Some f → file_at t q d ≡ Some g → f ≡ g
  same_file q d f g a b = elim (eqb_tells q p) [
    | inl h ↦ keep d f g (ap (λ (n : ℕ). file_at s n d) (sym h.1) ∙ a) (ap (λ (n : ℕ). file_at t n d) (sym h.1) ∙ b)
    | inr h ↦ same_Some f g (sym a ∙ others q d g h.1 b)
  ]

  same_pipe : (q d i j : ℕ) → pipe_at s q d ≡ Some i → pipe_at t q d ≡ Some j → i ≡ j
  same_pipe q d i j a b =
      let x = some_file s (file_at s q d) i a in
      let y = some_file t (file_at t q d) j b in
      let same : x.0 ≡ y.0 = same_file q d x.0 y.0 x.1 y.1 in
      let after : pipe_of_file t (Some x.0) ≡ Some j = ap (λ (f : ℕ). pipe_of_file t (Some f)) same ∙ sym (ap (pipe_of_file t) y.1) ∙ b in
      same_Some i j (sym a ∙ ap (pipe_of_file s) x.1 ∙ targets q d x.0 j x.1 after)

  new_file : (q d e f : ℕ) → file_at t p d ≡ Some f → ((k : ℕ) → file_at s p k ≢ Some f) → file_at t q e ≡ Some f → q ≡ p
  new_file q d e f a b c = elim (eqb_tells q p) [
    | inl h ↦ h.1
    | inr h ↦ elim (from d f a) [
      | inl old ↦ absurd (b old.0 old.1)
      | inr new ↦ absurd (new.0 q e (others q e f h.1 c))
    ]
  ]

  new_pipe : (q d e j : ℕ) → pipe_at t p d ≡ Some j → ((k : ℕ) → pipe_at s p k ≢ Some j) → pipe_at t q e ≡ Some j → q ≡ p
  new_pipe q d e j a b c = elim (eqb_tells q p) [
    | inl h ↦ h.1
    | inr h ↦
        let x = some_file t (file_at t p d) j a in
        let y = some_file t (file_at t q e) j c in
        let there : pipe_of_file t (Some x.0) ≡ Some j = sym (ap (pipe_of_file t) x.1) ∙ a in
        elim (from d x.0 x.1) [
          | inl old ↦ absurd (b old.0 (ap (pipe_of_file s) old.1 ∙ targets p old.0 x.0 j old.1 there))
          | inr new ↦
              let here : file_at s q e ≡ Some y.0 = others q e y.0 h.1 y.1 in
              absurd (new.1 j there q e (ap (pipe_of_file s) here ∙ targets q e y.0 j here (sym (ap (pipe_of_file t) y.1) ∙ c)))
        ]
  ]

  pub files_after : FilesAfter s p o t
  files_after = record {
    same_file = same_file;
    same_pipe = same_pipe;
    newborn = subst (λ (c : Option View). MatchOption c (Unit {0}) (λ c. (d : ℕ) → file_at t c.pid d ≡ file_at s p d)) (sym no_child) tt;
    new_file = new_file;
    new_pipe = new_pipe;
  }

pub state_after : (s t : State) (v : View) (o : Own) → Leaves s t v o → view t v.pid ≡ o.next → MatchOption o.child (Unit {0}) (λ c. view t c.pid ≡ Some c)
    → ((q : ℕ) → IsSome (view t q) → (q ≡ v.pid) ⊎ IsSome (view s q) ⊎ IsNewbornOf o q) → FilesAfter s v.pid o t → StateAfter s v o t
state_after s t v o h next newborn no_more files = record {
  next = next;
  newborn = newborn;
  others = quiet_from s t v o h;
  no_more = no_more;
  left = record { console = h.console; pids = h.pids; next_pid = h.next_pid; free = h.free; clock = h.clock; programs = h.programs };
  files = files;
}
