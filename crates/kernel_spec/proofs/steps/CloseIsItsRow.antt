-- Close: it is the step that its row tells.
use Rattle.kernel_spec.proofs.Prelude.{ℕ, ◌+◌, ◌<◌, ◌∙◌, ◌≡◌, ◌≢◌, Alive, ap, Bool, Call, Called, change_pipes, changed_state, cond, Descriptor, Descriptors, eq-eqb, false, file_name, FinMap, fun_ext}
use Rattle.kernel_spec.proofs.Prelude.{get, is_same, Live, named, nat_cmp, nat_eq, NOFILE, None, numbered, one_less_on, OpenFile, Option, or_gone, Pipe, pipe_name, pipes_given_up, pos, refl, remove}
use Rattle.kernel_spec.proofs.Prelude.{Some, State, sym, true, View, view_of, with_a0, with_value, without_descriptor, word}
use Rattle.kernel_spec.proofs.steps.SeenByParts.{pipe_of_file, descriptor_at}
use Rattle.kernel_spec.proofs.steps.MapsAfterChange.{get_without}
use Rattle.kernel_spec.proofs.steps.NamesAreChosenAgain.{Alike, alike_named, named_alike, bare}
use Rattle.kernel_spec.proofs.steps.PipeChangeIsTold.{became}
use Rattle.kernel_spec.proofs.steps.ChangeIsSeen.{view_changed, leaving}
use Rattle.kernel_spec.proofs.rows.RowParts.{close_at}

-- ---- a table without a place, named from names

module _ (t u : Descriptors) (alike : Alike t u) (k : ℕ) where
  same_without : (name : Option Descriptor → Option ℕ) → name None ≡ None → ((d e : ℕ) → d < NOFILE → e < NOFILE → is_same (name (t d)) (name (t e)) ≡ is_same (name (u d)) (name (u e)))
      → (d e : ℕ) → d < NOFILE → e < NOFILE → (a b : Bool) → is_same (name (cond a None (t d))) (name (cond b None (t e))) ≡ is_same (name (cond a None (u d))) (name (cond b None (u e)))
  same_without name none same d e x y true b = ap (λ (o : Option ℕ). is_same o (name (cond b None (t e)))) none ∙ sym (ap (λ (o : Option ℕ). is_same o (name (cond b None (u e)))) none)
  same_without name none same d e x y false true = nothing (name (t d)) (name None) none ∙ sym (nothing (name (u d)) (name None) none)
    where
      nothing : (o n : Option ℕ) → n ≡ None → is_same o n ≡ false
      nothing None n h = refl
      nothing (Some m) n h = ap (is_same (Some m)) h
  same_without name none same d e x y false false = same d e x y

  shape_without : (d : ℕ) → d < NOFILE → (a : Bool) → bare (cond a None (t d)) ≡ bare (cond a None (u d))
  shape_without d x true = refl
  shape_without d x false = alike.shape d x

  pub without_alike : Alike (with_value t k None) (with_value u k None)
  without_alike = record {
    files = λ d e x y. same_without file_name refl alike.files d e x y (nat_eq d k) (nat_eq e k);
    pipes = λ d e x y. same_without pipe_name refl alike.pipes d e x y (nat_eq d k) (nat_eq e k);
    shape = λ d x. shape_without d x (nat_eq d k);
  }

pub named_without : (t : Descriptors) (k : ℕ) → named (with_value (named t) k None) ≡ named (with_value t k None)
named_without t k = named_alike (with_value (named t) k None) (with_value t k None) (without_alike (named t) t (alike_named t) k)

-- ---- close: f is what becomes of each pipe

module _ (s : State) (p : ℕ) (old : Live) (was : get s.processes p ≡ Some (Alive old)) (c : Call) (k : ℕ) (x : Descriptor)
    (f : ℕ → Pipe → Pipe) (files : FinMap nat_cmp OpenFile) (pipes : FinMap nat_cmp Pipe) (freed : ℕ) where
  abbrev pub closed : Live
  closed = record old { regs = with_a0 old.regs (word (pos 0)); call = None; descriptors = remove old.descriptors k }

  abbrev pub after : State
  after = changed_state p closed files pipes s.console (s.free + freed) s

  abbrev left : Descriptors
  left = change_pipes f (numbered s old)

  module _ (less : one_less_on x.shown (named (numbered s old)) ≡ named left) (frees : pipes_given_up (named left) ≡ freed)
      (own_files : (d g : ℕ) → d ≢ k → get old.descriptors d ≡ Some g → get files g ≡ get s.files g)
      (own_pipes : (d j : ℕ) → d ≢ k → pipe_of_file s (get old.descriptors d) ≡ Some j → or_gone (get pipes j) ≡ f j (or_gone (get s.pipes j))) where
    removed_at : (d : ℕ) (b : Bool) → nat_eq d k ≡ b → descriptor_at after (cond b None (get old.descriptors d)) ≡ cond b None (left d)
    removed_at d true e = refl
    removed_at d false e = became s after f (get old.descriptors d) (λ g h. own_files d g apart h) (λ j h. own_pipes d j apart h)
      where
        apart : d ≢ k
        apart h = let g : nat_eq d k ≡ true = eq-eqb d k h in let no : ⊥ = cc in no

    next_table : without_descriptor k (one_less_on x.shown (named (numbered s old))) ≡ named (numbered after closed)
    next_table = ap (without_descriptor k) less ∙ named_without left k
        ∙ sym (ap named (fun_ext (λ d. ap (descriptor_at after) (get_without old.descriptors k d) ∙ removed_at d (nat_eq d k) refl)))

    pub close_own : close_at c (view_of s p old) k x ≡ leaving (Called c.number (pos 0)) (view_of after p closed) (named left)
    unfolding view_of
    close_own =
        (λ i. let u : Descriptors = less i in
        leaving (Called c.number (pos 0)) (record (view_of s p old) { regs = with_a0 old.regs (word (pos 0)); call = None; descriptors = without_descriptor k u; free = s.free + pipes_given_up u }) u)
        ∙ (λ i. leaving (Called c.number (pos 0)) (record (view_of s p old)
        { regs = with_a0 old.regs (word (pos 0)); call = None; descriptors = without_descriptor k (named left); free = s.free + frees i }) (named left))
        ∙ ap (λ (v : View). leaving (Called c.number (pos 0)) v (named left))
        (view_changed s p old was (with_a0 old.regs (word (pos 0))) old.image None old.killed (remove old.descriptors k) files pipes s.console
        (s.free + freed) (without_descriptor k (named left)) (sym (ap (without_descriptor k) less) ∙ next_table))
