-- dup: which call it is, and what is claimed of its row.
use Rattle.kernel_spec.proofs.Prelude.{[], ℕ, ◌>>=◌, ◌or◌, ◌∙◌, ◌≡◌, ap, Bool, c_int, Call, cond, Descriptor, Descriptors, Dup, dup, eq-eqb, eqb_tells, false, inl, inr, is_none, is_some, lowest_free}
use Rattle.kernel_spec.proofs.Prelude.{named, nat_eq, natural, NOFILE, None, none-some, one_more_on, option_map, perform, Pipe, pipe_name, pos, refl, rename, row, row_of, Some, sym, true, View}
use Rattle.kernel_spec.proofs.Prelude.{with_copy, with_value}
use Rattle.kernel_spec.proofs.steps.LeastPasses.{least_passes}
use Rattle.kernel_spec.proofs.steps.NamesAreChosenAgain.{named_at}
use Rattle.kernel_spec.proofs.calls.Facts.{RowFacts, done_with, no, nothing}
use Rattle.kernel_spec.proofs.calls.Words.{by_number, by_or}
use Rattle.kernel_spec.proofs.calls.Tables.{IsLow, NewPipe, Table, added_named, lowest_is_free, more_same, name_shown, named_none, nothing_shown, same_adds, still_none, table_added, value_adds}

pub is_dup : (c : Call) (v : View) → c.number ≡ pos 10 → perform c v ≡ dup c v
unfolding row row_of ◌>>=◌ ◌or◌
is_dup c v is = by_number c v (pos 10) is

module _ (c : Call) (v : View) (its : row_of c.number ≡ Some Dup) where
  -- the descriptor that comes is on what another one was on
  module _ (fd : ℕ) (d : Descriptor) (used : v.descriptors fd ≡ Some d) (to : ℕ) (free : lowest_free v.descriptors ≡ Some to) (low : IsLow v.descriptors) where
    abbrev more : Descriptors
    more = one_more_on d.shown v.descriptors

    abbrev copied : Descriptors
    copied = with_value more to (more fd)

    same_place : named copied fd ≡ named copied to
    same_place = named_at copied fd (low fd (ap is_some used)) ∙ ap (option_map (rename copied)) (by (nat_eq fd to) ∙ sym (ap (λ (b : Bool). cond b (more fd) (more to)) (eq-eqb to to refl)))
        ∙ sym (named_at copied to (least_passes NOFILE (λ d. is_none (v.descriptors d)) to free).1)
      where
        by : (b : Bool) → cond b (more fd) (more fd) ≡ more fd
        by true = refl
        by false = refl

    none_new : (x : Pipe) → NewPipe v.descriptors (named copied) x → x.bytes ≡ []
    none_new x new = absurd (elim (eqb_tells new.0 to) [
      | inl same ↦
          let here : pipe_name (named copied fd) ≡ Some new.1 =
          ap pipe_name same_place ∙ ap (λ (m : ℕ). pipe_name (named copied m)) (sym same.1) ∙ name_shown (named copied new.0) new.1 new.2 x new.3 in
          none-some d (sym (new.4 fd here) ∙ used)
      | inr other ↦
          let unused : v.descriptors new.0 ≡ None = new.4 new.0 (name_shown (named copied new.0) new.1 new.2 x new.3) in
          let left : more new.0 ≡ None = still_none (v.descriptors new.0) (more new.0) (λ some. sym (more_same d.shown v.descriptors new.0).0 ∙ some) unused in
          nothing_shown (named copied new.0) new.1 new.2 x
          (named_none copied new.0 (ap (λ (b : Bool). cond b (more fd) (more new.0)) other.0 ∙ left)) new.3
    ])

    copies : Table v.descriptors (named copied)
    copies = table_added v.descriptors (named copied) (added_named v.descriptors low copied
        (value_adds v.descriptors more to (more fd) (lowest_is_free v.descriptors low to free) (same_adds v.descriptors more (more_same d.shown v.descriptors)))) none_new

  pub dup_facts : RowFacts c v nothing (dup c v)
  unfolding dup
  dup_facts = by_or (RowFacts c v nothing) (natural (c_int c.a0)) (no c v) (λ fd _. by_or (RowFacts c v nothing) (v.descriptors fd) (no c v) (λ d used.
      by_or (RowFacts c v nothing) (lowest_free v.descriptors) (no c v) (λ to free.
      done_with c v its refl to (record v { descriptors = with_copy to fd (one_more_on d.shown v.descriptors) }) refl refl refl (copies fd d used to free))))
