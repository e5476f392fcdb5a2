-- pipe: which call it is, and what is claimed of its row.
use Rattle.kernel_spec.proofs.Prelude.{ℕ, ◌-◌, ◌==◌, ◌>>=◌, ◌or◌, ◌∙◌, ◌≡◌, ap, arith, Bool, Call, Descriptor, Descriptors, End, ends_stored, false, Image, lowest_free, lowest_free_above, make_pipe}
use Rattle.kernel_spec.proofs.Prelude.{named, new_pipe, next_ends, not, not-false, Option, or_zero, Own, perform, Pipe_row, pos, reaches, Reading, refl, refused, row, row_of, Shown_pipe, Some, Store}
use Rattle.kernel_spec.proofs.Prelude.{stored_by_pipe, Storing, storing, subst, sym, true, View, with_value, writable, Writing}
use Rattle.kernel_spec.proofs.rows.Touched.{IsTouched, touched_view}
use Rattle.kernel_spec.proofs.calls.Facts.{RowFacts, finished, refusal}
use Rattle.kernel_spec.proofs.calls.Words.{by_number, by_or, by_touch, by_when}
use Rattle.kernel_spec.proofs.calls.Images.{Images, allowed_before, images_stored, nothing_empty}
use Rattle.kernel_spec.proofs.calls.Tables.{Adds, IsLow, Table, added_named, lowest_is_free, named_empty, new_empty, next_is_free, none_empty, pipe_empty, same_adds, same_table, table_added}
use Rattle.kernel_spec.proofs.calls.Tables.{value_adds, value_empty}
use Rattle.kernel_spec.proofs.rows.MayStore.{Allowed, AllowedTouching, of_buffer}

pub is_pipe : (c : Call) (v : View) → c.number ≡ pos 4 → perform c v ≡ make_pipe c v
unfolding row row_of ◌>>=◌ ◌or◌
is_pipe c v is = by_number c v (pos 4) is

module _ (c : Call) (v : View) (its : row_of c.number ≡ Some Pipe_row) where
  abbrev Ends : Own → Type 0
  Ends o = RowFacts c v (λ answer. stored_by_pipe c v.descriptors answer) o

  refuses : Ends (refused c v)
  refuses = refusal c v (λ answer. stored_by_pipe c v.descriptors answer) nothing_empty

  abbrev end_at : ℕ → ℕ → Bool → End → Descriptor
  end_at r file reads end = record { file = file; read = reads; write = not reads; shown = Shown_pipe r end new_pipe }

  module _ (r w : ℕ) (first : lowest_free v.descriptors ≡ Some r) (second : lowest_free_above v.descriptors r ≡ Some w) where
    abbrev one : Descriptors
    one = with_value v.descriptors r (Some (end_at r r true Reading))

    abbrev two : Descriptors
    two = with_value (named one) w (Some (end_at r w false Writing))

    both_ends : next_ends c v.descriptors ≡ ends_stored c r w
    both_ends = ap (λ (o : Option ℕ). ends_stored c (or_zero o) (or_zero (lowest_free_above v.descriptors (or_zero o)))) first ∙ ap (λ (o : Option ℕ). ends_stored c r (or_zero o)) second

    -- both are on an empty pipe
    opens : IsLow v.descriptors → Table v.descriptors (named two)
    opens low =
        let t = v.descriptors in
        let has_one : Adds t (named one) = added_named t low one (value_adds t t r (Some (end_at r r true Reading)) (lowest_is_free t low r first) (same_adds t t (same_table t))) in
        table_added t (named two) (added_named t low two (value_adds t (named one) w (Some (end_at r w false Writing)) (next_is_free t low r w second) has_one))
        (new_empty t (named two) (λ d none. named_empty two d (value_empty (named one) w (Some (end_at r w false Writing)) d (pipe_empty w r false true Writing)
        (named_empty one d (value_empty t r (Some (end_at r r true Reading)) d (pipe_empty r r true false Reading) (none_empty (t d) none))))))

    stores : (image : Image) → IsTouched v.image image → reaches Storing image c.a0 8 ≡ true
        → Images (next_ends c v.descriptors) v.image (storing (ends_stored c r w) image) × AllowedTouching v.image (next_ends c v.descriptors)
    stores image touched all =
        let allowed : Allowed image (ends_stored c r w) = of_buffer image c.a0 8 0 (ends_stored c r w) all (omega arith) (omega arith) in
        subst (λ (s : Store). Images s v.image (storing (ends_stored c r w) image) × AllowedTouching v.image s) (sym both_ends)
        (images_stored (ends_stored c r w) v.image image touched allowed, allowed_before (ends_stored c r w) v.image image touched allowed)

  pub pipe_facts : Ends (make_pipe c v)
  unfolding make_pipe
  pipe_facts = by_when Ends (not (writable v.image c.a0 8)) refuses (λ room.
      by_or Ends (lowest_free v.descriptors) refuses (λ r first. by_or Ends (lowest_free_above v.descriptors r) refuses (λ w second.
      by_touch Ends c.a0 8 v _ refuses (λ image free touched reached. by_when Ends (free == 0) refuses (λ _.
      let there = stores r w first second image touched (reached (not-false (writable v.image c.a0 8) room)) in
      finished c v (λ answer. stored_by_pipe c v.descriptors answer) its refl 0 _
      (record (touched_view v image free) { image = storing (ends_stored c r w) image; descriptors = named (two r w first second); free = free - 1 })
      refl refl refl refl there.0 there.1 (λ q h. h) (opens r w first second))))))
