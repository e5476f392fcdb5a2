-- wait: which call it is, and what is claimed of its row.
use Rattle.kernel_spec.proofs.Prelude.{[], ℕ, ◌&&◌, ◌==◌, ◌>>=◌, ◌or◌, ◌||◌, ◌∷◌, ◌≡◌, arith, Bool, Call, cast_unsigned, child_status, cond, false, filter, has_child, if◌then◌else◌, Image, inl, inr}
use Rattle.kernel_spec.proofs.Prelude.{le_bytes, least_zombie, length, List, nat_eq, None, not, not-false, nothing_stored, or_cases, or_right, Own, perform, pos, reaches, refl, refused, row, row_of}
use Rattle.kernel_spec.proofs.Prelude.{Some, status_stored, stored_by_wait, Storing, storing, true, View, w32, Wait, wait, with_value, writable}
use Rattle.kernel_spec.proofs.rows.Touched.{touched_view}
use Rattle.kernel_spec.proofs.calls.Facts.{RowFacts, asleep, finished, has, refusal}
use Rattle.kernel_spec.proofs.calls.Words.{by_number, by_or, by_touch, by_when}
use Rattle.kernel_spec.proofs.calls.Images.{allowed_before, allowed_none, images_stored, images_touched, nothing_empty}
use Rattle.kernel_spec.proofs.calls.Tables.{plain}
use Rattle.kernel_spec.proofs.rows.MayStore.{Allowed, of_buffer}

pub is_wait : (c : Call) (v : View) → c.number ≡ pos 3 → perform c v ≡ wait c v
unfolding row row_of ◌>>=◌ ◌or◌
is_wait c v is = by_number c v (pos 3) is

-- some pids taken away
has_fewer : (q : ℕ) (keep : ℕ → Bool) (xs : List ℕ) → has q (filter keep xs) ≡ true → has q xs ≡ true
has_fewer q keep [] e = e
has_fewer q keep (x ∷ xs) e = by (keep x) (λ h. or_right (nat_eq q x) (has q xs) (has_fewer q keep xs h)) e
  where
    by : (b : Bool) → (has q (filter keep xs) ≡ true → (nat_eq q x || has q xs) ≡ true) → has q (cond b (x ∷ filter keep xs) (filter keep xs)) ≡ true → (nat_eq q x || has q xs) ≡ true
    by true rest h = elim (or_cases (nat_eq q x) (has q (filter keep xs)) h) [ inl g ↦ (λ i. g i || has q xs) | inr g ↦ rest g ]
    by false rest h = rest h

module _ (c : Call) (v : View) (its : row_of c.number ≡ Some Wait) where
  abbrev Ends : Own → Type 0
  Ends o = RowFacts c v (λ answer. stored_by_wait c v.children answer) o

  refuses : Ends (refused c v)
  refuses = refusal c v (λ answer. stored_by_wait c v.children answer) nothing_empty

  -- four bytes, if it was given an address
  told_allowed : (z : Bool) (image : Image) (bytes : List ℕ) → length bytes ≡ 4 → (not z && not (writable v.image c.a0 4)) ≡ false
      → (writable v.image c.a0 (cond z 0 4) ≡ true → reaches Storing image c.a0 (cond z 0 4) ≡ true) → Allowed image (record { address = c.a0; bytes = cond z [] bytes })
  told_allowed true image bytes four room reached a l = let low = l.0 in let high = l.1 in absurd (omega (arith, low, high))
  told_allowed false image bytes four room reached a l =
      of_buffer image c.a0 4 0 (record { address = c.a0; bytes = bytes }) (reached (not-false (writable v.image c.a0 4) room)) (omega arith) (omega (arith, four)) a l

  pub wait_facts : Ends (wait c v)
  unfolding wait
  wait_facts = by_when Ends (not (c.a0 == 0) && not (writable v.image c.a0 4)) refuses (λ room. by_when Ends (not (has_child v)) refuses (λ _.
      by_touch Ends c.a0 (if c.a0 == 0 then 0 else 4) v _ refuses (λ image free touched reached.
      by_or Ends (least_zombie v) (asleep c v (λ answer. stored_by_wait c v.children answer) its refl 0 (touched_view v image free) refl refl
      (images_touched nothing_stored v.image image nothing_empty touched) (allowed_none nothing_stored v.image nothing_empty) (λ _. plain v.descriptors)) (λ zombie _.
      let s = status_stored c (v.children zombie) in
      let allowed = told_allowed (nat_eq c.a0 0) image (le_bytes 4 (cast_unsigned w32 (child_status (v.children zombie)))) refl room reached in
      finished c v (λ answer. stored_by_wait c v.children answer) its refl zombie _
      (record (touched_view v image free) { image = storing s image; pids = filter (λ pid. not (pid == zombie)) v.pids; children = with_value v.children zombie None })
      refl refl refl refl (images_stored s v.image image touched allowed) (allowed_before s v.image image touched allowed)
      (λ q h. has_fewer q (λ pid. not (pid == zombie)) v.pids h) (λ _. plain v.descriptors)))))
