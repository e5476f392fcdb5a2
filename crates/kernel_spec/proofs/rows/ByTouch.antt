-- A step by its parts: once the absent pages that it touches are there, it is a step in which no page is absent that it needs. So a claim about a step
-- is one about its refusal, and one about the parts of rows in a view that has more pages.
use Rattle.kernel_spec.proofs.Prelude.{[], ℕ, ◌∙◌, ◌∷◌, ◌≡◌, after_instruction, ap, Bool, brought, Call, cond, Ecall, false, going_on, Image, inl, inr, instruction_now, List, Next, next_instruction}
use Rattle.kernel_spec.proofs.Prelude.{None, Option, Own, page_used, perform, refl, refused, Registers, Some, Step, Store, subst, sym, touch, true, unwrap_or, View}
use Rattle.kernel_spec.proofs.memory.OnAbsent.{next_once_touched, is_on_absent, before-is}
use Rattle.kernel_spec.proofs.rows.RowParts.{IsSettled, perform_parts}
use Rattle.kernel_spec.proofs.rows.RowsByParts.{performs}
use Rattle.kernel_spec.proofs.rows.Settled.{touch-comes}
use Rattle.kernel_spec.proofs.rows.Touched.{IsTouched, touched_view, touched_none, touch_view, touch_touched}

-- ---- a call

-- of a call: of the refusal, and of the row's parts once the pages of its buffer are there
pub by_call : (P : Own → Type 0) (c : Call) (v : View) → P (refused c v)
    → ((image : Image) (free : ℕ) → IsTouched v.image image → IsSettled c (touched_view v image free) → P (perform_parts c (touched_view v image free))) → P (perform c v)
by_call P c v refusal parts = elim (performs c v) [
  | inl is ↦ subst P (sym is) refusal
  | inr (t, brought, settled, is) ↦
      subst P (sym (is ∙ ap (perform_parts c) (touch_view brought.0 v t brought.1))) (parts t.image t.free (touch_touched brought.0 v t brought.1) settled)
]

-- ---- an instruction

next_no_ecall : (st : Step) (r : Registers) (s : Option Store) → st ≡ Next r s → st ≡ Ecall → ⊥
next_no_ecall st r s next ecall = let no : Next r s ≡ Ecall = sym next ∙ ecall in let bad : ⊥ = cc in bad

module _ (P : Step → Own → Type 0) (v : View) where
  abbrev At : View → Type 0
  At t = P (next_instruction t.regs t.image) (after_instruction t (next_instruction t.regs t.image))

  -- of an instruction: of the one that is done in the view as it is, and of the one that is done once the page that it is on came, which is no ECALL
  pub by_instruction_apart : P (next_instruction v.regs v.image) (after_instruction v (next_instruction v.regs v.image))
      → ((image : Image) (free : ℕ) → IsTouched v.image image → (next_instruction v.regs image ≡ Ecall → ⊥)
      → P (next_instruction v.regs image) (after_instruction (touched_view v image free) (next_instruction v.regs image)))
      → P (instruction_now v) (going_on v None)
  by_instruction_apart same there = subst At (sym (before-is v)) (by (is_on_absent v.regs v.image) refl)
    where
      page : List ℕ
      page = page_used v.regs v.image ∷ []

      came : is_on_absent v.regs v.image ≡ true → (o : Option View) → touch page v ≡ o → At (unwrap_or o v)
      came absent None e = same
      came absent (Some t) e =
          let next = next_once_touched v.regs v.image absent in
          subst At (sym (touch_view page v t e)) (there t.image t.free (touch_touched page v t e)
          (next_no_ecall (next_instruction v.regs t.image) next.0 next.1 (ap (next_instruction v.regs) (touch-comes page v t e).image ∙ next.2)))

      by : (b : Bool) → is_on_absent v.regs v.image ≡ b → At (cond b (unwrap_or (touch page v) v) v)
      by false e = same
      by true e = came e (touch page v) refl

  -- of an instruction, once the page that it is on is there
  pub by_instruction : ((image : Image) (free : ℕ) → IsTouched v.image image
      → P (next_instruction v.regs image) (after_instruction (touched_view v image free) (next_instruction v.regs image)))
      → P (instruction_now v) (going_on v None)
  by_instruction there = by_instruction_apart (there v.image v.free (touched_none v.image)) (λ image free touched other. there image free touched)
