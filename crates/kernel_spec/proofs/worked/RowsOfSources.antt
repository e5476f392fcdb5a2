-- Worked cases of where a byte is from.
use Rattle.kernel_spec.proofs.Prelude.{[], ℕ, ◌*◌, ◌+◌, ◌<◌, ◌∙◌, ◌≡◌, ap, arith, call_in, Called, get, Holds, inl, inr, IsPut, length, None, nothing_stored, Option, own, Page, Passes, pos, refl, Run}
use Rattle.kernel_spec.proofs.Prelude.{same_Some, slice_index, Some, Stands, Stepped, Store, stored_by, subst, sym, Tick, View, view, World}

-- ---- memory passes to nobody but a child that a step makes

module _ (w t : World) where
  not_by_a_tick : Passes w Tick t 1 2 → ⊥
  not_by_a_tick h = elim h [
    | inl same ↦ let no : ⊥ = cc in no
    | inr made ↦ let e : Tick ≡ Run = made.0.0 in let no : ⊥ = cc in no
  ]

  not_by_another : w.turns.current ≡ Some 3 → Passes w Run t 1 2 → ⊥
  not_by_another third h = elim h [
    | inl same ↦ let no : ⊥ = cc in no
    | inr made ↦ let e : ◌≡◌ {A = Option ℕ} (Some 3) (Some 1) = sym third ∙ made.0.2 in let no : ⊥ = cc in no
  ]

  not_to_one_that_lives : (v : View) → view w.state 2 ≡ Some v → Passes w Run t 1 2 → ⊥
  not_to_one_that_lives v live h = elim h [
    | inl same ↦ let no : ⊥ = cc in no
    | inr made ↦ let e : Some v ≡ None = sym live ∙ made.1 in let no : ⊥ = cc in no
  ]

  to_itself : Passes w Run t 1 1
  to_itself = inl refl

  -- ---- a byte stands where it is, and nowhere else

  not_elsewhere : Stands w [] t 1 2 0 0 7 → ⊥
  not_elsewhere h = let e : ◌≡◌ {A = ℕ} 2 1 = h.2 in let no : ⊥ = cc in no

  one_byte : Holds w 1 0 0 7 → Holds w 1 0 0 8 → ⊥
  one_byte a b =
      let v : a.0 ≡ b.0 = same_Some a.0 b.0 (sym a.1 ∙ b.1) in
      let x : a.2.0 ≡ b.2.0 = same_Some a.2.0 b.2.0 (sym a.2.1 ∙ ap (λ (u : View). get u.image.pages 0) v ∙ b.2.1) in
      let e : ◌≡◌ {A = ℕ} 7 8 = sym a.2.2 ∙ ap (λ (p : Page). slice_index p.bytes 0) x ∙ b.2.2 in
      let no : ⊥ = cc in no

-- ---- a step that stores nothing, and is no exec, puts no byte into a page that was there

module _ (v : View) (x : Page) (at : get v.image.pages 2 ≡ Some x) (nothing : stored_by v ≡ nothing_stored) (step : (own v).answer ≡ Stepped) where
  not_put : IsPut v 2 0 7 → ⊥
  not_put h = elim h [
    | inl stored ↦ let here : 2 * 4096 + 0 < 0 + 0 = subst (λ (s : Store). 2 * 4096 + 0 < s.address + length s.bytes) nothing stored.0.1 in omega (arith, here)
    | inr rest ↦ elim rest [
      | inl zero ↦ let e : Some x ≡ None = sym at ∙ zero.0 in let no : ⊥ = cc in no
      | inr execed ↦ let e : Stepped ≡ Called (call_in v).number (pos execed.1.3.argc) = sym step ∙ execed.1.10 in let no : ⊥ = cc in no
    ]
  ]
