-- The row sbrk, as the code goes through it.
use Rattle.kcall_core.proofs.Prelude.{ℕ, ℤ, ◌∙◌, ◌≡◌, ◌≤◌, ap, arith, at_size, c_int, Call, done, each_of, Hart, HasImage, held_at, IsSound, IsTooDear, Kernel, live_now, minus_one, None, Option, pos}
use Rattle.kcall_core.proofs.Prelude.{refused, resized, sbrk, sbrk-outside, sbrk-resized, sbrk-too-dear, sbrk_same, SIZE_LIMIT, slot_now, Some, state_of, sym, to_z, to_z_pos, view_now, view_of, w64}
use Rattle.kernel_spec.specs.rows.Buffers.{grown}
use Rattle.kcall_core.proofs.table.Stops.{now-slot}

-- the size that the code comes to
pub row-size : (k : Kernel) (h : Hart) (sound : IsSound k h) (i : ℕ) → k.current ≡ Some i → (c : Call) (old : ℕ)
    → old ≡ (held_at (each_of k.memories) i).image.size → (n : ℤ) → n ≡ c_int c.a0 → (found new : Option ℕ) → found ≡ resized old n → found ≡ new
    → resized (live_now k h).image.size (c_int c.a0) ≡ new
row-size k h sound i is c old size n arg found new value here =
    let slot : i ≡ slot_now k = now-slot i sound is in
    let same : old ≡ (live_now k h).image.size = size ∙ ap (λ j. (held_at (each_of k.memories) j).image.size) slot in
    sym (value ∙ (λ j. resized (same j) (arg j))) ∙ here

-- and the answer that it gives
pub row-answer : (k : Kernel) (h : Hart) (sound : IsSound k h) (i : ℕ) → k.current ≡ Some i → (old : ℕ)
    → old ≡ (held_at (each_of k.memories) i).image.size → old ≤ SIZE_LIMIT → (value : ℤ) → value ≡ to_z w64 old → value ≡ pos (live_now k h).image.size
row-answer k h sound i is old size limit value told =
    let slot : i ≡ slot_now k = now-slot i sound is in
    let same : old ≡ (live_now k h).image.size = size ∙ ap (λ j. (held_at (each_of k.memories) j).image.size) slot in
    told ∙ to_z_pos w64 old (omega (arith, limit)) ∙ ap pos same

module _ (k : Kernel) (h : Hart) (c : Call) {mid : Kernel} {hm : Hart} where
  -- the view with its own image, and as many frames free
  pub kept : HasImage k h (live_now k h).image mid hm → refused c (view_now k h) ≡ done c minus_one (record (view_now k h) { image = (live_now k h).image; free = (state_of mid hm).free })
  unfolding view_of
  kept has =
      let free : (state_of k h).free ≡ (state_of mid hm).free = omega (arith, has.state.free) in
      ap (λ n. done c minus_one (record (view_now k h) { image = (live_now k h).image; free = n })) free

  -- the size can't be
  pub row-outside : HasImage k h (live_now k h).image mid hm → resized (live_now k h).image.size (c_int c.a0) ≡ None
      → sbrk c (view_now k h) ≡ done c minus_one (record (view_now k h) { image = (live_now k h).image; free = (state_of mid hm).free })
  unfolding view_of
  row-outside has none = sbrk_same c (view_now k h) ∙ sbrk-outside c (view_now k h) (c_int c.a0) none ∙ kept has

  module _ (size : ℕ) (is : resized (live_now k h).image.size (c_int c.a0) ≡ Some size) (limit : size ≤ SIZE_LIMIT) where
    -- the frames don't suffice
    pub row-too-dear : (live_now k h).image.size ≤ size → IsTooDear k (live_now k h).image (grown (live_now k h).image size) → HasImage k h (live_now k h).image mid hm
        → sbrk c (view_now k h) ≡ done c minus_one (record (view_now k h) { image = (live_now k h).image; free = (state_of mid hm).free })
    unfolding view_of state_of
    row-too-dear more dear has = sbrk_same c (view_now k h) ∙ sbrk-too-dear c (view_now k h) (c_int c.a0) size is limit more dear ∙ kept has

    -- or they do
    pub row-resized : (value : ℤ) → value ≡ pos (live_now k h).image.size → HasImage k h (at_size (live_now k h).image size) mid hm
        → sbrk c (view_now k h) ≡ done c value (record (view_now k h) { image = at_size (live_now k h).image size; free = (state_of mid hm).free })
    unfolding view_of
    row-resized value told has =
        sbrk_same c (view_now k h) ∙ sbrk-resized c (view_now k h) (c_int c.a0) size (state_of mid hm).free is limit has.state.free
        ∙ ap (λ z. done c z (record (view_now k h) { image = at_size (live_now k h).image size; free = (state_of mid hm).free })) (sym told)
