-- The row sbrklazy, as the code goes through it.
use Rattle.kcall_core.proofs.Prelude.{ℕ, ℤ, ◌∙◌, ◌≡◌, ap, arith, c_int, Call, done, each_of, grown_lazily, Hart, HasImage, held_at, IsSound, Kernel, lazily-price, lazy-inside, lazy-outside, live_now}
use Rattle.kcall_core.proofs.Prelude.{None, Option, pos, refused, resized_lazily, sbrklazy, sbrklazy_same, slot_now, Some, state_of, sym, view_now, view_of}
use Rattle.kcall_core.proofs.table.Stops.{now-slot}

-- the size that the code comes to
pub lazy-size : (k : Kernel) (h : Hart) (sound : IsSound k h) (i : ℕ) → k.current ≡ Some i → (c : Call) (old : ℕ)
    → old ≡ (held_at (each_of k.memories) i).image.size → (n : ℤ) → n ≡ c_int c.a0 → (found new : Option ℕ) → found ≡ resized_lazily old n → found ≡ new
    → resized_lazily (live_now k h).image.size (c_int c.a0) ≡ new
lazy-size k h sound i is c old size n arg found new value here =
    let slot : i ≡ slot_now k = now-slot i sound is in
    let same : old ≡ (live_now k h).image.size = size ∙ ap (λ j. (held_at (each_of k.memories) j).image.size) slot in
    sym (value ∙ (λ j. resized_lazily (same j) (arg j))) ∙ here

module _ (k : Kernel) (h : Hart) (c : Call) where
  -- the size can't be
  pub row-lazily-refused : resized_lazily (live_now k h).image.size (c_int c.a0) ≡ None → sbrklazy c (view_now k h) ≡ refused c (view_now k h)
  unfolding view_of
  row-lazily-refused none = sbrklazy_same c (view_now k h) ∙ lazy-outside c (view_now k h) (c_int c.a0) none

  -- or it is the process's, and no frame is taken
  pub row-lazily : {mid : Kernel} {hm : Hart} (size : ℕ) → resized_lazily (live_now k h).image.size (c_int c.a0) ≡ Some size → (value : ℤ)
      → value ≡ pos (live_now k h).image.size → HasImage k h (grown_lazily (live_now k h).image size) mid hm
      → sbrklazy c (view_now k h) ≡ done c value (record (view_now k h) { image = grown_lazily (live_now k h).image size; free = (state_of mid hm).free })
  unfolding view_of
  row-lazily {mid} {hm} size is value told has =
      let free : (state_of k h).free ≡ (state_of mid hm).free = omega (arith, has.state.free, lazily-price (live_now k h).image size) in
      sbrklazy_same c (view_now k h) ∙ lazy-inside c (view_now k h) (c_int c.a0) size is
      ∙ (λ i. done c (sym told i) (record (view_now k h) { image = grown_lazily (live_now k h).image size; free = free i }))
