-- After every step each byte of a process's memory is of its own.
use Rattle.kernel_spec.proofs.Prelude.{ℕ, ◌*◌, ◌+◌, ◌<◌, ◌≡◌, ◌≤◌, ◌⊎◌, arith, cases_lt, EachByteIsOfItsOwn, get, inl, inr, IsStored, length, None, Option, Page, refl, slice_index, Some, Store}
use Rattle.kernel_spec.proofs.Prelude.{stored_by, sym, View}
use Rattle.kernel_spec.proofs.rows.NewPages.{no_old_byte, only_stores_change_bytes}

-- a byte is stored, or it isn't
stored_or_not : (v : View) (a : ℕ) → IsStored v a ⊎ ¬ IsStored v a
stored_or_not v a = by (stored_by v)
  where
    by : (s : Store) → ((s.address ≤ a) × (a < s.address + length s.bytes)) ⊎ ¬ ((s.address ≤ a) × (a < s.address + length s.bytes))
    by s = elim (cases_lt a s.address) [
      | inl before ↦ inr (λ is. let low = is.0 in omega (arith, before, low))
      | inr from ↦ elim (cases_lt a (s.address + length s.bytes)) [
        | inl inside ↦ inl (from, inside)
        | inr behind ↦ inr (λ is. let high = is.1 in omega (arith, behind, high))
      ]
    ]

pub each_byte_is_of_its_own : EachByteIsOfItsOwn
each_byte_is_of_its_own v n page y i whole next apart is below = elim (stored_or_not v (page * 4096 + i)) [
  | inl stored ↦ inl stored
  | inr other ↦ inr (by (get v.image.pages page) refl other)
]
  where
    by : (o : Option Page) → get v.image.pages page ≡ o → ¬ IsStored v (page * 4096 + i)
        → ((x : Page) × (get v.image.pages page ≡ Some x) × (slice_index x.bytes i ≡ slice_index y.bytes i)) ⊎ ((get v.image.pages page ≡ None) × (slice_index y.bytes i ≡ 0))
    by None was other = inr (was, (((no_old_byte v n next).1 apart) page y (was, is)).1 i below other)
    by (Some x) was other = inl (x, was, sym ((only_stores_change_bytes v n whole next apart page x y was is).1 i below other))
