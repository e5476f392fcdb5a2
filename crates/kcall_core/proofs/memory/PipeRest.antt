-- What of a buffer is left, from a place in it on.
use Rattle.kcall_core.proofs.Prelude.{ℕ, ◌%◌, ◌+◌, ◌-◌, ◌<◌, ◌^◌, ◌∙◌, ◌≡◌, ◌≤◌, Access, ap, AreSound, arith, both_ways, cases_lt, each_of, get_or, HasMemory, held_at, held_in, Image, image_of, inl}
use Rattle.kcall_core.proofs.Prelude.{inr, IsSome, Load, may-beyond, Memories, Memory, None, Option, or_nothing, reaches, reaches-fewer, reaches-none, reaches-not, reaches-rest, reaches_touching}
use Rattle.kcall_core.proofs.Prelude.{readable, refl, Some, Store, subst, sym, touching-rest, true, writable_now}
use Rattle.kcall_core.proofs.memory.Changes.{each-at, there-inside}
use Rattle.kcall_core.proofs.memory.Written.{readable-inside}

-- what a process may reach lies below 2^38
reached-low : (access : Access) (m : Memories) (slot a n d : ℕ) → HasMemory (each_of m) slot → reaches access (held_at (each_of m) slot).image a n ≡ true → d < n → a + d < 2 ^ 38
reached-low access m slot a n d there all lt = by (get_or m.each.items slot None) (each-at m slot)
  where
    none-held : IsSome (held_in m.ram None) → ⊥
    none-held h = cc

    by : (o : Option Memory) → get_or (each_of m) slot None ≡ held_in m.ram o → a + d < 2 ^ 38
    by None is = absurd (none-held (subst IsSome is there))
    by (Some memory) is =
        let seen : reaches access (image_of m.ram memory.space) a n ≡ true = ap (λ o. reaches access (or_nothing o).image a n) (sym is) ∙ all in
        elim (cases_lt (a + d) (2 ^ 38)) [
          | inl low ↦ low
          | inr high ↦ absurd (both_ways _ (reaches-not access (image_of m.ram memory.space) a n d lt (may-beyond access m.ram memory.space (a + d) high)) seen)
        ]

-- the rest of a buffer can be reached from its next byte on, wherever the sum of two words lies
module _ (access : Access) (m : Memories) (slot a n d : ℕ) (there : HasMemory (each_of m) slot)
    (all : reaches access (held_at (each_of m) slot).image a n ≡ true) (at : ℕ) (at-is : at ≡ (a + d) % 2 ^ 64) where
  pub next-at : d < n → at ≡ a + d
  next-at less = let low : a + d < 2 ^ 38 = reached-low access m slot a n d there all less in omega (arith, at-is, low)

  pub rest-reached : (other : ℕ) → other ≡ slot → (left : ℕ) → left ≡ n - d → reaches access (held_at (each_of m) other).image at left ≡ true
  rest-reached other same left left-is = elim (cases_lt d n) [
    | inl less ↦ (λ i. reaches access (held_at (each_of m) (same i)).image (next-at less i) (left-is i)) ∙ reaches-rest access (held_at (each_of m) slot).image a n d all (omega (arith, less))
    | inr over ↦ let none : left ≡ 0 = omega (arith, left-is, over) in (λ i. reaches access (held_at (each_of m) other).image at (none i)) ∙ reaches-none access (held_at (each_of m) other).image at
  ]

-- the same of a buffer that is read, whose absent pages read as zeros
module _ (m : Memories) (slot a n d : ℕ) (sound : AreSound m) (there : HasMemory (each_of m) slot)
    (all : readable (held_at (each_of m) slot).image a n ≡ true) (at : ℕ) (at-is : at ≡ (a + d) % 2 ^ 64) where
  readable-low : d < n → a + d < 2 ^ 38
  readable-low lt = by (get_or m.each.items slot None) refl
    where
      none-held : IsSome (held_in m.ram None) → ⊥
      none-held h = cc

      by : (o : Option Memory) → get_or m.each.items slot None ≡ o → a + d < 2 ^ 38
      by None is = absurd (none-held (subst IsSome (each-at m slot ∙ ap (held_in m.ram) is) there))
      by (Some memory) is = readable-inside (record { sound = sound; inside = there-inside m slot there; is = is }) a n all d lt

  pub next-read : d < n → at ≡ a + d
  next-read less = let low : a + d < 2 ^ 38 = readable-low less in omega (arith, at-is, low)

  pub rest-read : (other : ℕ) → other ≡ slot → (left : ℕ) → left ≡ n - d → readable (held_at (each_of m) other).image at left ≡ true
  unfolding reaches_touching
  rest-read other same left left-is = elim (cases_lt d n) [
    | inl less ↦ (λ i. readable (held_at (each_of m) (same i)).image (next-read less i) (left-is i)) ∙ touching-rest Load (held_at (each_of m) slot).image a n d all (omega (arith, less))
    | inr over ↦ let none : left ≡ 0 = omega (arith, left-is, over) in (λ i. readable (held_at (each_of m) other).image at (none i))
  ]

-- fewer bytes from the same address may be written where more may
pub writable-fewer : (i : Image) (a n m : ℕ) → m ≤ n → writable_now i a n ≡ true → writable_now i a m ≡ true
writable-fewer i a n m le all = reaches-fewer Store i a n m le all
