-- Who waits for a child is in the call wait, and waits for its own.
use Rattle.kernel_spec.proofs.Prelude.{ℕ, ℤ, ◌∙◌, ◌≡◌, ap, Bool, c_int, Call, call_waits_for, Child_of, false, File, IsInCall, Live, negsuc, None, Option, Pipe_end, pos, Read, read_waits_for, refl}
use Rattle.kernel_spec.proofs.Prelude.{Row, row_of, row_waits_for, Sleep, sleep_waits_for, Some, State, sym, Target, target_at, Terminal, true, view_of, Wait, waits_for, Write, write_waits_for}
use Rattle.kernel_spec.proofs.rows.RowNumbers.{row-number}

-- ---- its number is 3

abbrev is_wait : Row → Bool
is_wait Wait = true
is_wait _ = false

wait-number : (z : ℤ) → row_of z ≡ Some Wait → z ≡ pos 3
wait-number = row-number is_wait Wait 3 refl refl

wait-row : (z : ℤ) → z ≡ pos 3 → row_of z ≡ Some Wait
unfolding row_of
wait-row z e = ap row_of e

-- ---- what it waits for

no-read : (t : Option Target) (a : ℕ) → read_waits_for t ≡ Child_of a → ⊥
no-read None a e = cc
no-read (Some Terminal) a e = cc
no-read (Some (File program offset)) a e = cc
no-read (Some (Pipe_end i end)) a e = cc

no-write : (t : Option Target) (a : ℕ) → write_waits_for t ≡ Child_of a → ⊥
no-write None a e = cc
no-write (Some Terminal) a e = cc
no-write (Some (File program offset)) a e = cc
no-write (Some (Pipe_end i end)) a e = cc

no-sleep : (c : Call) (z : ℤ) (a : ℕ) → sleep_waits_for c z ≡ Child_of a → ⊥
no-sleep c (pos n) a e = cc
no-sleep c (negsuc k) a e = cc

module _ (s : State) (q : ℕ) (m : Live) where
  -- a call that waits for a child
  abbrev pub InWait : Type 0
  InWait = (c : Call) × (m.call ≡ Some c) × (c.number ≡ pos 3)

  by-row : (a : ℕ) (c : Call) (r : Option Row) → row_waits_for s q m c r ≡ Child_of a → (r ≡ Some Wait) × (q ≡ a)
  by-row a c (Some Wait) e = (refl, cc)
  by-row a c (Some Read) e = absurd (no-read (target_at s m (c_int c.a0)) a e)
  by-row a c (Some Write) e = absurd (no-write (target_at s m (c_int c.a0)) a e)
  by-row a c (Some Sleep) e = absurd (no-sleep c (c_int c.a0) a e)
  by-row a c r e = let no : ⊥ = cc in absurd no

  by-call : (a : ℕ) (o : Option Call) → m.call ≡ o → call_waits_for s q m o ≡ Child_of a → (q ≡ a) × InWait
  by-call a None is e = let no : ⊥ = cc in absurd no
  by-call a (Some c) is e = let (row, same) = by-row a c (row_of c.number) e in (same, (c, is, wait-number c.number row))

  pub waits-for-child : (a : ℕ) → waits_for s q m ≡ Child_of a → (q ≡ a) × InWait
  waits-for-child a e = by-call a m.call refl e

  pub waits-in-wait : InWait → waits_for s q m ≡ Child_of q
  waits-in-wait (c, is, number) = ap (call_waits_for s q m) is ∙ ap (row_waits_for s q m c) (wait-row c.number number)

  -- seen in its view, also in another state
  pub is-in-wait : (t : State) (n : Live) → n.call ≡ m.call → InWait → IsInCall 3 (view_of t q n)
  unfolding view_of
  is-in-wait t n same (c, is, number) = (c, same ∙ is, number)

  pub in-wait : (t : State) (n : Live) → n.call ≡ m.call → IsInCall 3 (view_of t q n) → InWait
  unfolding view_of
  in-wait t n same (c, is, number) = (c, sym same ∙ is, number)
