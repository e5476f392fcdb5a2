-- Who waits for ticks is in the call sleep, and sleeps on the clock's channel.
use Rattle.kernel_spec.proofs.Prelude.{ℕ, ℤ, ◌∙◌, ◌≡◌, ap, Bool, c_int, Call, call_waits_for, Channel, Condition, false, File, is_for, IsInCall, IsTime, Live, negsuc, None, Option, Pipe_end, pos}
use Rattle.kernel_spec.proofs.Prelude.{Read, read_waits_for, refl, Row, row_of, row_waits_for, Sleep, sleep_waits_for, Some, State, sym, Target, target_at, Terminal, Time, true, View, view_of}
use Rattle.kernel_spec.proofs.Prelude.{waits_for, Write, write_waits_for}
use Rattle.proc_table.specs.Channels.{same_channel}
use Rattle.kernel_spec.proofs.rows.RowNumbers.{row-number}
use Rattle.proc_table.specs.declared.channel.Channel.TheVariants as on

abbrev is_sleep : Row → Bool
is_sleep Sleep = true
is_sleep _ = false

sleep-number : (z : ℤ) → row_of z ≡ Some Sleep → z ≡ pos 13
sleep-number = row-number is_sleep Sleep 13 refl refl

no-read : (t : Option Target) → is_for (read_waits_for t) on.Clock ≡ true → ⊥
no-read None e = cc
no-read (Some Terminal) e = cc
no-read (Some (File program offset)) e = cc
no-read (Some (Pipe_end i end)) e = cc

no-write : (t : Option Target) → is_for (write_waits_for t) on.Clock ≡ true → ⊥
no-write None e = cc
no-write (Some Terminal) e = cc
no-write (Some (File program offset)) e = cc
no-write (Some (Pipe_end i end)) e = cc

module _ (s : State) (q : ℕ) (m : Live) where
  by-row : (c : Call) (r : Option Row) → is_for (row_waits_for s q m c r) on.Clock ≡ true → r ≡ Some Sleep
  by-row c (Some Read) e = absurd (no-read (target_at s m (c_int c.a0)) e)
  by-row c (Some Write) e = absurd (no-write (target_at s m (c_int c.a0)) e)
  by-row c (Some Sleep) e = refl
  by-row c r e = let no : ⊥ = cc in absurd no

  by-call : (o : Option Call) → m.call ≡ o → is_for (call_waits_for s q m o) on.Clock ≡ true → (c : Call) × (m.call ≡ Some c) × (c.number ≡ pos 13)
  by-call None is e = let no : ⊥ = cc in absurd no
  by-call (Some c) is e = (c, is, sleep-number c.number (by-row c (row_of c.number) e))

  -- on the clock: in call 13
  pub counts-ticks : is_for (waits_for s q m) on.Clock ≡ true → (c : Call) × (m.call ≡ Some c) × (c.number ≡ pos 13)
  counts-ticks e = by-call m.call refl e

  -- in call 13, and asleep on something that it waits for: on the clock
  pub on-clock : (c : Call) (d : Channel) → m.call ≡ Some c → c.number ≡ pos 13 → is_for (waits_for s q m) d ≡ true → same_channel d on.Clock ≡ true
  unfolding row_of
  on-clock c d is number e = by (c_int c.a0) d (sym (ap (λ o. is_for (call_waits_for s q m o) d) is ∙ ap (λ z. is_for (row_waits_for s q m c (row_of z)) d) number) ∙ e)
    where
      by : (z : ℤ) (d : Channel) → is_for (sleep_waits_for c z) d ≡ true → same_channel d on.Clock ≡ true
      by (pos n) on.Clock e = refl
      by (pos n) d e = let no : ⊥ = cc in absurd no
      by (negsuc k) d e = let no : ⊥ = cc in absurd no

pub is-clock : (d : Channel) → same_channel d on.Clock ≡ true → d ≡ on.Clock
is-clock on.Clock e = refl
is-clock d e = let no : ⊥ = cc in absurd no

pub time-clock : (c : Condition) (d : Channel) → IsTime c → is_for c d ≡ true → same_channel d on.Clock ≡ true
time-clock c d (since, ticks, is) e = by d (sym (ap (λ a. is_for a d) is) ∙ e)
  where
    by : (d : Channel) → is_for (Time since ticks) d ≡ true → same_channel d on.Clock ≡ true
    by on.Clock e = refl
    by d e = let no : ⊥ = cc in absurd no

pub in-thirteen : (t : State) (q : ℕ) (l : Live) (v : View) → view_of t q l ≡ v → (c : Call) × (l.call ≡ Some c) × (c.number ≡ pos 13) → IsInCall 13 v
unfolding view_of
in-thirteen t q l v same (c, is, number) = (c, ap (λ (w : View). w.call) (sym same) ∙ is, number)

pub call-same : (t : State) (q : ℕ) (l : Live) (v : View) → view_of t q l ≡ v → l.call ≡ v.call
unfolding view_of
call-same t q l v same = ap (λ (w : View). w.call) same
